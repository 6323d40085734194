-- `commit` keeps the rule.
use Rattle.std.proofs.Common.{◌≡◌, ◌≢◌, ◌⊎◌, ℕ, zero, suc, ◌+◌, ◌*◌, ◌%◌, ◌^◌, ◌<◌, ◌≤◌, ◌==◌, Bool, true, false, List, [], ◌∷◌, ◌++◌, length, set, sym, refl, ap, ◌∙◌, subst, ⊎_elim, inl, inr, arith, Some, None, is_some, slice_index, length-set, length-append, get_or-set_other, get_or-set_same, if◌then◌else◌}
use Rattle.tc_hall.proofs.Vocabulary.{AreTogether, Block, CLOCK, DidRun, DidSeal, IsHandedOver, IsPass, KeptHall, Knows, Lawful, LockView, MAX_THREADS, PackageView, Seals, Shown, HallTerms, after_seal, bare, end_after, get_elem?, has, keeps, kept, last_of, lock_in, locked_in, locks, none, of_thread, of_worker, sealed_as, sealed_block, slot_word, some, some-injective, some-ne-none}
use Rattle.tc_hall.proofs.Vocabulary.{Stop, stepped, threads, with_journal, with_seal, with_states}
use Rattle.std.specs.Prelude.{filter, Option}
use Rattle.tc_hall.specs.declared.board.PassCall.TheVariants.{Commit}
use Rattle.std.proofs.lemmas.Nat.{mul-le}
use Rattle.atomic_table.proofs.Lists.{set_here, set_else, at_longer, at_last}
use Rattle.tc_journal.specs.Handing.{IsRunOn, IsStillAt}
use Rattle.tc_journal.proofs.Rows.{ComesTogether, each_still, runs_on_from, stays_from, thread_of, worker_of}
use Rattle.tc_context.specs.View.{Allows as AllowsBlock}
use Rattle.tc_law.specs.Lawful.{IsLimited}
use Rattle.tc_law.proofs.Following.{blocks_are}
use Rattle.tc_law.proofs.Lawful.{appended, strict_states}
use Rattle.tc_mutex_spec.proofs.ListLaws.{there}
use Rattle.tc_mutex_spec.proofs.Histories.{stamp_at}
use Rattle.tc_context.proofs.Moved.{some_map}
use Rattle.tc_context.proofs.Staging.{some_of}
use Rattle.tc_context.proofs.Running.{sealed_at}
use Rattle.tc_hall.proofs.Outs.{seal_outs, package_out}
use Rattle.tc_hall.proofs.Placing.{moves}
use Rattle.tc_hall.proofs.Packing.{seals_locks}
use Rattle.tc_hall.proofs.LockLists.{add_all-has, with_states-has}
use Rattle.tc_hall.proofs.Listing.{listed_seals}
use Rattle.tc_hall.proofs.Ranks.{apart_stays, stop_stays, IsTrueCall, pass_kept, passes_stay, stops_still, stops_back}
use Rattle.tc_hall.proofs.Moves.{St, is_out}
use Rattle.tc_hall.proofs.Cases.{same_at}
use Rattle.tc_lemmas.proofs.Lists.{at_end}

-- a lock of the sealed package was in the package before its block
pub came : (image : Shown) (p q : PackageView) (n w : ℕ) → DidRun image p q → (i : ℕ) (l : LockView) → locked_in (with_seal n w q) i ≡ Some l → (o : LockView) × (locked_in p i ≡ Some o)
came image p q n w ran i l e = some_of (locked_in p i) (
    sym (ran.runs.keeps.set i) ∙ sym (some_map (with_journal (sealed_as n w)) (lock_in q.context.locks i)) ∙ ap is_some (sym (sealed_at n w q.context.locks i) ∙ e)
    )

-- the law after the block
law_after : (image its : Shown) (fuel limit : ℕ) (h : List Block) (places : List PackageView) (segments : List LockView) (p q : PackageView) (n w : ℕ) → its ≡ image → IsLimited image fuel → Lawful image fuel limit h places segments → get_elem? places q.context.thread ≡ some (bare p)
    → ((i : ℕ) (l : LockView) → locked_in p i ≡ Some l → get_elem? segments i ≡ some (kept l)) → (ran : DidRun its p q) → n ≡ length h → w < 2 ^ 32 → AllowsBlock q.context ran.block w
    → Lawful image fuel limit (h ++ sealed_block n w ran.block ∷ []) (set places q.context.thread (bare (with_seal n w q))) (with_states (with_seal n w q).context.locks segments)
law_after image its fuel limit h places segments p q n w same limits law at own ran is small allows =
    subst (λ (z : Shown × ℕ). Lawful z.0 fuel limit (h ++ sealed_block z.1 w ran.block ∷ []) (set places q.context.thread (bare (with_seal z.1 w q))) (with_states (with_seal z.1 w q).context.locks segments)) (λ i. (same i, sym is i))
    (appended its fuel limit h places segments p q (subst (λ z. IsLimited z fuel) (sym same) limits) (subst (λ z. Lawful z fuel limit h places segments) (sym same) law) (record { place = ap (get_elem? places) (sym ran.runs.keeps.thread) ∙ at; locks = own }) ran w small allows)

-- what a filter has, the list has
filter_has : {A : Type 0} (f : A → Bool) (h : List A) (i : ℕ) (b : A) → get_elem? (filter f h) i ≡ some b → (j : ℕ) × (get_elem? h j ≡ some b)
filter_has f [] i b e = absurd (some-ne-none b (sym e))
filter_has {A} f (c ∷ cs) i b e = by (f c) (λ j h. filter_has f cs j b h) i e
  where
    by : (v : Bool) → ((j : ℕ) → get_elem? (filter f cs) j ≡ some b → (m : ℕ) × (get_elem? cs m ≡ some b)) → (i : ℕ) → get_elem? (if v then c ∷ filter f cs else filter f cs) i ≡ some b → (m : ℕ) × (get_elem? (c ∷ cs) m ≡ some b)
    by true more zero e = (0, e)
    by true more (suc i) e = (let r = more i e in (suc r.0, r.1))
    by false more i e = (let r = more i e in (suc r.0, r.1))

module _ (k : HallTerms) (s : St k) (r : KeptHall k s) (id : ℕ) (v : Knows) (q : PackageView) (a : Seals v q) (live : v.spent ≡ false) (at : get_elem? s.views id ≡ some v) where
  abbrev stamp : ℕ
  stamp = slice_index s.words CLOCK

  abbrev b : Block
  b = sealed_block stamp v.worker a.ran.block

  abbrev now : PackageView
  now = with_seal stamp v.worker q

  abbrev t : ℕ
  t = q.context.thread

  abbrev h : List Block
  h = r.told.history

  o : (t < threads k) × (r.placed.holder t ≡ some id) × (get_elem? r.told.places t ≡ some (bare a.before)) × (slice_index s.words (slot_word t) ≡ 512 + v.worker) × (v.open_slot ≢ Some t → get_elem? s.homes t ≡ some (some None)) × (v.open_slot ≡ Some t → get_elem? s.homes t ≡ some none)
  o = is_out k s r id t v (bare a.before) at a.has

  abbrev w : Knows
  w = after_seal v b now

  old : IsPass k.image.value k.workers h s.words v
  old = r.passes id v at

  came_here : (i : ℕ) (l : LockView) → locked_in now i ≡ Some l → (x : LockView) × (locked_in a.before i ≡ Some x)
  came_here = came v.image a.before q stamp v.worker a.ran

  mine : (i : ℕ) (l : LockView) → locked_in a.before i ≡ Some l → get_elem? r.told.segments i ≡ some (kept l)
  mine i l e = (r.locks_placed.owned id v i (kept l) at (a.locks i l e)).1

  law : Lawful k.image.value k.fuel k.limit (h ++ b ∷ []) (set r.told.places t (bare now)) (with_states now.context.locks r.told.segments)
  law =
      law_after k.image.value v.image k.fuel k.limit h r.told.places r.told.segments a.before q stamp v.worker (old.of live) (record { threads = r.told.limits.threads; turns = r.told.limits.fuel }) r.told.law o.2 mine a.ran r.clock
      (let x = old.worker in let y = r.told.limits.workers.1 in omega (arith, x, y)) (a.allows a.ran.block a.ran.pending)

  -- it comes directly behind the last block of the worker
  next : IsHandedOver (last_of (of_worker h b.worker)) b
  next = subst (λ (o : Option Block). IsHandedOver o b) (sym (r.listed.newest id v at live)) (a.handed a.ran.block a.ran.pending)

  -- its thread's last block is that of the package before it
  log : of_thread h b.thread ≡ a.before.log
  log = ap (of_thread h) (a.ran.thread ∙ sym a.ran.runs.keeps.thread) ∙ sym (r.told.law.packages_after t (bare a.before) o.2).follows.log

  -- where one of the last blocks of its worker and its thread was cut, they are one
  together : ComesTogether h b
  together = subst (λ (z : Option Block × Option Block). AreTogether z.0 z.1) (λ i. (sym (r.listed.newest id v at live) i, ap last_of (sym log) i)) a.together

  pub seals_kept : KeptHall k (stepped s CLOCK ((stamp + 1) % 18446744073709551616) id [] w keeps)
  seals_kept =
      let new : ℕ = (stamp + 1) % 18446744073709551616 in
      let wide : length v.packages ≡ threads k = r.placed.sized id v at live in
      let below = o.0 in
      let here : get_elem? w.packages t ≡ some (Some (bare now)) = set_here v.packages t (Some (bare now)) (omega (arith, wide, below)) in
      let place : get_elem? (set r.told.places t (bare now)) t ≡ some (bare now) = set_here r.told.places t (bare now) (omega (arith, r.told.law.all_packages, below)) in
      let words' : (u : ℕ) → slice_index (set s.words CLOCK new) (slot_word u) ≡ slice_index s.words (slot_word u) = λ u. get_or-set_other s.words CLOCK (slot_word u) new 0 (λ e. omega arith) in
      let most : threads k * (k.fuel + 1) ≤ MAX_THREADS * 65537 = mul-le (threads k) (k.fuel + 1) MAX_THREADS 65537 r.told.limits.threads (omega (arith, r.told.limits.fuel)) in
      let count : length (h ++ b ∷ []) ≡ length h + 1 = length-append h (b ∷ []) in
      let bound = law.bound in let clock = r.clock in
      let done : (u : ℕ) → u < threads k → slice_index s.words (slot_word u) ≡ 2 → slice_index (set s.words CLOCK new) (slot_word u) ≡ 2 = λ u b e. words' u ∙ e in
      let stops = stops_still s.words CLOCK new (λ e. omega arith) in
      let grows : (c : Block) → get_elem? h c.stamp ≡ some c → get_elem? (h ++ b ∷ []) c.stamp ≡ some c = λ c e. at_longer h (b ∷ []) c.stamp c e in
      record {
        told = record {
          history = h ++ b ∷ [];
          places = set r.told.places t (bare now);
          segments = with_states now.context.locks r.told.segments;
          limits = r.told.limits;
          law = law;
          strict = strict_states v.image r.told.places r.told.segments a.before q (record { place = ap (get_elem? r.told.places) (sym a.ran.runs.keeps.thread) ∙ o.2; locks = mine }) a.ran stamp v.worker r.told.strict;
          delegates = record {
            handed = each_still IsHandedOver worker_of h b r.told.delegates.handed next;
            runs_on = each_still IsRunOn worker_of h b r.told.delegates.runs_on (runs_on_from h b together);
            stays = each_still IsStillAt thread_of h b r.told.delegates.stays (stays_from h b together);
          };
          workers = λ i c e. ⊎_elim (λ (z : get_elem? h i ≡ some c). r.told.workers i c z) (λ (z : (i ≡ length h) × (b ≡ c)). subst (λ (x : Block). x.worker < k.workers) z.1 old.worker) (at_end h b c i e);
        };
        words = length-set s.words CLOCK new ∙ r.words;
        slots = r.slots;
        clock = get_or-set_same s.words CLOCK new 0 (omega (arith, r.words)) ∙ (let m : new ≡ length (h ++ b ∷ []) = omega (arith, bound, clock, most, count) in m);
        placed = moves s.words (set s.words CLOCK new) s.homes s.homes s.views id v w at stops (threads k) r.told.places (set r.told.places t (bare now)) t (some id) r.placed (inr o.1)
            (λ u ne. words' u) (λ u ne. refl) (λ u ne. set_else r.told.places t u (bare now) ne) r.told.law.all_packages
            record { worker = refl; spent = refl; long = length-set v.packages t (Some (bare now)); out = λ u ne. set_else v.packages t u (Some (bare now)) ne; open_slot = λ u _ ne e. e; hand_back = λ u _ ne e. e }
            (λ p' e. record {
              view = w;
              pass = set_here s.views id w (there s.views id v v at).0;
              has = here ∙ ap (λ (z : PackageView). some (Some z)) (some-injective (bare now) p' (sym place ∙ e));
              word = words' t ∙ o.3;
              slot = o.4;
              held = o.5;
            })
            (λ p' has'. (refl, place ∙ ap (λ (z : PackageView). some z) (same_at (get_elem? w.packages t) (bare now) p' here has')));
        locks_placed = seals_locks (threads k) (locks k) r.told.segments s.words (set s.words CLOCK new) s.homes s.views id v w now r.locks_placed r.told.law.all_states at live refl refl
            (λ i. get_or-set_other s.words CLOCK (slot_word (threads k + i)) new 0 (λ e. omega arith)) a.before came_here a.locks refl;
        passes = passes_stay k.image.value k.workers h (h ++ b ∷ []) s.words (set s.words CLOCK new) grows done stops s.views id w r.passes
            (pass_kept k.image.value k.workers h (h ++ b ∷ []) s.words (set s.words CLOCK new) grows done stops v w old (refl, refl, refl, refl) (λ i u e. inl e)
            (λ i c e. ⊎_elim (λ z. inl z) (λ (z : (i ≡ length v.sealed) × (b ≡ c)). inr (subst (λ (x : Block). get_elem? (h ++ b ∷ []) x.stamp ≡ some x) z.1 (at_last h b b.stamp (sym r.clock)))) (at_end v.sealed b c i e))
            (λ i c e. ⊎_elim (λ z. inl z) (λ (z : (i ≡ length v.calls) × (Commit t b ≡ c)). inr (subst (IsTrueCall (threads k) (set s.words CLOCK new)) z.1 tt)) (at_end v.calls (Commit t b) c i e)) (λ u e. inl e));
        stop = λ e. stop_stays s.views id v w at (λ i h. (i, at_longer v.calls (Commit t b ∷ []) i Stop h)) (r.stop (stops_back s.words CLOCK new (λ e. omega arith) e));
        apart = apart_stays s.views id v w at record { worker = refl; maker = refl; made = refl; spent = refl; joined = refl } live r.apart;
        listed = listed_seals h s.views id v w at r.listed b refl live r.apart refl refl refl refl refl;
      }

  -- a block of the history has a lower stamp, but for the new one
  lower : (j : ℕ) (c : Block) → get_elem? (h ++ b ∷ []) j ≡ some c → (c.stamp < stamp) ⊎ (c ≡ b)
  lower j c e = ⊎_elim
      (λ (z : get_elem? h j ≡ some c). inl (let x = stamp_at 0 h j c r.told.law.history z in let y = (there h j c c z).0 in let clock = r.clock in omega (arith, x, y, clock)))
      (λ (z : (j ≡ length h) × (b ≡ c)). inr (sym z.1)) (at_end h b c j e)

  place_here : get_elem? (set r.told.places t (bare now)) t ≡ some (bare now)
  place_here = set_here r.told.places t (bare now) (let below = o.0 in omega (arith, r.told.law.all_packages, below))

  pub did_seal : DidSeal q stamp v w
  did_seal = record {
    block = a.ran.block;
    pending = a.ran.pending;
    now = refl;
    out = package_out w now (set_here v.packages t (Some (bare now)) (let below = o.0 in omega (arith, r.placed.sized id v at live, below)))
        (λ i l e. (let was = came_here i l e in let p = mine i was.0 was.1 in
        add_all-has v.locks now.context.locks i l (let z = (there r.told.segments i (kept was.0) (kept was.0) p).0 in omega (arith, r.locks_placed.sized id v at live, r.told.law.all_states, z)) e));
    rest = seal_outs v (sealed_block stamp v.worker a.ran.block) stamp q;
    after_own = λ i c e. (let z = there h c.stamp c c (old.sealed i c e) in let clock = r.clock in omega (arith, clock, z.0));
    after_log = λ i c e. (let f = filter_has (λ (x : Block). x.thread == t) (h ++ b ∷ []) i c (ap (λ (x : List Block). get_elem? x i) (sym (law.packages_after t (bare now) place_here).follows.log) ∙ e) in lower f.0 c f.1);
    after_locks = λ j l i c is e. (let was = came_here j l is in let p = mine j was.0 was.1 in
        let there' : get_elem? (with_states now.context.locks r.told.segments) j ≡ some (kept l) = with_states-has now.context.locks r.told.segments j l (there r.told.segments j (kept was.0) (kept was.0) p).0 is in
        let blocks = blocks_are k.image.value k.fuel k.limit (h ++ b ∷ []) (end_after k.image.value k.fuel (h ++ b ∷ [])) j (kept l) (law.states_after j (kept l) there').follows in
        let f = filter_has (λ (x : Block). has x.held j) (h ++ b ∷ []) i c (ap (λ (x : List Block). get_elem? x i) (sym blocks) ∙ e) in lower f.0 c f.1);
  }
