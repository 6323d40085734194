-- `commit` of a block ties to its turns and their Commit.
use Rattle.std.proofs.Common.{◌≡◌, ◌≢◌, ℕ, zero, suc, ◌+◌, ◌-◌, ◌%◌, ◌<◌, ◌&&◌, Bool, true, false, List, [], ◌∷◌, ◌++◌, length, set, sym, refl, ap, ◌∙◌, subst, ⊎_elim, arith, Option, Some, None, length-append, get_or-set_other}
use Rattle.tc_hall.proofs.Vocabulary.{AreEnabled, At, Block, CLOCK, Commit, Core, DidRun, End, Event, Hall, Has, HasLock, IsShown, Knows, LockAt, LockView, Lying, Mutex, Outline, Package, PackageAt, PackageView, Seals, Shown, Shows, ShowsLock, ShowsThread, State, HallTerms, Thread, after, after_events, after_seal, at_home, bare, commit, commit_effect, get_elem?, has, in_hand}
use Rattle.tc_hall.proofs.Vocabulary.{in_slot, is_running, kept, last_end, lock_in, lock_in_package, lock_in_slot, lock_of, lock_with_pass, locked_in, locks, machine_limits, option_map, outline, packed, place_shown, sealed_as, sealed_block, slot_word, some, some-injective, thread_in, threads, turns_by, unowned, whole, with_journal, with_pass, with_seal}
use Rattle.std.specs.Prelude.{if◌then◌else◌, is_some}
use Rattle.tc_law.proofs.Following.{set_last}
use mathlib.Core.Logic.{dite}
use native.Mathlib.Decide.{ℕ_discrete}
use Rattle.atomic_table.proofs.Lists.{at_set, set_here, set_else}
use Rattle.tc_journal.proofs.Batching.{last_more}
use Rattle.tc_mutex_spec.specs.Machine.{can_turn}
use Rattle.tc_mutex_spec.specs.Locality.{Agree, Apart}
use Rattle.tc_mutex_spec.specs.Blocks.{reach, Runs}
use Rattle.tc_context.specs.declared.context.Context.{Context}
use Rattle.tc_context.specs.Locks.{mutex_or}
use Rattle.tc_context.specs.Whole.{mutex_at, set_of, block_locks}
use Rattle.tc_context.specs.View.{sealed_log}
use Rattle.tc_context.proofs.Partway.{block_inside}
use Rattle.tc_context.proofs.Staging.{some_of}
use Rattle.tc_context.proofs.Running.{sealed_at}
use Rattle.tc_hall.specs.Ties.{RunsThrough}
use Rattle.tc_hall.proofs.Shows.{home_hand, hand_packed}
use Rattle.tc_hall.proofs.Alike.{IsUnownedSame, reach_same, end_same}
use Rattle.tc_hall.proofs.Through.{ended_by, partway, IsCommitted, committed}
use Rattle.tc_hall.proofs.Tying.{out_at, at_it, apart, Moment, Asking, Showing}
use Rattle.tc_hall.proofs.LockLists.{add_all-has, add_all-else}
use Rattle.tc_hall.proofs.Moves.{is_out}
use Rattle.tc_hall.proofs.Cases.{apart as never_both, some_or_none, same_some, same_at, not_taken, not_empty, none_of}
use Rattle.tc_hall.proofs.Taking.{is_lock_out}
use Rattle.tc_context.proofs.Moved.{map_some}
use Rattle.tc_lemmas.proofs.Tests.{true_or_false}

-- ---- the package's block, in a machine that has its thread and its locks

middle : (a b c : Bool) → (a && (b && c)) ≡ true → b ≡ true
middle true true c e = refl
middle true false c e = absurd cc
middle false b c e = absurd cc

own_lock : (t : ℕ) (h : Bool) (o : Option LockView) (l : LockView) (x : Mutex) → o ≡ Some l → unowned x ≡ lock_of l → mutex_or t h o ≡ record x { owner = (mutex_or t h o).owner }
own_lock t h None l x e f = absurd cc
own_lock t h (Some y) l x e f = let same : l ≡ y = cc in sym (ap (λ (z : Mutex). record z { owner = if h then Some t else None }) (f ∙ ap lock_of same))

lock_here : (t : ℕ) (h : Bool) (o : Option LockView) (l : LockView) → o ≡ Some l → unowned (mutex_or t h o) ≡ lock_of l
lock_here t h None l e = absurd cc
lock_here t h (Some y) l e = ap lock_of (let same : y ≡ l = cc in same)

-- what the block makes of a machine
pub record BlockMakes (image : Shown) (p q : Context) (n : ℕ) (end : End) (m : State) : Type 0 where
  pub runs : (j : ℕ) → j < n → is_running ((reach image m p.thread j).threads p.thread).status ≡ true
  pub goes_on : (j : ℕ) → j < n → ended_by image m p.thread j ≡ None
  pub ends : ended_by image m p.thread n ≡ Some end
  pub mine : (reach image m p.thread n).threads p.thread ≡ thread_in q
  pub others : (u : ℕ) → u ≢ p.thread → (reach image m p.thread n).threads u ≡ m.threads u
  pub inside : (i : ℕ) (l : LockView) → lock_in q.locks i ≡ Some l → unowned ((reach image m p.thread n).locks i) ≡ lock_of l
  pub outside : (i : ℕ) → lock_in q.locks i ≡ None → unowned ((reach image m p.thread n).locks i) ≡ unowned (m.locks i)

module _ (image : Shown) (before after' : PackageView) (ran : DidRun image before after') (m : State) (thread : m.threads before.context.thread ≡ thread_in before.context)
    (has_locks : (i : ℕ) (l : LockView) → locked_in before i ≡ Some l → unowned (m.locks i) ≡ lock_of l) where
  abbrev p : Context
  p = before.context

  abbrev q : Context
  q = after'.context

  abbrev t : ℕ
  t = before.context.thread

  abbrev n : ℕ
  n = ran.block.turns

  abbrev m' : State
  m' = record { threads = m.threads; locks = λ i. record (m.locks i) { owner = (mutex_at before.context i).owner } }

  same : IsUnownedSame m m'
  same = record { threads = λ u. refl; locks = λ i. refl }

  inside_set : (i : ℕ) → block_locks image before.context i ≡ true → set_of before.context i ≡ true
  inside_set = block_inside image (set_of before.context) (thread_in before.context) ran.covers

  agree : Agree t (block_locks image before.context) (whole before.context) m'
  agree = record {
    thread = sym thread;
    locks = λ i is. let l = some_of (lock_in before.context.locks i) (inside_set i is) in
        own_lock t (has before.context.guest.held i) (lock_in before.context.locks i) l.0 (m.locks i) l.1 (has_locks i l.0 l.1);
  }

  made : (to : State) × (Runs image m' t n ran.block.end to) × (Agree t (block_locks image before.context) (whole after'.context) to) × (Apart t (block_locks image before.context) m' to)
  made = ran.runs.block m' agree

  to_is : made.0 ≡ reach image m' t n
  to_is = made.1.last

  alike : IsUnownedSame (reach image m t n) (reach image m' t n)
  alike = reach_same image t m m' same n

  -- of a lock of the machine that was reached
  lock_is : (i : ℕ) → unowned ((reach image m t n).locks i) ≡ unowned (made.0.locks i)
  lock_is i = alike.locks i ∙ ap (λ (z : State). unowned (z.locks i)) (sym to_is)

  untouched : (i : ℕ) → block_locks image before.context i ≡ false → unowned ((reach image m t n).locks i) ≡ unowned (m.locks i)
  untouched i out = lock_is i ∙ ap unowned (made.3.locks i out)

  running : (j : ℕ) → j < ran.block.turns → is_running ((reach image m before.context.thread j).threads before.context.thread).status ≡ true
  unfolding can_turn
  running j lt = ap (λ (d : Thread). is_running d.status) ((reach_same image t m m' same j).threads t) ∙ middle _ _ _ (made.1.defined j lt)

  going : (j : ℕ) → j < ran.block.turns → ended_by image m before.context.thread j ≡ None
  going zero lt = refl
  going (suc j) lt = end_same image t m m' same j ∙ made.1.before j (omega arith)

  ending : (j : ℕ) → j ≡ ran.block.turns → ended_by image m before.context.thread j ≡ Some ran.block.end
  ending zero is = absurd (let b = made.1.some in omega arith)
  ending (suc j) is = end_same image t m m' same j ∙ made.1.ends j (omega arith)

  block_makes : BlockMakes image before.context after'.context ran.block.turns ran.block.end m
  block_makes = record {
    runs = running;
    goes_on = going;
    ends = ending ran.block.turns refl;
    mine = alike.threads t ∙ (ap (λ (z : State). z.threads t) (sym to_is) ∙ sym made.2.thread);
    others = λ u ne. alike.threads u ∙ (ap (λ (z : State). z.threads u) (sym to_is) ∙ made.3.threads u ne);
    inside = λ i l e. ⊎_elim
        (λ (is : block_locks image before.context i ≡ true). lock_is i ∙ (sym (ap unowned (made.2.locks i is)) ∙ lock_here after'.context.thread (has after'.context.guest.held i) (lock_in after'.context.locks i) l e))
        (λ (out : block_locks image before.context i ≡ false).
        let x = some_of (lock_in before.context.locks i) (sym (ran.runs.keeps.set i) ∙ ap is_some e) in
        untouched i out ∙ (has_locks i x.0 x.1 ∙ (sym (lock_here t (has before.context.guest.held i) (lock_in before.context.locks i) x.0 x.1)
        ∙ (sym (ap unowned (ran.runs.others i out)) ∙ lock_here after'.context.thread (has after'.context.guest.held i) (lock_in after'.context.locks i) l e))))
        (true_or_false (block_locks image before.context i));
    outside = λ i e. ⊎_elim
        (λ (is : block_locks image before.context i ≡ true). absurd (never_both (set_of before.context i) (sym (ran.runs.keeps.set i) ∙ ap is_some e) (inside_set i is)))
        (λ (out : block_locks image before.context i ≡ false). untouched i out) (true_or_false (block_locks image before.context i));
  }

-- ---- what the hall shows after it

-- the outline after a block of t, whose package is then q
pub record IsAfterBlock (o o' : Outline) (t : ℕ) (q : PackageView) : Type 0 where
  pub place : (u : ℕ) → o'.place u ≡ o.place u
  pub mine : ShowsThread o' t q
  pub others : (u : ℕ) → u ≢ t → (o'.thread u ≡ o.thread u) × (o'.last u ≡ o.last u)
  pub inside : (i : ℕ) (l : LockView) → locked_in q i ≡ Some l → o'.lock i ≡ lock_of l
  pub outside : (i : ℕ) → locked_in q i ≡ None → o'.lock i ≡ o.lock i
  pub lies : (i : ℕ) → o'.lies i ≡ o.lies i

module _ (k : HallTerms) (m : Moment k) (q : PackageView) (b : Block) (new : ℕ) (o o' : Outline) (was : IsShown k m.state o) (now : IsAfterBlock o o' q.context.thread q)
    (below : q.context.thread < threads k) (no_slot : (p : PackageView) → get_elem? m.state.homes q.context.thread ≢ some (some (Some (Package p))))
    (mine : (i : ℕ) (l : LockView) → locked_in q i ≡ Some l → (x : LockView) × HasLock m.view i x) (apart' : (j i : ℕ) (x : Knows) (l l' : LockView) → j ≢ m.id → get_elem? m.state.views j ≡ some x → HasLock x i l → HasLock m.view i l' → ⊥)
    (others' : (j u : ℕ) (x : Knows) (p : PackageView) → j ≢ m.id → get_elem? m.state.views j ≡ some x → Has x u p → u ≢ q.context.thread) where
  abbrev w : Knows
  w = after_seal m.view b q

  abbrev s' : Hall
  s' = record { words = set m.state.words CLOCK new; homes = m.state.homes; views = set m.state.views m.id w }

  wide : length m.view.locks ≡ locks k
  wide = m.rule.locks_placed.sized m.id m.view m.pass m.live

  thread_else : (u : ℕ) (p : PackageView) → u ≢ q.context.thread → ShowsThread o u p → ShowsThread o' u p
  thread_else u p ne h = record { thread = (now.others u ne).0 ∙ h.thread; last = (now.others u ne).1 ∙ h.last }

  commit_thread : (u : ℕ) (p : PackageView) → u < threads k → PackageAt s' u p → ShowsThread o' u p
  commit_thread u p bu (in_slot h) = thread_else u p (λ is. no_slot p (ap (get_elem? m.state.homes) (sym is) ∙ h)) (was.thread u p bu (in_slot h))
  commit_thread u p bu (with_pass j x h has') = ⊎_elim
      (λ (z : (j ≡ m.id) × (w ≡ x)). let mine' : Has w u p = ap (λ (y : Knows). get_elem? y.packages u) z.1 ∙ has' in dite (ℕ_discrete u q.context.thread)
      (λ (is : u ≡ q.context.thread). let same : bare q ≡ p = same_at (get_elem? w.packages q.context.thread) (bare q) p (set_here m.view.packages q.context.thread (Some (bare q)) (let c = m.rule.placed.sized m.id m.view m.pass m.live in omega arith)) (ap (get_elem? w.packages) (sym is) ∙ mine') in
      subst (λ (y : ℕ). ShowsThread o' y p) (sym is) (subst (ShowsThread o' q.context.thread) same record { thread = now.mine.thread; last = now.mine.last }))
      (λ (ne : u ≢ q.context.thread). thread_else u p ne (was.thread u p bu (with_pass m.id m.view m.pass (sym (set_else m.view.packages q.context.thread u (Some (bare q)) ne) ∙ mine')))))
      (λ (z : (j ≢ m.id) × (get_elem? m.state.views j ≡ some x)). thread_else u p (others' j u x p z.0 z.1 has') (was.thread u p bu (with_pass j x z.1 has'))) (at_set m.state.views m.id j w x h)

  lock_else : (i : ℕ) (l : LockView) (y y' : Lying) → locked_in q i ≡ None → ShowsLock o i l y → y ≡ y' → ShowsLock o' i l y'
  lock_else i l y y' empty h is = record { lock = now.outside i empty ∙ h.lock; lies = now.lies i ∙ (h.lies ∙ is) }

  -- a lock of the package is in the pass's hand
  not_mine : (i : ℕ) → i < locks k → ((z : ℕ) → o.lies i ≡ in_hand z → ⊥) → locked_in q i ≡ None
  not_mine i bi never = none_of (locked_in q i) (λ l e. let x = mine i l e in never m.view.worker (was.lock i x.0 (in_hand m.view.worker) bi (lock_with_pass m.id m.view m.pass x.1 refl)).lies)

  commit_lock : (i : ℕ) (l : LockView) (y : Lying) → i < locks k → LockAt k s' i l y → ShowsLock o' i l y
  commit_lock i l y bi (lock_in_slot h is) = let old = was.lock i l at_home bi (lock_in_slot h refl) in lock_else i l at_home y (not_mine i bi (λ z e. home_hand (o.lies i) z old.lies e)) old (sym is)
  commit_lock i l y bi (lock_in_package u p bu h e is) = let old = was.lock i l (packed u) bi (lock_in_package u p bu h e refl) in lock_else i l (packed u) y (not_mine i bi (λ z c. hand_packed (o.lies i) z u c old.lies)) old (sym is)
  commit_lock i l y bi (lock_with_pass j x h has' is) = ⊎_elim
      (λ (z : (j ≡ m.id) × (w ≡ x)). let mine' : HasLock w i l = ap (λ (y : Knows). get_elem? y.locks i) z.1 ∙ has' in
      let worker : in_hand m.view.worker ≡ y = ap (λ (y : Knows). in_hand y.worker) z.1 ∙ sym is in ⊎_elim
      (λ (c : (n : LockView) × (locked_in q i ≡ Some n)). let same : kept c.0 ≡ l = same_at (get_elem? w.locks i) (kept c.0) l (add_all-has m.view.locks q.context.locks i c.0 (omega (arith, wide)) c.1) mine' in
      let old = mine i c.0 c.1 in
      record { lock = now.inside i c.0 c.1 ∙ ap lock_of same; lies = now.lies i ∙ ((was.lock i old.0 (in_hand m.view.worker) bi (lock_with_pass m.id m.view m.pass old.1 refl)).lies ∙ worker) })
      (λ (c : locked_in q i ≡ None). lock_else i l (in_hand m.view.worker) y c (was.lock i l (in_hand m.view.worker) bi (lock_with_pass m.id m.view m.pass (sym (add_all-else m.view.locks q.context.locks i c) ∙ mine') refl)) worker)
      (some_or_none (locked_in q i)))
      (λ (z : (j ≢ m.id) × (get_elem? m.state.views j ≡ some x)). let empty : locked_in q i ≡ None = none_of (locked_in q i) (λ n e. let old = mine i n e in apart' j i x l old.0 z.0 z.1 has' old.1) in
      lock_else i l (in_hand x.worker) y empty (was.lock i l (in_hand x.worker) bi (lock_with_pass j x z.1 has' refl)) (sym is)) (at_set m.state.views m.id j w x h)

  pub commit_shown : IsShown k s' o'
  commit_shown = record {
    place = λ u bu. now.place u ∙ (was.place u bu ∙ ap place_shown (sym (get_or-set_other m.state.words CLOCK (slot_word u) new 0 (λ z. omega arith))));
    thread = commit_thread;
    lock = commit_lock;
  }

-- ---- the tie

none_map : {X Y : Type 0} (f : X → Y) (o : Option X) → option_map f o ≡ None → o ≡ None
none_map f None e = refl
none_map f (Some x) e = absurd cc

-- the log ends with the block that was sealed
sealed_end : (log old : List Block) (o : Option Block) (b : Block) (stamp worker : ℕ) → o ≡ Some b → log ≡ old ++ b ∷ [] → last_end (sealed_log stamp worker log o) ≡ Some b.end
sealed_end log old o b stamp worker is ends =
    (λ i. last_end (sealed_log stamp worker (ends i) (is i)))
    ∙ (ap (λ (z : ℕ). last_end (set (old ++ b ∷ []) z (sealed_block stamp worker b))) (let e : length (old ++ b ∷ []) - 1 ≡ length old = omega (arith, length-append old (b ∷ [])) in e)
    ∙ (ap last_end (set_last old b (sealed_block stamp worker b)) ∙ ap (option_map (λ (z : Block). z.end)) (last_more old (sealed_block stamp worker b))))

module _ (k : HallTerms) (m : Moment k) (q : PackageView) (a : Seals m.view q) where
  abbrev im : Shown
  im = k.image.value

  ran' : DidRun k.image.value a.before q
  ran' = subst (λ (z : Shown). DidRun z a.before q) ((m.rule.passes m.id m.view m.pass).of m.live) a.ran

  block_is : ran'.block ≡ a.ran.block
  block_is = same_some q.pending a.ran.block ran'.block a.ran.pending ran'.pending

  thread_is : q.context.thread ≡ a.before.context.thread
  thread_is = ran'.runs.keeps.thread

  below : q.context.thread < threads k
  below = (is_out k m.state m.rule m.id q.context.thread m.view (bare a.before) m.pass a.has).0

  no_slot : (p : PackageView) → get_elem? m.state.homes q.context.thread ≢ some (some (Some (Package p)))
  no_slot p e =
      let o = is_out k m.state m.rule m.id q.context.thread m.view (bare a.before) m.pass a.has in
      let free : m.view.open_slot ≢ Some q.context.thread = λ is. not_taken (get_elem? m.state.homes q.context.thread) (Package p) (o.5 is) e in
      not_empty (get_elem? m.state.homes q.context.thread) (Package p) (o.4 free) e

  -- a lock of the sealed package was in the package before
  came : (stamp i : ℕ) (l : LockView) → locked_in (with_seal stamp m.view.worker q) i ≡ Some l → (x : LockView) × (lock_in q.context.locks i ≡ Some x) × (l ≡ with_journal (sealed_as stamp m.view.worker) x)
  came stamp i l e = map_some (with_journal (sealed_as stamp m.view.worker)) (lock_in q.context.locks i) l (sym (sealed_at stamp m.view.worker q.context.locks i) ∙ e)

  mine : (stamp i : ℕ) (l : LockView) → locked_in (with_seal stamp m.view.worker q) i ≡ Some l → (x : LockView) × HasLock m.view i x
  mine stamp i l e =
      let x = came stamp i l e in
      let old = some_of (locked_in a.before i) (sym (ran'.runs.keeps.set i) ∙ ap is_some x.1) in
      (kept old.0, a.locks i old.0 old.1)

  not_its : (j u : ℕ) (x : Knows) (p : PackageView) → j ≢ m.id → get_elem? m.state.views j ≡ some x → Has x u p → u ≢ q.context.thread
  not_its j u x p ne at has' is =
      let o = is_out k m.state m.rule m.id q.context.thread m.view (bare a.before) m.pass a.has in
      ne (some-injective j m.id (sym (m.rule.placed.owned j x u p at has').0 ∙ (ap m.rule.placed.holder is ∙ o.1)))

  module _ (c : Core) (seen : Shows k m.state c) where
    its_thread : c.machine.threads a.before.context.thread ≡ thread_in a.before.context
    its_thread = ap c.machine.threads (sym thread_is) ∙ (seen.shown.thread q.context.thread (bare a.before) below (with_pass m.id m.view m.pass a.has)).thread

    its_locks : (i : ℕ) (l : LockView) → locked_in a.before i ≡ Some l → unowned (c.machine.locks i) ≡ lock_of l
    its_locks i l e =
        let b = (is_lock_out k m.state m.rule m.id i m.view (kept l) m.pass (a.locks i l e)).0 in
        (seen.shown.lock i (kept l) (in_hand m.view.worker) b (lock_with_pass m.id m.view m.pass (a.locks i l e) refl)).lock

    makes : BlockMakes k.image.value a.before.context q.context ran'.block.turns ran'.block.end c.machine
    makes = block_makes k.image.value a.before q ran' c.machine its_thread its_locks

    its_place : (c.course a.before.context.thread).place ≡ At m.view.worker
    its_place =
        let o = is_out k m.state m.rule m.id q.context.thread m.view (bare a.before) m.pass a.has in
        ap (λ (z : ℕ). (c.course z).place) (sym thread_is) ∙ out_at k m c seen.shown q.context.thread o.0 o.3

    runs_here : RunsThrough k m.view.worker a.before.context.thread ran'.block.turns ran'.block.end c
    runs_here =
        let w = m.view.worker in
        let t = a.before.context.thread in
        let part = partway k.image.value c t w seen.between in
        record {
          here = λ j lt. at_it k m (after_events k c (turns_by w t j)) t (subst (λ (z : ℕ). z < threads k) thread_is below) ((part j).place t ∙ its_place);
          runs = λ j lt. ap (λ (z : State). is_running (z.threads t).status) (part j).machine ∙ makes.runs j lt;
          goes_on = λ j lt. (part j).ended ∙ makes.goes_on j lt;
          ends = (part ran'.block.turns).ended ∙ makes.ends;
        }

    module _ (stamp : ℕ) (c' : Core) (done : IsCommitted k.image.value c a.before.context.thread ran'.block.turns ran'.block.end c') where
      abbrev reached : State
      reached = reach k.image.value c.machine a.before.context.thread ran'.block.turns

      after_block : IsAfterBlock (outline c) (outline c') q.context.thread (with_seal stamp m.view.worker q)
      after_block = record {
        place = done.place;
        mine = record {
          thread = ap (λ (z : State). z.threads q.context.thread) done.machine ∙ (ap reached.threads thread_is ∙ makes.mine);
          last = ap (λ (z : ℕ). (c'.course z).last) thread_is ∙ (done.last ∙ sym (sealed_end q.log a.before.log q.pending ran'.block stamp m.view.worker ran'.pending ran'.log));
        };
        others = λ u ne. let far : u ≢ a.before.context.thread = λ e. ne (e ∙ sym thread_is) in (ap (λ (z : State). z.threads u) done.machine ∙ makes.others u far, done.last_else u far);
        inside = λ i l e. let x = came stamp i l e in ap (λ (z : State). unowned (z.locks i)) done.machine ∙ (makes.inside i x.0 x.1 ∙ ap lock_of (sym x.2));
        outside = λ i e. ap (λ (z : State). unowned (z.locks i)) done.machine ∙ makes.outside i (none_map (with_journal (sealed_as stamp m.view.worker)) (lock_in q.context.locks i) (sym (sealed_at stamp m.view.worker q.context.locks i) ∙ e));
        lies = done.lies;
      }

    shows_after : (stamp : ℕ) → AreEnabled k.image.value (machine_limits k) c (turns_by m.view.worker a.before.context.thread ran'.block.turns ++ Commit m.view.worker a.before.context.thread ∷ [])
        → Shows k (after m.state m.id (commit_effect m.view stamp a.ran.block q)) (after_events k c (turns_by m.view.worker a.before.context.thread ran'.block.turns ++ Commit m.view.worker a.before.context.thread ∷ []))
    shows_after stamp enabled =
        let t = a.before.context.thread in
        let n = ran'.block.turns in
        let w = m.view.worker in
        let c' = after_events k c (turns_by w t n ++ Commit w t ∷ []) in
        let done = committed k.image.value (machine_limits k) c t w n ran'.block.end seen.between its_place makes.ends enabled in
        record {
          between = done.between;
          shown = commit_shown k m (with_seal stamp w q) (sealed_block stamp w a.ran.block) ((stamp + 1) % 18446744073709551616) (outline c) (outline c') seen.shown (after_block stamp c' done)
              below no_slot (mine stamp) (apart k m) not_its;
        }

-- `commit` of a block of n turns is n times Turn, and then Commit
module _ (k : HallTerms) (m : Moment k) (q : PackageView) (a : Seals m.view q) (stamp : ℕ) (b : Block) (same : a.ran.block ≡ b) where
  these_are : (q.context.thread ≡ a.before.context.thread) × ((ran' k m q a).block ≡ b)
  these_are = (thread_is k m q a, block_is k m q a ∙ same)

  pub commit_asking : Asking k m (commit stamp b q)
  commit_asking c es seen is = subst (λ (z : ℕ × Block). RunsThrough k m.view.worker z.0 z.1.turns z.1.end c) (λ i. (sym these_are.0 i, these_are.1 i)) (runs_here k m q a c seen)

  pub commit_showing : Showing k m (commit stamp b q)
  commit_showing c es seen is enabled =
      let these : es ≡ turns_by m.view.worker a.before.context.thread (ran' k m q a).block.turns ++ Commit m.view.worker a.before.context.thread ∷ [] =
      is ∙ ap (λ (z : ℕ × Block). turns_by m.view.worker z.0 z.1.turns ++ Commit m.view.worker z.0 ∷ []) (λ i. (these_are.0 i, sym these_are.1 i)) in
      subst (λ (z : Block × List Event). Shows k (after m.state m.id (commit_effect m.view stamp z.0 q)) (after_events k c z.1)) (λ i. (same i, sym these i))
      (shows_after k m q a c seen stamp (subst (AreEnabled k.image.value (machine_limits k) c) these enabled))
