-- A block from where its first turn may come to its Commit, and its thread's way back.
use Rattle.std.proofs.Common.{◌≡◌, ◌≢◌, ◌⊎◌, ℕ, zero, suc, ◌+◌, ◌<◌, ◌≤◌, ◌^◌, Bool, true, false, not, ◌||◌, ◌==◌, List, [], ◌∷◌, ◌++◌, length, refl, sym, ap, subst, ◌∙◌, arith, inl, inr, append-nil}
use Rattle.std.specs.Cmp.Derive.{both_true}
use Rattle.std.specs.Prelude.{Option, Some, None, is_some, if◌then◌else◌}
use Rattle.std.specs.Option.{option_map}
use Rattle.std.specs.Int.{bit_at}
use Rattle.std.proofs.Math.Bool.{or-true, or-false, or_assoc}
use Rattle.std.proofs.lemmas.Bool.Decides.{nat_tests, eqb_tells}
use Rattle.std.proofs.lemmas.List.Elements.{filter-append}
use Rattle.std.proofs.lemmas.Nat.Bits.{same_from_bits, bit_at_above, bit_at-lt}
use Rattle.tc_core.proofs.Gathering.{takes}
use Rattle.tc_isa.specs.Sets.{has}
use Rattle.tc_elf.specs.Shown.{Shown}
use Rattle.tc_journal.specs.Batch.{begins, is_lock, ends_section, last_of, run_of, run_after}
use Rattle.tc_journal.specs.History.{of_lock, of_thread}
use Rattle.tc_journal.specs.declared.block.Block.{Block}
use Rattle.tc_journal.specs.declared.block.Kind.TheVariants as kind
use Rattle.tc_journal.proofs.Batching.{last_more}
use Rattle.tc_turn.specs.Turn.{Thread, is_running, next_lock}
use Rattle.tc_exec.specs.Told.{IsAct, IsLock}
use Rattle.tc_exec.proofs.Cases.{act_told}
use Rattle.tc_turn.proofs.Turns.{next_some}
use Rattle.tc_mutex_spec.specs.Machine.{State}
use Rattle.tc_mutex_spec.specs.Blocks.{locks_of_block, reach, Stands, has_block}
use Rattle.tc_mutex_spec.proofs.BlocksAlike.{runs_apart}
use Rattle.tc_journal.proofs.Rows.{own_more, other_more, thread_of}
use Rattle.tc_mutex_spec.proofs.Going.{block_survives, block_gives}
use Rattle.tc_mutex_spec.proofs.Replaying.{takes_is}
use Rattle.tc_core.specs.declared.event.Event.TheVariants.{Commit}
use Rattle.tc_core.specs.declared.place.ThreadPlace.TheVariants.{Ready, Parked, Done, At}
use Rattle.tc_core.specs.declared.place.LockPlace.TheVariants.{With, Granted}
use Rattle.tc_core.specs.declared.place.Course.{Course}
use Rattle.tc_core.specs.declared.place.Custody.{Custody}
use Rattle.tc_core.specs.Core.{Core, Limits, is_at, is_slept, is_number, with_of}
use Rattle.tc_core.specs.Events.{is_enabled, effect, is_worker, held_with, held_past, release_of, course_past, custody_on, custody_past}
use Rattle.tc_core.proofs.Quiet.{pick_mine, pick_other}
use Rattle.tc_core.proofs.Erasure.{taken_other}
use Rattle.tc_core.proofs.Tracked.{with_has}
use Rattle.tc_told.specs.Written.{Beginning, Written, place_after}
use Rattle.tc_told.proofs.Leads.{Kept, Leads, comes}
use Rattle.tc_told.proofs.Front.{block_on, IsCustody, beginning_by, kind_by, Between}
use Rattle.tc_told.proofs.Custodies.{IsWith, after_block, held_before, past_kept}
use Rattle.tc_told.proofs.Turns.{can_parts, Turned}
use Rattle.tc_lemmas.proofs.Tests.{eq_self, same_bit}
use Rattle.std.proofs.lemmas.Bool.{cases_lt}

-- a lock that was granted to the block's thread, which stands alone in its line
pub record IsGiven (k : ℕ) (bs : List Block) (b : Block) (x : Custody) : Type 0 where
  pub place : x.place ≡ Granted b.thread
  pub line : x.line ≡ b.thread ∷ []
  pub left : x.left ≡ false
  pub run : x.run ≡ run_after k (run_of k bs) b

-- the block may begin
pub record Opened (image : Shown) (limits : Limits) (seen : List Block) (m : State) (b : Block) (s : Written) : Type 0 where
  pub between : Between seen m s
  pub at : (s.core.course b.thread).place ≡ At b.worker
  pub rests : (u : ℕ) → u ≢ b.thread → u < length image.entries → (s.core.course u).place ≡ place_after m seen u
  pub custody : (k : ℕ) → next_lock image (m.threads b.thread) ≢ Some k → IsCustody limits k (of_lock seen k) (s.core.custody k)
  pub given : (k : ℕ) → next_lock image (m.threads b.thread) ≡ Some k → IsGiven k (of_lock seen k) b (s.core.custody k)
  pub mine : s.next b.thread ≡ record { kind = b.kind; pc = (m.threads b.thread).regs.pc }
  pub next : (u : ℕ) → u ≢ b.thread → s.next u ≡ beginning_by seen m u

-- what is known of the block
pub record IsNext (image : Shown) (limits : Limits) (seen : List Block) (m : State) (b : Block) (to : State) : Type 0 where
  pub stands : Stands image seen m b to
  pub stamp : b.stamp ≡ length seen
  pub held : b.held < 2 ^ 32
  pub worker : b.worker < limits.workers

pub same_sets : (a b : ℕ) → ((k : ℕ) → has a k ≡ has b k) → a ≡ b
same_sets a b same = same_from_bits a b (λ k. same_bit (bit_at a k) (bit_at b k) (bit_at-lt a k) (bit_at-lt b k) (same k))

pub held_with_has : (h : ℕ) (held : ℕ → Bool) (next : Option ℕ) (k : ℕ) → has h k ≡ held k → has (held_with h next) k ≡ locks_of_block held next k
held_with_has h held None k e = e
held_with_has h held (Some lock) k e = with_has h lock k ∙ ap (λ v. (k == lock) || v) e

pub is_lock_other : (o : Option ℕ) (k : ℕ) → o ≢ Some k → is_lock o k ≡ false
is_lock_other None k ne = refl
is_lock_other (Some j) k ne = elim (eqb_tells k j) [ inl h ↦ absurd (ne (ap Some (sym h.1))) | inr h ↦ h.0 ]

pub taken_is : (o : Option ℕ) (t k : ℕ) (x : Custody) → o ≡ Some k → custody_on o t k x ≡ record x { place = With t }
taken_is o t k x e = ap (λ y. custody_on y t k x) e ∙ ap (λ b. if b then record x { place = With t } else x) (eq_self k)

pub has_block_more : (seen : List Block) (b : Block) (u : ℕ) → has_block (seen ++ b ∷ []) u ≡ (has_block seen u || (b.thread == u))
has_block_more [] b u = or-false (b.thread == u)
has_block_more (x ∷ seen) b u = ap (λ v. (x.thread == u) || v) (has_block_more seen b u) ∙ sym (or_assoc (x.thread == u) (has_block seen u) (b.thread == u))

-- after its Commit, its thread is still at the worker
pub record Closed (image : Shown) (limits : Limits) (seen : List Block) (to : State) (w t : ℕ) (s : Written) : Type 0 where
  pub between : Between seen to s
  pub at : (s.core.course t).place ≡ At w
  pub slept : is_slept (s.core.course t).last ≡ is_slept (option_map (λ (c : Block). c.end) (last_of (of_thread seen t)))
  pub rests : (u : ℕ) → u ≢ t → u < length image.entries → (s.core.course u).place ≡ place_after to seen u
  pub custody : (k : ℕ) → IsCustody limits k (of_lock seen k) (s.core.custody k)
  pub next : (u : ℕ) → s.next u ≡ beginning_by seen to u

module _ (image : Shown) (limits : Limits) (seen : List Block) (m to : State) (b : Block) (is : IsNext image limits seen m b to) where
  abbrev t : ℕ
  t = b.thread

  abbrev d : Thread
  d = m.threads b.thread

  abbrev more : List Block
  more = seen ++ b ∷ []

  runs_to : to ≡ reach image m t b.turns
  runs_to = is.stands.runs.last

  -- a lock of the block is below 32
  in_range : (k : ℕ) → locks_of_block d.held (next_lock image d) k ≡ true → k < 32
  in_range k h = go (cases_lt k 32)
    where
      go : (k < 32) ⊎ (32 ≤ k) → k < 32
      go (inl lt) = lt
      go (inr le) = absurd (let zero : has b.held k ≡ false = ap (λ x. x == 1) (bit_at_above b.held 32 k is.held le) in let e : has b.held k ≡ true = is.stands.held k ∙ h in cc)

  small : (k : ℕ) → d.held k ≡ true → k < 32
  small k h = in_range k (cover (next_lock image d))
    where
      cover : (o : Option ℕ) → locks_of_block d.held o k ≡ true
      cover None = h
      cover (Some j) = ap (λ v. (k == j) || v) h ∙ or-true (k == j)

  -- the lock that is taken is above all that are held
  above : (lock : ℕ) → next_lock image d ≡ Some lock → (lock < 32) × ((j : ℕ) → d.held j ≡ true → j < lock)
  above lock e =
      let was = next_some image d lock e in
      let told : IsLock image d.held lock = subst (λ a. IsAct image d.held d.regs a) was.1 (act_told image d.held d.regs 0) in
      (in_range lock (ap (λ o. locks_of_block d.held o lock) e ∙ ap (λ v. v || d.held lock) (eq_self lock)), λ j h. told.above j (small j h) h)

  pub begins_is : (k : ℕ) → begins k b ≡ is_lock (next_lock image d) k
  begins_is k = ap (λ o. is_lock o k) (takes_is b d.held (next_lock image d) is.stands.held is.stands.section above)

  pub worker_is : is_worker limits b.worker ≡ true
  worker_is = (let lt = is.worker in grind (arith, nat_tests))

  -- the locks that the block keeps
  pub keeps : (k : ℕ) → has b.held k ≡ true → (to.threads t).held k ≡ not (ends_section k b)
  keeps k h = ap (λ (x : State). (x.threads t).held k) runs_to ∙ go (((reach image m t b.turns).threads t).held k) refl
    where
      go : (v : Bool) → ((reach image m t b.turns).threads t).held k ≡ v → ((reach image m t b.turns).threads t).held k ≡ not (ends_section k b)
      go true e = e ∙ (let on = block_survives image m to t b.turns b.end is.stands.runs k e in λ i. not (sym on.0 i || sym on.1 i))
      go false e = e ∙ ap not (sym (block_gives image m to t b.turns b.end is.stands.runs k (sym (is.stands.held k) ∙ h) e))

  of_lock_more : (k : ℕ) → of_lock more k ≡ of_lock seen k ++ (if has b.held k then b ∷ [] else [])
  of_lock_more k = filter-append (λ (c : Block). has c.held k) seen (b ∷ [])

  pub lock_in : (k : ℕ) → has b.held k ≡ true → of_lock seen k ++ b ∷ [] ≡ of_lock more k
  lock_in k h = sym (of_lock_more k ∙ ap (λ v. of_lock seen k ++ (if v then b ∷ [] else [])) h)

  pub lock_out : (k : ℕ) → has b.held k ≡ false → of_lock seen k ≡ of_lock more k
  lock_out k h = sym (of_lock_more k ∙ ap (λ v. of_lock seen k ++ (if v then b ∷ [] else [])) h ∙ append-nil (of_lock seen k))

  other_thread : (u : ℕ) → u ≢ t → to.threads u ≡ m.threads u
  other_thread u ne = (runs_apart image m to t b.turns b.end is.stands.runs).threads u ne

  module _ (s x : Written) (kept : Kept s.core) (open_block : Opened image limits seen m b s) (after : Kept x.core) (by : Turned image m b.worker t s b.turns x) where
    abbrev c : Core
    c = x.core

    ended_is : (c.course t).ended ≡ Some b.end
    ended_is = go b.turns refl is.stands.runs.some
      where
        go : (n : ℕ) → n ≡ b.turns → 0 < n → (c.course t).ended ≡ Some b.end
        go zero e lt = absurd (omega arith)
        go (suc k) e lt = (let n : k + 1 ≡ b.turns = omega arith in by.ended k n ∙ is.stands.runs.ends k n)

    machine_is : c.machine ≡ to
    machine_is = by.machine ∙ sym runs_to

    held_is : (c.course t).held ≡ b.held
    held_is = by.held ∙ same_sets _ b.held (λ k. held_with_has (s.core.course t).held d.held (next_lock image d) k (first k) ∙ sym (is.stands.held k))
      where
        first : (k : ℕ) → has (s.core.course t).held k ≡ d.held k
        first k = ap (λ o. has (held_past (s.core.course t).held o) k) (sym (open_block.between.ended t)) ∙ kept.tracks.kept t k ∙ ap (λ (y : State). (y.threads t).held k) open_block.between.machine

    with_is : (k : ℕ) → has b.held k ≡ is_number (with_of (c.custody k).place) t
    with_is k = ap (λ h. has h k) (sym held_is) ∙ after.tracks.with t k

    released : release_of (c.course t) ≡ Some (record { held = b.held; end = b.end })
    released = λ i. option_map (λ end. record { held = held_is i; end = end }) (ended_is i)

    -- a lock of the block before the Commit
    in_block_with : (k : ℕ) → has b.held k ≡ true → IsWith k (of_lock seen k) b (c.custody k)
    in_block_with k h = elim (takes (next_lock image d) k) [
      | inl e ↦ (let g = open_block.given k e in let same = by.custody k ∙ taken_is (next_lock image d) t k (s.core.custody k) e in record {
        with = sym (with_is k) ∙ h;
        line = ap (λ (y : Custody). y.line) same ∙ g.line;
        left = ap (λ (y : Custody). y.left) same ∙ g.left;
        run = ap (λ (y : Custody). y.run) same ∙ g.run;
      })
      | inr ne ↦ (let same = by.custody k ∙ taken_other (next_lock image d) t k (s.core.custody k) ne in
          subst (λ y. IsWith k (of_lock seen k) b y) (sym same)
          (held_before limits k (of_lock seen k) b (s.core.custody k) (open_block.custody k ne) (ap (λ (y : Custody). is_number (with_of y.place) t) (sym same) ∙ sym (with_is k) ∙ h)
          (begins_is k ∙ is_lock_other (next_lock image d) k ne)))
    ]

    -- and another one
    out_of_block : (k : ℕ) → has b.held k ≡ false → c.custody k ≡ s.core.custody k
    out_of_block k h = by.custody k ∙ taken_other (next_lock image d) t k (s.core.custody k) (λ e. absurd (not_taken e))
      where
        not_taken : next_lock image d ≡ Some k → ⊥
        not_taken e = (let on : has b.held k ≡ true = is.stands.held k ∙ ap (λ o. locks_of_block d.held o k) e ∙ ap (λ v. v || d.held k) (eq_self k) in cc)

    new_custody : (k : ℕ) → Custody
    new_custody k = custody_past b.worker t ((c.machine.threads t).held k) (release_of (c.course t)) (c.custody k)

    custody_after : (k : ℕ) → IsCustody limits k (of_lock more k) (new_custody k)
    unfolding new_custody
    custody_after k = go (has b.held k) refl
      where
        go : (v : Bool) → has b.held k ≡ v → IsCustody limits k (of_lock more k) (custody_past b.worker t ((c.machine.threads t).held k) (release_of (c.course t)) (c.custody k))
        go true h = subst (λ bs. IsCustody limits k bs (custody_past b.worker t ((c.machine.threads t).held k) (release_of (c.course t)) (c.custody k))) (lock_in k h)
            (after_block limits k (of_lock seen k) b ((c.machine.threads t).held k) (release_of (c.course t)) (c.custody k) (in_block_with k h) is.worker
            (ap (λ (y : State). (y.threads t).held k) machine_is ∙ keeps k h) released)
        go false h = subst (λ bs. IsCustody limits k bs (custody_past b.worker t ((c.machine.threads t).held k) (release_of (c.course t)) (c.custody k))) (lock_out k h)
            (subst (λ y. IsCustody limits k (of_lock seen k) y) (sym (past_kept b.worker t ((c.machine.threads t).held k) (release_of (c.course t)) (c.custody k) (sym (with_is k) ∙ h) ∙ out_of_block k h))
            (open_block.custody k not_taken))
          where
            not_taken : next_lock image d ≡ Some k → ⊥
            not_taken e = (let on : has b.held k ≡ true = is.stands.held k ∙ ap (λ o. locks_of_block d.held o k) e ∙ ap (λ v. v || d.held k) (eq_self k) in cc)

    written : block_on x.history b.worker t (x.next t) (c.course t) (c.course t).ended ≡ more
    written =
        ap (block_on x.history b.worker t (x.next t) (c.course t)) ended_is
        ∙ (let hist : x.history ≡ seen = by.history ∙ open_block.between.history in
        let stamp : length x.history ≡ b.stamp = ap length hist ∙ sym is.stamp in
        let mine : x.next t ≡ record { kind = b.kind; pc = (m.threads t).regs.pc } = ap (λ f. f t) by.next ∙ open_block.mine in
        let pc : (x.next t).pc ≡ b.pc = ap (λ (a : Beginning). a.pc) mine ∙ sym is.stands.pc in
        λ i. hist i ++ record { stamp = stamp i; thread = t; turns = by.turns i; held = held_is i; kind = (mine i).kind; worker = b.worker; pc = pc i; end = b.end } ∷ [])

    commit_on : is_enabled image limits c (Commit b.worker t) ≡ true
    unfolding is_enabled
    commit_on = both_true (both_true worker_is (both_true (can_parts image m t (is.stands.runs.defined 0 is.stands.runs.some)).0 (ap (λ p. is_at p b.worker) by.at ∙ eq_self b.worker))) (ap is_some ended_is)

    pub commits : Leads image limits x (Closed image limits more to b.worker t)
    unfolding effect new_custody
    commits =
        let mine = pick_mine t (course_past (c.course t)) (c.course t) in
        let other : (u : ℕ) → u ≢ t → (if u == t then course_past (c.course t) else c.course u) ≡ s.core.course u = λ u ne. pick_other u t _ (c.course u) ne ∙ by.others u ne in
        comes image limits x (Closed image limits more to b.worker t) (Commit b.worker t) after commit_on (record {
          between = record {
            machine = machine_is;
            turns = λ u. elim (eqb_tells u t) [
              | inl e ↦ subst (λ v. (if v == t then course_past (c.course t) else c.course v).turns ≡ 0) (sym e.1) (ap (λ (y : Course). y.turns) mine)
              | inr e ↦ ap (λ (y : Course). y.turns) (other u e.1) ∙ open_block.between.turns u
            ];
            ended = λ u. elim (eqb_tells u t) [
              | inl e ↦ subst (λ v. (if v == t then course_past (c.course t) else c.course v).ended ≡ None) (sym e.1) (ap (λ (y : Course). y.ended) mine)
              | inr e ↦ ap (λ (y : Course). y.ended) (other u e.1) ∙ open_block.between.ended u
            ];
            history = written;
          };
          at = ap (λ (y : Course). y.place) mine ∙ by.at;
          slept = ap (λ (y : Course). is_slept y.last) mine ∙ ap is_slept (ended_is ∙ sym (ap (λ bs. option_map (λ (c : Block). c.end) (last_of bs)) (own_more thread_of seen b) ∙ ap (option_map (λ (c : Block). c.end)) (last_more (of_thread seen t) b)));
          rests = λ u ne lt. ap (λ (y : Course). y.place) (other u ne) ∙ open_block.rests u ne lt ∙ still_rests u ne;
          custody = custody_after;
          next = λ u. elim (eqb_tells u t) [
            | inl e ↦ subst (λ v. (if v == t then record { kind = kind.On; pc = (c.machine.threads t).regs.pc } else x.next v) ≡ beginning_by (seen ++ b ∷ []) to v) (sym e.1)
                (pick_mine t _ (x.next t) ∙ (let block : has_block (seen ++ b ∷ []) t ≡ true = has_block_more seen b t ∙ ap (λ v. has_block seen t || v) (eq_self t) ∙ or-true (has_block seen t) in
                λ i. record { kind = kind_by (sym block i); pc = ((machine_is i).threads t).regs.pc }))
            | inr e ↦ pick_other u t _ (x.next u) e.1 ∙ ap (λ f. f u) by.next ∙ open_block.next u e.1
                ∙ (let ne : (b.thread == u) ≡ false = differ e.1 in
                let block : has_block (seen ++ b ∷ []) u ≡ has_block seen u = has_block_more seen b u ∙ ap (λ v. has_block seen u || v) ne ∙ or-false (has_block seen u) in
                λ i. record { kind = kind_by (sym block i); pc = (sym (other_thread u e.1) i).regs.pc })
          ];
        })
      where
        still_rests : (u : ℕ) → u ≢ t → place_after m seen u ≡ place_after to more u
        still_rests u ne = λ i. if is_running (sym (other_thread u ne) i).status
            then (if is_slept (option_map (λ (c : Block). c.end) (last_of (sym (other_more thread_of seen b u (λ e. ne (sym e))) i))) then Parked else Ready)
            else Done

        differ : {u : ℕ} → u ≢ t → (t == u) ≡ false
        differ {u = u} ne = elim (eqb_tells t u) [ inl h ↦ absurd (ne (sym h.1)) | inr h ↦ h.0 ]
