-- How a thread comes to a section: it is at its LOCK from its block before on, or from the start.
use Rattle.std.proofs.Common.{◌≡◌, ℕ, true, false, not, ◌==◌, List, [], ◌∷◌, ◌++◌, refl, sym, ap, subst, ◌∙◌, append_assoc}
use Rattle.std.specs.Prelude.{Option, Some, None, IfSome}
use Rattle.std.proofs.lemmas.Bool.{eqb-true}
use Rattle.tc_elf.specs.Shown.{Shown}
use Rattle.tc_journal.specs.Batch.{ends_thread, last_of}
use Rattle.tc_journal.specs.History.{of_thread}
use Rattle.tc_journal.specs.declared.block.Block.{Block}
use Rattle.tc_journal.specs.declared.block.End.{End}
use Rattle.tc_journal.specs.declared.block.End.TheVariants.{Wants, Unlocked, Slept, Cut, Exit, Fault, Spent}
use Rattle.tc_journal.proofs.Batching.{last_more}
use Rattle.tc_turn.specs.Turn.{is_running}
use Rattle.tc_mutex_spec.specs.Machine.{State, start}
use Rattle.tc_mutex_spec.specs.Blocks.{reach, Runs, Stands, TellsAfter, Tells}
use Rattle.tc_mutex_spec.proofs.BlocksAlike.{runs_apart}
use Rattle.tc_mutex_spec.proofs.Entries.{tells_end}
use Rattle.tc_mutex_spec.proofs.Leaving.{block_runs, block_next, block_cut}
use Rattle.tc_told.specs.Handover.{IsAtLock, may_end_at, HasWaited}
use Rattle.tc_told.proofs.InParts.{tells_split}
use Rattle.tc_told.proofs.Thinned.{none_of, no_last, last_is}
use Rattle.tc_lemmas.proofs.Tests.{eq_self}

-- blocks of others leave a thread as it is
unmoved : (image : Shown) (seen bs : List Block) (m to : State) (t : ℕ) → TellsAfter image seen m bs to → of_thread bs t ≡ [] → to.threads t ≡ m.threads t
unmoved image seen [] m to t tells none = ap (λ (x : State). x.threads t) (sym tells)
unmoved image seen (x ∷ bs) m to t tells none =
    let out = none_of (λ (c : Block). c.thread == t) x bs none in
    unmoved image (seen ++ x ∷ []) bs tells.0 to t tells.2 out.1
    ∙ (runs_apart image m tells.0 x.thread x.turns x.end tells.1.runs).threads t (λ same. (let is : (x.thread == t) ≡ true = ap (λ n. x.thread == n) same ∙ eq_self x.thread in let no = out.0 in cc))

-- how a block ended that left its thread at a LOCK
ended_at : (image : Shown) (seen : List Block) (m to : State) (c : Block) (lock : ℕ) → Stands image seen m c to → IsAtLock image lock (to.threads c.thread) → may_end_at lock c.end ≡ true
ended_at image seen m to c lock stands at = by c.end refl
  where
    runs : Runs image m c.thread c.turns c.end to
    runs = stands.runs

    left_at : IsAtLock image lock ((reach image m c.thread c.turns).threads c.thread)
    left_at = subst (λ (x : State). IsAtLock image lock (x.threads c.thread)) runs.last at

    goes_on : ends_thread c.end ≡ false
    goes_on = (elim (ends_thread c.end) as (λ v. is_running ((reach image m c.thread c.turns).threads c.thread).status ≡ not v → v ≡ false) [
      | true ↦ λ e. sym left_at.0 ∙ e
      | false ↦ λ e. refl
    ]) (block_runs image m to c.thread c.turns c.end runs)

    by : (end : End) → c.end ≡ end → may_end_at lock end ≡ true
    by (Wants k) e = (let same : Some k ≡ Some lock = sym (block_next image m to c.thread c.turns c.end runs k e) ∙ left_at.1 in let is : k ≡ lock = cc in ap (λ n. n == lock) is ∙ eq_self lock)
    by (Unlocked k) e = refl
    by Slept e = refl
    by Cut e = absurd (let f : None ≡ Some lock = sym (block_cut image m to c.thread c.turns c.end runs e) ∙ left_at.1 in cc)
    by Exit e = absurd (let f : true ≡ false = ap ends_thread (sym e) ∙ goes_on in cc)
    by (Fault f) e = absurd (let f : true ≡ false = ap ends_thread (sym e) ∙ goes_on in cc)
    by Spent e = absurd (let f : true ≡ false = ap ends_thread (sym e) ∙ goes_on in cc)

module _ (image : Shown) (fuel : ℕ) (before : List Block) (from : State) (tells : Tells image fuel before from) (lock : ℕ) (b : Block) (at : IsAtLock image lock (from.threads b.thread)) where
  -- blocks that leave the thread at its LOCK
  record Leaves (sooner : List Block) : Type 0 where
    pub mid : State
    pub told : Tells image fuel sooner mid
    pub left : IsAtLock image lock (mid.threads b.thread)

  leaves : (sooner later : List Block) → before ≡ sooner ++ later → of_thread later b.thread ≡ [] → Leaves sooner
  leaves sooner later place none =
      let parts = tells_split image [] sooner later (start image fuel) from (subst (λ l. Tells image fuel l from) place tells) in
      record { mid = parts.0; told = parts.1; left = subst (IsAtLock image lock) (unmoved image sooner later parts.0 from b.thread parts.2 none) at }

  behind : (sooner later : List Block) → before ≡ sooner ++ later → of_thread later b.thread ≡ [] → last_of sooner ≡ last_of (of_thread before b.thread)
      → (Leaves sooner → IfSome (last_of sooner) (λ c. may_end_at lock c.end ≡ true)) → HasWaited image fuel before lock b
  behind sooner later place none last ended =
      let f = leaves sooner later place none in
      record {
        sooner = sooner;
        later = later;
        place = place;
        last_of_thread = last;
        ended = ended f;
        at_lock = subst (λ (x : State). IsAtLock image lock (x.threads b.thread)) (tells_end image [] sooner (start image fuel) f.mid f.told) f.left;
        no_block = none;
      }

  pub waits : HasWaited image fuel before lock b
  waits = by (last_of (of_thread before b.thread)) refl
    where
      by : (o : Option Block) → last_of (of_thread before b.thread) ≡ o → HasWaited image fuel before lock b
      by None e = behind [] before refl (no_last (of_thread before b.thread) e) (sym e) (λ f. tt)
      by (Some c) e =
          let last = last_is (λ (d : Block). d.thread == b.thread) before c e in
          behind (last.sooner ++ c ∷ []) last.later (last.place ∙ sym (append_assoc last.sooner (c ∷ []) last.later)) last.none (last_more last.sooner c ∙ sym e) (λ f.
          (let parts = tells_split image [] last.sooner (c ∷ []) (start image fuel) f.mid f.told in
          let stands : Stands image last.sooner parts.0 c f.mid = subst (Stands image last.sooner parts.0 c) parts.2.2 parts.2.1 in
          let left : IsAtLock image lock (f.mid.threads c.thread) = subst (λ u. IsAtLock image lock (f.mid.threads u)) (sym (eqb-true c.thread b.thread last.passes)) f.left in
          subst (λ o. IfSome o (λ d. may_end_at lock d.end ≡ true)) (sym (last_more last.sooner c)) (ended_at image last.sooner parts.0 f.mid c lock stands left)))
