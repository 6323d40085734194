-- A desk that is driven by hand, from what its worker has in hand.
use Rattle.std.proofs.Common.{◌≡◌, ℕ, true, false, not, ◌&&◌, List, length, Option, Some, None, is_some, refl, sym, ap, ◌∙◌, subst}
use Rattle.tc_isa.specs.Sets.{has}
use Rattle.tc_journal.specs.Batch.{ends_section, ends_thread}
use Rattle.tc_journal.specs.declared.block.Block.{Block}
use Rattle.tc_journal.specs.declared.block.End.{End}
use Rattle.tc_journal.specs.declared.block.End.TheVariants.{Wants}
use Rattle.tc_context.specs.View.{PackageView, IsAfter, IsSoundPackage}
use Rattle.tc_hall.specs.declared.board.PassCall.{PassCall}
use Rattle.tc_hall.specs.PassView.{PassView}
use Rattle.tc_hall.specs.Steps.{IsSamePass, with_call}
use Rattle.tc_combiner.specs.Packages.{Runs}
use Rattle.tc_combiner.specs.Settling.{IsAfterBlock, MayAcquire}
use Rattle.tc_combiner.specs.View.{BenchView, DeskView, FitsBench}
use Rattle.tc_combiner.proofs.Settling.{after_of, wants_ends, wants_lock}
use Rattle.tc_workers.specs.declared.step.Step.{Step}
use Rattle.tc_workers.specs.declared.step.Step.TheVariants.{On}
use Rattle.tc_workers.specs.Worker.{HasSealed, IsAtDesk, IsStep, IsUnmoved}
use Rattle.tc_workers.proofs.Desks.{at_still, other_sleepers, with_pass}
use Rattle.tc_workers.proofs.Passes.{IsQuiet, unmoved_call}
use Rattle.tc_workers_tests.specs.Scripts.{IsPlaying}

pub at_bench : (b : BenchView) (d : DeskView) (hand : Option PackageView) (end : Option End) → IsPlaying b d hand end → FitsBench b d
at_bench b d hand None p = p.seat.fits
at_bench b d None (Some x) p = absurd p
at_bench b d (Some q) (Some x) p = p.seat.fits

-- no block waits to be settled
pub at_desk : (b : BenchView) (d : DeskView) (hand h : Option PackageView) (end : Option End) → IsPlaying b d hand end → end ≡ None → hand ≡ h → IsAtDesk b h d
at_desk b d hand h None p e f = subst (λ (o : Option PackageView). IsAtDesk b o d) f p
at_desk b d hand h (Some x) p e f = absurd (let n : ⊥ = cc in n)

pub playing : (b : BenchView) (d : DeskView) (hand h : Option PackageView) (end : Option End) → IsAtDesk b h d → end ≡ None → hand ≡ h → IsPlaying b d hand end
playing b d hand h None p e f = subst (λ (o : Option PackageView). IsAtDesk b o d) (sym f) p
playing b d hand h (Some x) p e f = absurd (let n : ⊥ = cc in n)

-- a block waits to be settled
pub has_sealed : (b : BenchView) (d : DeskView) (hand : Option PackageView) (end : Option End) (q : PackageView) (x : End) → IsPlaying b d hand end → hand ≡ Some q → end ≡ Some x → HasSealed b x q d
has_sealed b d None None q x p e f = absurd (let n : ⊥ = cc in n)
has_sealed b d (Some r) None q x p e f = absurd (let n : ⊥ = cc in n)
has_sealed b d None (Some y) q x p e f = absurd p
has_sealed b d (Some r) (Some y) q x p e f = subst (λ (z : Option End). IsPlaying b d (Some q) z) f (subst (λ (o : Option PackageView). IsPlaying b d o (Some y)) e p)

-- the desk goes on with what comes
pub goes_on : (b : BenchView) (d : DeskView) (s t : Step) (hand : Option PackageView) → IsStep b d s → t ≡ s → t ≡ On hand → IsAtDesk b hand d
goes_on b d s t hand h e f = subst (λ (z : Step). IsStep b d z) f (subst (λ (z : Step). IsStep b d z) (sym e) h)

-- the clock was moved, and a sleeper was woken
pub woken : (b : BenchView) (d m : DeskView) (hand : Option PackageView) (end : Option End) (sleepers : List (Option ℕ)) (now : ℕ) → IsPlaying b d hand end → end ≡ None → hand ≡ None → m ≡ record d { now = now } → length sleepers ≡ length d.sleepers → IsPlaying b (record m { sleepers = sleepers }) hand end
woken b d m hand end sleepers now p e f is same =
    playing b (record m { sleepers = sleepers }) hand None end (subst (λ (z : DeskView). IsAtDesk b None (record z { sleepers = sleepers })) (sym is) (other_sleepers b d sleepers now (at_desk b d hand None end p e f) same)) e f

-- the pass made a call that is of no lock and no line
pub looked_on : (b : BenchView) (d : DeskView) (o q : PassView) (hand : Option PackageView) (end : Option End) (c : PassCall) → IsPlaying b d hand end → end ≡ None → o ≡ d.pass → IsSamePass o q → q.knows ≡ with_call o.knows c → IsQuiet c → IsPlaying b (with_pass d q) hand end
looked_on b d o q hand end c p e is own now quiet =
    let r : hand ≡ hand = refl in
    let u = subst (λ (z : PassView). IsUnmoved z q) is (unmoved_call o q c own now quiet) in
    playing b (with_pass d q) hand hand end (at_still b hand d q (at_desk b d hand hand end p e r) u) e r

-- a package whose last block wanted a lock may acquire it
pub may_acquire : (b : BenchView) (i : ℕ) (q : PackageView) (d : DeskView) → IsSoundPackage q → HasSealed b (Wants i) q d → MayAcquire b.image q
may_acquire b i q d sound sealed =
    let x : Block = sealed.may.0 in
    let m : IsAfterBlock b.image d.pass.knows.worker (Wants i) x q = sealed.may.1 in
    let after : IsAfter q.image q.context x = after_of b.image d.pass.knows.worker (Wants i) x q sound m in
    let runs : Runs q = after.runs ∙ ap not (ap ends_thread m.end_is) in
    record {
      of = m.of;
      settled = m.settled;
      granted = m.granted;
      locks = λ j l e. let has_it : has x.held j ≡ true = sym (m.locks j) ∙ ap is_some e in
          let goes_on : ends_section j x ≡ false = wants_ends j i x m.end_is in
          after.held j ∙ (λ t. has_it t && not (goes_on t));
      wants = ap is_some (wants_lock b.image d.pass.knows.worker i x q sound m runs);
    }
