-- The merged logs of a whole run are its history.
use Rattle.std.proofs.Common.{◌≡◌, ◌<◌, ◌^◌, ◌++◌, ℕ, List, Bor, length, map, refl, sym, ap, ◌∙◌, subst, arith}
use Rattle.std.specs.Prelude.{All}
use Rattle.std.specs.List.Sorted.{IsPermutation}
use Rattle.tc_isa.specs.declared.options.Options.{Options}
use Rattle.tc_elf.specs.Shown.{Shown}
use Rattle.tc_journal.specs.History.{HasEachStamp, IsInOrder}
use Rattle.tc_journal.specs.Line.{history_text}
use Rattle.tc_journal.specs.declared.block.Block.{Block}
use Rattle.tc_segment.specs.View.{LockView, IsSoundLock, kept}
use Rattle.tc_context.specs.View.{PackageView, bare}
use Rattle.tc_law.specs.Lawful.{Lawful, AreStrict, IsLimited}
use Rattle.tc_law.proofs.Lawful.{short_history}
use Rattle.tc_mutex_spec.specs.Blocks.{end_after}
use Rattle.tc_hall.specs.PassView.{ClosedView}
use Rattle.tc_workers.specs.Run.{IsWholeRun}
use Rattle.tc_report.specs.Legal.{IsLegalRun, results_after}
use Rattle.tc_report.specs.Logs.{AreLogs, blocks_in, merged}
use Rattle.tc_report.specs.Outcome.{IsOutcome, log_in, logs_of}
use Rattle.tc_report.specs.Report.{head_text, tail_text}
use Rattle.tc_main.specs.Accepted.{CanAllBeAdded}
use Rattle.tc_main.specs.Top.{IsReportOf}
use Rattle.tc_main.proofs.Addable.{addable}
use Rattle.tc_journal.proofs.Merged.{placed_all}
use Rattle.tc_main.proofs.Merging.{as_many, each_stamp, lent, lent_rise, logs_rise, one_history}
use Rattle.tc_report.proofs.Outcomes.{outcome, legal, told}

module _ (image : Shown) (o : Options) (closed : ClosedView) (run : IsWholeRun image o closed) (packages : List PackageView) (states : List LockView) (all : packages ≡ closed.packages) (all_states : states ≡ closed.locks) where
  law : Lawful image o.fuel o.limit run.history (map bare packages) (map kept states)
  law = subst (λ (z : List PackageView × List LockView). Lawful image o.fuel o.limit run.history (map bare z.0) (map kept z.1)) (λ i. (sym all i, sym all_states i)) run.law

  pub stamps : HasEachStamp (logs_of packages)
  stamps = each_stamp image o.fuel o.limit run.history packages (map kept states) law

  -- the logs that are lent have it in parts
  module _ (logs : List (Bor (List Block))) (same : map (λ (log : Bor (List Block)). log.now) logs ≡ map log_in packages) where
    all_lent : blocks_in logs ≡ logs_of packages
    all_lent = lent logs packages same

    pub logs_are : IsLimited image o.fuel → AreLogs logs
    logs_are limits = record {
      stamps = subst HasEachStamp (sym all_lent) stamps;
      rise = lent_rise logs packages same (logs_rise image o.fuel o.limit run.history packages (map kept states) law);
      few = omega (arith, ap (λ (bs : List Block). length bs) all_lent, as_many image o.fuel o.limit run.history packages (map kept states) law, short_history image o.fuel o.limit run.history (map bare packages) (map kept states) limits law);
    }

    pub merged_are : IsPermutation (logs_of packages) (merged logs) × IsInOrder (merged logs)
    merged_are =
        let all : IsPermutation (blocks_in logs) (merged logs) × IsInOrder (merged logs) = placed_all (blocks_in logs) (blocks_in logs) (subst HasEachStamp (sym all_lent) stamps) refl in
        (subst (λ bs. IsPermutation bs (merged logs)) all_lent all.0, all.1)

  module _ (g : List Block) (blocks : IsPermutation (logs_of packages) g) (order : IsInOrder g) where
    same : run.history ≡ g
    same = sym (one_history image o.fuel o.limit run.history packages (map kept states) law g blocks order)

    pub outcome_is : IsOutcome image o.fuel g packages states
    outcome_is = subst (λ h. IsOutcome image o.fuel h packages states) same (outcome image o run.history packages states law run.complete)

    -- a profile can be made of it
    pub few_is : IsLimited image o.fuel → length g < 2 ^ 32
    few_is limits = subst (λ (h : List Block). length h < 2 ^ 32) same (short_history image o.fuel o.limit run.history (map bare packages) (map kept states) limits law)

    pub addable_is : CanAllBeAdded image g
    addable_is = subst (CanAllBeAdded image) same (addable image o.fuel run.history (end_after image o.fuel run.history) law.tells law.history)

    pub legal_is : All IsSoundLock closed.locks → IsLegalRun image o (results_after image o.fuel g)
    legal_is sound =
        let sound_states : All IsSoundLock states = subst (All IsSoundLock) (sym all_states) sound in
        let strict : AreStrict states = subst AreStrict (sym all_states) run.strict in
        subst (λ h. IsLegalRun image o (results_after image o.fuel h)) same (legal image o run.history packages states law run.complete run.workers sound_states strict run.delegates)

    -- so a text over it, the packages and the states is the report
    pub report_is : All IsSoundLock closed.locks → (text : List ℕ) → text ≡ head_text image o ++ history_text g ++ tail_text image packages states → IsReportOf image o text
    report_is sound text written = record {
      results = results_after image o.fuel g;
      legal = legal_is sound;
      printed = written ∙ sym (told image o.fuel g packages states outcome_is o);
    }
