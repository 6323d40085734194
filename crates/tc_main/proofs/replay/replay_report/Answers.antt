use Rattle.std.proofs.Common.{◌≡◌, ◌++◌, Bor, List, map, sym, ap, ◌∙◌, subst}
use Rattle.std.proofs.lemmas.Result.{IfOk-weaker}
use Rattle.tc_journal.specs.Line.{history_text}
use Rattle.tc_journal.specs.declared.block.Block.{Block}
use Rattle.tc_segment.specs.View.{LockView, kept}
use Rattle.tc_context.specs.View.{PackageView, bare}
use Rattle.tc_law.specs.Lawful.{Lawful}
use Rattle.tc_report.specs.Report.{head_text, tail_text}
use Rattle.tc_main.proofs.Replaying.{law_of, report_told}
use Rattle.tc_main.proofs.replay.replay_report.Goals as goal

pub returns : goal.returns
returns c =
    let r = c.args.replay in
    let o = c.args.options in
    let h = r.history.items in
    let packages : List PackageView = c.deref.result.now in
    let locks : List LockView = c.deref-2.result.now in
    let left : Lawful r.image o.fuel o.limit h (map bare c.parts-packages.result.0.items) (map kept c.parts-packages.result.1.items) =
    law_of r.checker r.image o h c.requires.image c.requires.terms c.requires.taken.taken c.parts-packages.result.0.items c.parts-packages.result.1.items c.parts-packages.ensures in
    let law : Lawful r.image o.fuel o.limit h (map bare packages) (map kept locks) =
    subst (λ (x : List PackageView × List LockView). Lawful r.image o.fuel o.limit h (map bare x.0) (map kept x.1)) (λ i. (sym c.deref.ensures.value i, sym c.deref-2.ensures.value i)) left in
    let told = report_told r.image o h packages locks law c.requires.run.complete in
    let blocks : map (λ (b : Bor Block). b.now) c.deref-4.result.now ≡ h = ap (map (λ (b : Bor Block). b.now)) c.deref-4.ensures.value ∙ c.in_ok-blocks.ensures ∙ c.deref-3.ensures.value in
    let tail : c.deref-5.result.now ≡ tail_text r.image packages locks = c.deref-5.ensures ∙ c.in_ok-tail.ensures in
    IfOk-weaker c.report_with.result _ _ (λ out written. written ∙ (λ i. head_text r.image o ++ history_text (blocks i) ++ tail i) ∙ sym told) c.report_with.ensures
