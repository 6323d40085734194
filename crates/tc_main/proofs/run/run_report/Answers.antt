use Rattle.std.proofs.Common.{◌≡◌, ◌++◌, Bor, List, map, sym, ap, ◌∙◌, arith, rules}
use Rattle.std.proofs.lemmas.Result.{IfOk-weaker}
use Rattle.tc_journal.specs.declared.block.Block.{Block}
use denote.Param.Send.{sendable}
use Rattle.tc_law.specs.Lawful.{IsLimited}
use Rattle.tc_report.specs.Logs.{merged}
use Rattle.tc_report.specs.Outcome.{log_in}
use Rattle.tc_report.specs.Pieces.{lines_in}
use Rattle.tc_report.specs.Report.{head_text, tail_text}
use Rattle.tc_main.proofs.Reporting.{logs_are, merged_are, report_is}
use Rattle.tc_main.proofs.run.run_report.Goals as goal

pub write_report-requires : goal.write_report-requires
write_report-requires g c =
    let same : map (λ (log : Bor (List Block)). log.now) c.deref-4.result.now ≡ map log_in c.deref-3.result.now = ap (map (λ (log : Bor (List Block)). log.now)) c.deref-4.ensures.value ∙ c.in_ok-logs.ensures in
    let limits : IsLimited c.args.image.now c.args.options.fuel = (let threads = c.threads-threads.ensures.value in let bound = c.threads-threads.ensures.bound in record { threads = omega arith; turns = c.args.options.most_fuel }) in (
      search (rules, sendable),
      logs_are c.args.image.now c.args.options c.in_ok-closed.closed c.in_ok-closed.ensures.whole
          c.deref-3.result.now c.deref-2.result.now (c.deref-3.ensures.value ∙ c.into_parts-packages.ensures.packages) (c.deref-2.ensures.value ∙ c.into_parts-packages.ensures.locks)
          c.deref-4.result.now same limits,
    )

pub returns-clause-wrote : goal.returns-clause-wrote
returns-clause-wrote g c =
    let image = c.args.image.now in
    let head = head_text image c.args.options in
    let logs : List (Bor (List Block)) = c.deref-4.result.now in
    let all = c.deref-3.ensures.value ∙ c.into_parts-packages.ensures.packages in
    let all_states = c.deref-2.ensures.value ∙ c.into_parts-packages.ensures.locks in
    let same : map (λ (log : Bor (List Block)). log.now) logs ≡ map log_in c.deref-3.result.now = ap (map (λ (log : Bor (List Block)). log.now)) c.deref-4.ensures.value ∙ c.in_ok-logs.ensures in
    let tail : c.deref-5.result.now ≡ tail_text image c.deref-3.result.now c.deref-2.result.now =
    c.deref-5.ensures ∙ c.in_ok-tail.ensures ∙ ap (λ packages. tail_text image packages c.deref-2.result.now) (c.deref.ensures.value ∙ sym c.deref-3.ensures.value) in
    let history = merged_are image c.args.options c.in_ok-closed.closed c.in_ok-closed.ensures.whole c.deref-3.result.now c.deref-2.result.now all all_states logs same in
    IfOk-weaker c.write_report.result _ _
    (λ written wrote. (
      head ++ lines_in logs ++ c.deref-5.result.now,
      report_is image c.args.options c.in_ok-closed.closed c.in_ok-closed.ensures.whole
          c.deref-3.result.now c.deref-2.result.now all all_states
          (merged logs) history.0 history.1 c.in_ok-closed.ensures.sound
          _ (λ i. head ++ lines_in logs ++ tail i),
      wrote,
    ))
    c.write_report.ensures.wrote
