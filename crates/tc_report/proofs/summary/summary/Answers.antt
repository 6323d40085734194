use Rattle.std.proofs.Common.{◌≡◌, ◌++◌, sym, ◌∙◌, rules, append_assoc, arith}
use Rattle.tc_build.specs.Generator.{generated}
use Rattle.tc_report.specs.Report.{states_text, last_line}
use Rattle.tc_report.specs.Summary.{demo_line, blocks_line, packages_ends}
use Rattle.tc_report.specs.declared.summary.TheConstants.{DEMO_FUEL}
use Rattle.tc_report.proofs.Outcomes.{summed}
use Rattle.tc_report.proofs.summary.summary.Goals as goal

pub push_guards-requires : goal.push_guards-requires
push_guards-requires c = omega (arith, c.requires.all_states)

pub returns : goal.returns
returns c =
    let image = generated c.args.rounds in
    let locks = c.in_ok-push_guards.ensures c.args.rounds in
    let written : c.into_bytes.result.items ≡ demo_line c.args.rounds ++ blocks_line c.args.history.now ++ packages_ends c.args.packages.now ++ states_text image c.args.locks.now ++ last_line =
    search (rules, append_assoc, locks) in
    written ∙ sym (summed image DEMO_FUEL c.args.history.now c.args.packages.now c.args.locks.now c.requires c.args.rounds)
