use Rattle.std.proofs.Common.{◌∙◌, ap, sym}
use Rattle.tc_replay.proofs.Telling.{run_accepted}
use Rattle.tc_report.specs.Report.{report_text}
use Rattle.tc_main.proofs.GivenBack.{can, complete_run, report_again, results_are}
use Rattle.tc_main.proofs.round_trip.round_trip.Goals as goal

pub returns-clause-accepted : goal.returns-clause-accepted
returns-clause-accepted c = λ image o results legal. run_accepted image o results.history (complete_run image o results legal)

pub returns-clause-whole : goal.returns-clause-whole
returns-clause-whole c = results_are

pub returns-clause-done : goal.returns-clause-done
returns-clause-done c = λ image o file text words before now report guest given quiet.
    can words o file image report.results.history before now guest report.legal.history (complete_run image o report.results report.legal) given quiet

pub returns-clause-same : goal.returns-clause-same
returns-clause-same c = λ image o file text again words before now report guest given wanted.
    report_again words o file image report.results.history before now guest report.legal.history (complete_run image o report.results report.legal) given again wanted
    ∙ ap (report_text image o) (sym (results_are image o report.results report.legal)) ∙ sym report.printed
