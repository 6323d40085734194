use Rattle.std.proofs.Common.{◌≡◌, map, take}
use Rattle.tc_report.specs.Outcome.{log_in}
use Rattle.tc_main.proofs.run.logs_in.Given as goal

abbrev pub invariant-loop-package : goal.invariant-loop-package
invariant-loop-package l = map (λ log. log.now) l.logs.items ≡ map log_in (take l.package-index l.packages)
