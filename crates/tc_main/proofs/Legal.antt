-- A legal run keeps the rules, and shows delegation.
use Rattle.tc_isa.specs.declared.options.Options.{Options}
use Rattle.tc_elf.specs.Shown.{Shown}
use Rattle.tc_replay.proofs.Through.{in_order_from}
use Rattle.tc_core.specs.Core.{Limits}
use Rattle.tc_told.specs.Handover.{ShowsDelegation}
use Rattle.tc_told.specs.Written.{KeepsRules}
use Rattle.tc_told.proofs.Strict.{run_rules}
use Rattle.tc_report.specs.Results.{Results}
use Rattle.tc_report.specs.Legal.{IsLegalRun}

abbrev pub limits_of : Options → Limits
limits_of o = record { workers = o.workers; batch = o.limit }

pub keeps_rules : (image : Shown) (o : Options) (results : Results) → IsLegalRun image o results → KeepsRules image (limits_of o) o.fuel results.history
keeps_rules image o results legal = run_rules image (limits_of o) o.fuel results.history legal.last (in_order_from 0 results.history legal.history) legal.tells legal.workers legal.obeys legal.passes

pub shows : (image : Shown) (o : Options) (results : Results) → IsLegalRun image o results → ShowsDelegation image (limits_of o) o.fuel results.history
shows image o results legal = record {
  last = legal.last;
  history = legal.history;
  tells = legal.tells;
  workers = legal.workers;
  obeys = legal.obeys;
  passes = legal.passes;
  delegates = record { handed = legal.handed; runs_on = legal.runs_on; stays = legal.stays };
}
