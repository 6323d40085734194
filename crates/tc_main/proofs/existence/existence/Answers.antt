use Rattle.std.proofs.Common.{◌<◌, ◌≤◌, [], length, refl, subst}
use Rattle.tc_elf.specs.Shown.{Shown}
use Rattle.tc_elf.specs.declared.limits.TheConstants.{MAX_GUARDS}
use Rattle.tc_mutex_spec.specs.Machine.{State, start}
use Rattle.tc_mutex_spec.specs.Blocks.{Tells, IsComplete, end_after}
use Rattle.tc_mutex_spec.specs.Progress.{IsSized}
use Rattle.tc_mutex_spec.proofs.Entries.{tells_end}
use Rattle.tc_mutex_spec.proofs.Journals.{has_journal}
use Rattle.tc_told.proofs.Complete.{has_history}
use Rattle.tc_isa.specs.declared.options.Options.{Options}
use Rattle.tc_main.specs.Existence.{HasLegalRun}
use Rattle.tc_main.proofs.Legal.{limits_of}
use Rattle.tc_main.proofs.existence.existence.Goals as goal

has_legal_run : (image : Shown) (o : Options) → IsSized image o.fuel → length image.guards ≤ MAX_GUARDS → 0 < o.workers → HasLegalRun image o
has_legal_run image o sized few some =
    let h = has_history image (limits_of o) o.fuel sized few some in
    let last : State = end_after image o.fuel h.history in
    let tells : Tells image o.fuel h.history last = subst (Tells image o.fuel h.history) (tells_end image [] h.history (start image o.fuel) h.shows.last h.shows.tells) h.shows.tells in
    record {
      history = h.history;
      legal = record {
        last = last;
        history = h.shows.history;
        tells = tells;
        complete = subst (IsComplete image) (tells_end image [] h.history (start image o.fuel) h.rules.last h.rules.tells) h.complete;
        workers = h.shows.workers;
        obeys = h.shows.obeys;
        passes = h.shows.passes;
        handed = h.shows.delegates.handed;
        runs_on = h.shows.delegates.runs_on;
        stays = h.shows.delegates.stays;
        journals = λ k lt. has_journal image o.fuel h.history last k few tells;
        threads = refl;
        locks = refl;
      };
    }

pub returns : goal.returns
returns c = has_legal_run
