-- A complete history of one worker keeps the rules, and shows delegation.
use Rattle.std.proofs.Common.{◌≡◌, ℕ, ◌<◌, ◌≤◌, length, sym, subst}
use Rattle.std.specs.Prelude.{All}
use Rattle.std.proofs.lemmas.List.Elements.{All-weaker}
use Rattle.tc_elf.specs.Shown.{Shown}
use Rattle.tc_elf.specs.declared.limits.TheConstants.{MAX_GUARDS}
use Rattle.tc_journal.specs.declared.block.Block.{Block}
use Rattle.tc_mutex_spec.specs.Progress.{IsSized}
use Rattle.tc_mutex_spec.proofs.Completing.{complete_history}
use Rattle.tc_core.specs.Core.{Limits}
use Rattle.tc_told.specs.Existence.{HasHistory}
use Rattle.tc_told.proofs.Strict.{run_rules}

pub has_history : (image : Shown) (limits : Limits) (fuel : ℕ) → IsSized image fuel → length image.guards ≤ MAX_GUARDS → 0 < limits.workers → HasHistory image limits fuel
has_history image limits fuel sized few some =
    let h = complete_history image fuel few in
    let workers : All (λ (b : Block). b.worker < limits.workers) h.history =
    All-weaker (λ (b : Block). b.worker ≡ 0) (λ (b : Block). b.worker < limits.workers) (λ b e. subst (λ w. w < limits.workers) (sym e) some) h.history h.workers in
    record {
      history = h.history;
      numbers = h.numbers sized;
      rules = run_rules image limits fuel h.history h.last h.order h.tells workers (λ k lt. h.obeys limits.batch k) (λ k lt. h.passes k);
      shows = record { last = h.last; history = h.numbers sized; tells = h.tells; workers = workers; obeys = λ k lt. h.obeys limits.batch k; passes = λ k lt. h.passes k; delegates = h.delegates };
      complete = h.complete;
    }
