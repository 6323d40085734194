use Rattle.std.proofs.Common.{◌≡◌, ◌<◌, ℕ, length, sym}
use Rattle.std.specs.Prelude.{Option, Some, None, IfSome}
use Rattle.tc_elf.specs.Shown.{Shown}
use Rattle.tc_turn.specs.Turn.{Thread, next_lock, thread_of}
use Rattle.tc_turn.proofs.Turns.{next_known}
use Rattle.tc_mutex_spec.proofs.slow.Slow.next_lock.Goals as goal

known : (image : Shown) (d : Thread) (o : Option ℕ) → o ≡ next_lock image d → IfSome o (λ lock. lock < length image.guards)
known image d None e = tt
known image d (Some k) e = next_known image d k (sym e)

pub returns-clause-bound : goal.returns-clause-bound
returns-clause-bound c = known c.args.image.now (thread_of c.index.result.now) c.next_lock.result c.next_lock.ensures
