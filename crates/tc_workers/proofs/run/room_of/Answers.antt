use Rattle.std.proofs.Common.{ℕ, ◌≤◌, ◌*◌, min, sym, subst}
use Rattle.tc_workers.proofs.Turning.{room_enough}
use Rattle.tc_workers.proofs.run.room_of.Goals as goal

pub returns-clause-enough : goal.returns-clause-enough
returns-clause-enough c = λ s can. subst (λ (n : ℕ). min (c.args.threads * s) 256 ≤ n) (sym c.min.ensures) (room_enough c.args.threads c.args.fuel s 256 can)
