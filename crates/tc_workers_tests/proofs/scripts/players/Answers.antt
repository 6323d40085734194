use Rattle.std.proofs.Common.{List, All, sym, subst}
use Rattle.std.proofs.lemmas.List.Elements.{All-push}
use Rattle.tc_workers_tests.specs.declared.scripts.Player.{Player}
use Rattle.tc_workers_tests.specs.Scripts.{IsPlaying}
use Rattle.tc_workers.proofs.Joining.{at_work_last}
use Rattle.tc_workers_tests.proofs.scripts.players.Goals as goal

pub player_of-requires-after_bounds : goal.player_of-requires-after_bounds
player_of-requires-after_bounds g c κs within = (at_work_last c.args.bench.now c.pop.new.self.items c.loop-worker.hired.items c.in-Some.worker c.loop-worker.invariant.work c.in-Some.ensures.items).0

pub loop-worker-preserved : goal.loop-worker-preserved
loop-worker-preserved g c =
    let P = λ (p : Player g.row.Q.Denot g.row.Q-Seat.Denot g.row.Q-Place.Denot). IsPlaying c.args.bench.now p.desk p.hand p.end in record {
      work = (at_work_last c.args.bench.now c.pop.new.self.items c.loop-worker.hired.items c.in-Some.worker c.loop-worker.invariant.work c.in-Some.ensures.items).1;
      playing = subst (λ (ps : List (Player g.row.Q.Denot g.row.Q-Seat.Denot g.row.Q-Place.Denot)). All P ps) (sym c.in_ok-push.ensures.items)
          (All-push P c.loop-worker.players.items _ c.loop-worker.invariant.playing c.player_of.ensures);
    }
