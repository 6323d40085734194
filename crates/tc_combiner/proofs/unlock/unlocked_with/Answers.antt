use Rattle.std.proofs.Common.{[], ◌∷◌, refl, arith}
use Rattle.tc_combiner.proofs.Vocabulary.{Pack, Was_granted, Was_stopped, Went_home, packed}
use Rattle.tc_combiner.proofs.Unlocking.{adopted_apart, at_then, goes_adopted, goes_granted, goes_home, goes_stopped, may_adopted, may_aside, may_go_on, may_then}
use Rattle.tc_combiner.proofs.Acting.{alone}
use Rattle.tc_combiner.proofs.Releasing.{with_aside, without_aside}
use Rattle.tc_combiner.proofs.unlock.unlocked_with.Goals as goal

pub pass_on-requires-clause-may : goal.pass_on-requires-clause-may
pass_on-requires-clause-may g c = λ κs b. record {
  parts = record { at = alone c.args.hall.now (Pack c.args.«package») (packed c.args.parts.now.aside) c.args.parts.now.pass c.args.parts.now.aside c.requires.parts.at; room = (let r = c.requires.parts.room in omega arith) };
  release = c.requires.may.release;
}

pub resume-requires : goal.resume-requires
resume-requires g c =
    let e = c.in-Home.ensures {u = tt} in
    let d = e.passed in record {
      parts = may_then c.args.hall.now c.args.released.lock c.args.released.block.now c.args.«package» c.pass_on.new.«package» (g.Q.Order.seen c.args.seat.now) (g.Q.Order.seen c.pass_on.new.seat) c.args.parts.now c.pass_on.new.parts c.requires.parts Went_home refl d;
      may = may_go_on c.args.parts.now.pass.knows c.args.hall.now.terms c.args.released.lock c.args.released.block.now d.state c.args.«package» c.pass_on.new.«package» c.requires.may c.requires.parts.at.image d.taken;
      lines = with_aside c.args.hall.now.terms c.args.parts.now.pass.knows c.pass_on.new.parts.pass.knows (Pack c.pass_on.new.«package» ∷ []) c.args.«package» c.args.parts.now.aside c.pass_on.new.parts.aside (λ a e. (c.requires.parts.at.aside a e).free) c.requires.parts.at.out c.requires.lines e.turns e.passed.aside e.lines;
    }

pub resume-requires-in-Granted : goal.resume-requires-in-Granted
resume-requires-in-Granted g c =
    let e = c.in-Granted.ensures {u = tt} in
    let d = e.passed in record {
      parts = may_then c.args.hall.now c.args.released.lock c.args.released.block.now c.args.«package» c.pass_on.new.«package» (g.Q.Order.seen c.args.seat.now) (g.Q.Order.seen c.pass_on.new.seat) c.args.parts.now c.pass_on.new.parts c.requires.parts Was_granted refl d;
      may = may_go_on c.args.parts.now.pass.knows c.args.hall.now.terms c.args.released.lock c.args.released.block.now d.state c.args.«package» c.pass_on.new.«package» c.requires.may c.requires.parts.at.image d.taken;
      lines = with_aside c.args.hall.now.terms c.args.parts.now.pass.knows c.pass_on.new.parts.pass.knows (Pack c.pass_on.new.«package» ∷ []) c.args.«package» c.args.parts.now.aside c.pass_on.new.parts.aside (λ a e. (c.requires.parts.at.aside a e).free) c.requires.parts.at.out c.requires.lines e.turns e.passed.aside e.lines;
    }

pub set_aside-requires : goal.set_aside-requires
set_aside-requires g c =
    let e = c.in-Adopted.ensures {u = tt} in
    let d = e.passed in
    let lines = with_aside c.args.hall.now.terms c.args.parts.now.pass.knows c.pass_on.new.parts.pass.knows (Pack c.in-Adopted.waiter ∷ Pack c.pass_on.new.«package» ∷ []) c.args.«package» c.args.parts.now.aside c.pass_on.new.parts.aside (λ a e. (c.requires.parts.at.aside a e).free) c.requires.parts.at.out c.requires.lines e.turns e.passed.aside e.lines in
    let apart = adopted_apart c.args.hall.now c.args.released.lock c.args.released.block.now c.args.«package» c.pass_on.new.«package» (g.Q.Order.seen c.args.seat.now) (g.Q.Order.seen c.pass_on.new.seat) c.args.parts.now c.pass_on.new.parts c.requires.parts c.in-Adopted.waiter d in
    record {
      parts = may_adopted c.args.hall.now c.args.released.lock c.args.released.block.now c.args.«package» c.pass_on.new.«package» (g.Q.Order.seen c.args.seat.now) (g.Q.Order.seen c.pass_on.new.seat) c.args.parts.now c.pass_on.new.parts c.requires.parts c.in-Adopted.waiter d;
      may = may_aside c.args.parts.now.pass.knows c.args.hall.now.terms c.args.released.lock c.args.released.block.now d.state c.args.«package» c.pass_on.new.«package» c.keeps.ensures.sound c.requires.may c.requires.parts.at.image d.taken d.became.2.1;
      lines = (c.in-Adopted.waiter, lines, apart);
    }

pub put_all_back-requires : goal.put_all_back-requires
put_all_back-requires g c =
    let e = c.in-Stopped.ensures {u = tt} in
    let d = e.passed in record {
      parts = at_then c.args.hall.now c.args.released.lock c.args.released.block.now c.args.«package» c.pass_on.new.«package» (g.Q.Order.seen c.args.seat.now) (g.Q.Order.seen c.pass_on.new.seat) c.args.parts.now c.pass_on.new.parts c.requires.parts Was_stopped refl d;
      plain = (may_go_on c.args.parts.now.pass.knows c.args.hall.now.terms c.args.released.lock c.args.released.block.now d.state c.args.«package» c.pass_on.new.«package» c.requires.may c.requires.parts.at.image d.taken).plain;
      stop = e.lines;
    }

pub returns-in-Home-clause-unlocks : goal.returns-in-Home-clause-unlocks
returns-in-Home-clause-unlocks g c = goes_home c.args.hall.now c.args.released.lock c.args.released.block.now c.args.«package» c.pass_on.new.«package» (g.Q.Order.seen c.args.seat.now) (g.Q.Order.seen c.pass_on.new.seat) c.args.parts.now c.pass_on.new.parts c.requires.parts c.resume.new.parts c.resume.result (c.in-Home.ensures {u = tt}).passed c.resume.ensures.goes

pub returns-in-Granted-clause-unlocks : goal.returns-in-Granted-clause-unlocks
returns-in-Granted-clause-unlocks g c =
    let p = c.pass_on.new.«package» in
    let parts = c.pass_on.new.parts in
    goes_granted c.args.hall.now c.args.released.lock c.args.released.block.now c.args.«package» p (g.Q.Order.seen c.args.seat.now) (g.Q.Order.seen c.pass_on.new.seat) c.args.parts.now parts c.requires.parts c.resume-in-Granted.new.parts c.resume-in-Granted.result (c.in-Granted.ensures {u = tt}).passed c.resume-in-Granted.ensures.goes

pub returns-in-Adopted-clause-unlocks : goal.returns-in-Adopted-clause-unlocks
returns-in-Adopted-clause-unlocks g c =
    let p = c.pass_on.new.«package» in
    let parts = c.pass_on.new.parts in
    goes_adopted c.args.hall.now c.args.released.lock c.args.released.block.now c.args.«package» p (g.Q.Order.seen c.args.seat.now) (g.Q.Order.seen c.pass_on.new.seat) c.args.parts.now parts c.requires.parts c.set_aside.new.parts c.in-Adopted.waiter c.requires.may.release.worker (c.in-Adopted.ensures {u = tt}).passed c.set_aside.ensures.set

pub returns-in-Stopped-clause-unlocks : goal.returns-in-Stopped-clause-unlocks
returns-in-Stopped-clause-unlocks g c = goes_stopped c.args.hall.now c.args.released.lock c.args.released.block.now c.args.«package» c.pass_on.new.«package» (g.Q.Order.seen c.args.seat.now) (g.Q.Order.seen c.pass_on.new.seat) c.args.parts.now c.pass_on.new.parts c.requires.parts c.put_all_back.new.parts (c.in-Stopped.ensures {u = tt}).passed c.put_all_back.ensures

pub pass_on-requires-clause-lines : goal.pass_on-requires-clause-lines
pass_on-requires-clause-lines g c = λ κs b. without_aside c.args.hall.now.terms c.args.parts.now.pass.knows c.args.«package» c.args.parts.now.aside (λ a e. (c.requires.parts.at.aside a e).free) c.requires.lines

pub returns-in-Home-clause-lines : goal.returns-in-Home-clause-lines
returns-in-Home-clause-lines g c = c.resume.ensures.lines

pub returns-in-Granted-clause-lines : goal.returns-in-Granted-clause-lines
returns-in-Granted-clause-lines g c = c.resume-in-Granted.ensures.lines

pub returns-in-Adopted-clause-lines : goal.returns-in-Adopted-clause-lines
returns-in-Adopted-clause-lines g c =
    let e = c.in-Adopted.ensures {u = tt} in
    c.set_aside.ensures.lines c.in-Adopted.waiter (with_aside c.args.hall.now.terms c.args.parts.now.pass.knows c.pass_on.new.parts.pass.knows (Pack c.in-Adopted.waiter ∷ Pack c.pass_on.new.«package» ∷ []) c.args.«package» c.args.parts.now.aside c.pass_on.new.parts.aside (λ a e. (c.requires.parts.at.aside a e).free) c.requires.parts.at.out c.requires.lines e.turns e.passed.aside e.lines)
    (adopted_apart c.args.hall.now c.args.released.lock c.args.released.block.now c.args.«package» c.pass_on.new.«package» (g.Q.Order.seen c.args.seat.now) (g.Q.Order.seen c.pass_on.new.seat) c.args.parts.now c.pass_on.new.parts c.requires.parts c.in-Adopted.waiter e.passed)

pub returns-in-Stopped-clause-lines : goal.returns-in-Stopped-clause-lines
returns-in-Stopped-clause-lines g c = tt
