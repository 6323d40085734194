use Rattle.std.proofs.Common.{◌≡◌, ℕ, ◌≤◌, ◌∙◌, ap, map, sym, subst, arith, length, vec_capacity}
use Rattle.std.specs.Prelude.{None, Vec}
use Rattle.std.specs.Global.{Global}
use Rattle.tc_segment.specs.View.{LockView, kept}
use Rattle.tc_context.specs.Locks.{lock_in}
use Rattle.tc_context.specs.View.{bare}
use Rattle.tc_law.specs.Lawful.{Lawful}
use Rattle.tc_replay.specs.Taken.{CheckerView}
use Rattle.tc_replay.proofs.Ending.{IsGiven, none_given, kept_by, home_known, given_more, given_none, few_guards, given}
use Rattle.tc_replay.proofs.checker.Checker.parts.Goals as goal
use Rattle.tc_replay.proofs.checker.Checker.parts.Goals.{in-Some, in_default}

pub loop-lock-init : goal.loop-lock-init
loop-lock-init c =
    let v = c.args.self in
    record {
      given = subst (λ l. IsGiven v.image v.home 0 l c.self.inside.states.items) (sym (ap (λ (x : CheckerView). x.home) c.self.view_is)) (none_given v.image v.home c.self.inside.states.items c.self.invariant.1);
      room = (let room = c.self.invariant.2 in let same = ap (λ (x : CheckerView). length x.image.guards) c.self.view_is in omega (arith, room, same));
    }

pub push_reserved-requires : goal.push_reserved-requires
push_reserved-requires c =
    let v = c.args.self in
    let taken = kept_by _ v c.self.view_is c.self.invariant.0 c.requires.failed in
    let inv = c.loop-lock.invariant in
    let lt = home_known v.image v.terms v.taken v.packages v.home taken c.loop-lock.lock c.in-Some.state (sym (inv.given.to_come c.loop-lock.lock (omega arith)) ∙ sym c.take_out.ensures.taken ∙ c.in-Some.is) in
    let count = inv.given.count (omega (arith, lt)) in
    omega (arith, lt, count, inv.room, c.loop-lock.states.ok.0)

pub loop-lock-preserved : goal.loop-lock-preserved
loop-lock-preserved c =
    let v = c.args.self in
    let taken = kept_by _ v c.self.view_is c.self.invariant.0 c.requires.failed in
    let complete = c.requires.ended in
    let inv = c.loop-lock.invariant in
    elim c.match-take_out.branch [
      | in-Some w ↦ record {
        given = given_more v.image v.terms v.taken v.packages v.home taken complete c.loop-lock.lock c.loop-lock.home c.take_out.new.self c.loop-lock.states.items c.match-take_out.states.items w.in-Some.state inv.given c.take_out.ensures.left
            (sym c.take_out.ensures.taken ∙ w.in-Some.is) (ap (λ (x : Vec LockView Global). x.items) w.states-is ∙ w.push_reserved.ensures.items);
        room = (let room = inv.room in let same = ap vec_capacity w.states-is in let more = w.push_reserved.ensures.capacity in omega (arith, room, same, more));
      }
      | in_default w ↦ record {
        given = given_none v.image v.terms v.taken v.packages v.home taken complete c.loop-lock.lock c.loop-lock.home c.take_out.new.self c.loop-lock.states.items c.match-take_out.states.items inv.given c.take_out.ensures.left
            (sym c.take_out.ensures.taken ∙ w.in_default.is) (ap (λ (x : Vec LockView Global). x.items) w.states-is);
        room = (let room = inv.room in let same = ap vec_capacity w.states-is in omega (arith, room, same));
      }
    ]

pub returns : goal.returns
returns c =
    let v = c.args.self in
    let taken = kept_by _ v c.self.view_is c.self.invariant.0 c.requires.failed in
    let complete = c.requires.ended in
    let inv = c.loop-lock.invariant in
    let home_is = ap (λ (x : CheckerView). x.home) c.self.view_is in
    let few = few_guards v.image v.terms v.taken v.packages v.home taken complete (subst (λ l. (k : ℕ) → 32 ≤ k → lock_in l k ≡ None) home_is c.bound.ensures.past) in
    let many = inv.given.all (omega (arith, few, c.loop-lock-test.false)) in
    subst (λ l. Lawful v.image v.terms.fuel v.terms.limit v.taken (map bare l) (map kept c.loop-lock.states.items)) (sym (ap (λ (x : CheckerView). x.packages) c.self.view_is))
    (given v.image v.terms v.taken v.packages v.home taken c.loop-lock.states.items many inv.given.each)
