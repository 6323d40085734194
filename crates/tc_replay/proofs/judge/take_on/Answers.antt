use Rattle.std.proofs.Common.{refl, subst, ◌≡◌, ◌∙◌, sym, arith}
use Rattle.std.specs.Prelude.{Option, Some}
use Rattle.tc_mutex_spec.specs.Blocks.{end_after}
use Rattle.tc_replay.specs.Rejected.{IsWrong}
use Rattle.tc_replay.specs.Run.{IsJudged}
use Rattle.tc_replay.specs.declared.reason.Reason.{Reason}
use Rattle.tc_replay.specs.declared.reason.Reason.TheVariants as reason
use Rattle.tc_replay.proofs.Taking.{roomy_next, roomy_want, want_small, grants, owner_wrong, off_from, at_after, granted_after, set_after, took}
use Rattle.tc_replay.proofs.judge.take_on.Goals as goal

pub make_room-requires : goal.make_room-requires
make_room-requires c = want_small c.args.image.now c.args.terms c.requires.0 c.args.home.now c.args.«package».now c.args.block.now c.requires.1 c.keeps.ensures.want c.want-want.result c.want-want.ensures

pub grant_wanted-requires-clause-small : goal.grant_wanted-requires-clause-small
grant_wanted-requires-clause-small c = want_small c.args.image.now c.args.terms c.requires.0 c.args.home.now c.args.«package».now c.args.block.now c.requires.1 c.keeps.ensures.want c.want-want.result c.want-want.ensures

pub grant_wanted-requires-clause-may : goal.grant_wanted-requires-clause-may
grant_wanted-requires-clause-may c =
    grants c.args.image.now c.args.terms c.requires.0 c.make_room.new.home c.make_room.new.«package» c.args.block.now
    (roomy_next c.args.image.now c.args.terms c.requires.0 c.args.home.now c.make_room.new.home c.args.«package».now c.make_room.new.«package» c.args.block.now c.requires.1 c.in_ok-make_room.ensures.same.rooms c.in_ok-make_room.ensures.same.home)
    c.keeps-2.ensures.want c.want-want.result (roomy_want c.args.image.now c.want-want.result c.args.«package».now c.make_room.new.«package» c.in_ok-make_room.ensures.same.rooms c.want-want.ensures)

pub returns-then-not-grant_wanted-clause-wrong : goal.returns-then-not-grant_wanted-clause-wrong
returns-then-not-grant_wanted-clause-wrong c r e before next =
    let same : reason.Owner ≡ r = cc in
    let away = c.if-not-grant_wanted.ensures.away refl in
    subst (IsWrong c.args.image.now c.args.terms before.history (end_after c.args.image.now c.args.terms.fuel before.history) c.args.block.now) same
    (owner_wrong c.args.image.now c.args.terms before c.make_room.new.home c.make_room.new.«package» c.args.block.now
    (roomy_next c.args.image.now c.args.terms before c.args.home.now c.make_room.new.home c.args.«package».now c.make_room.new.«package» c.args.block.now next c.in_ok-make_room.ensures.same.rooms c.in_ok-make_room.ensures.same.home)
    c.keeps-2.ensures.want away.0
    (sym (roomy_want c.args.image.now c.want-want.result c.args.«package».now c.make_room.new.«package» c.in_ok-make_room.ensures.same.rooms c.want-want.ensures) ∙ away.1) away.2)

pub run_recorded-wrong-requires : goal.run_recorded-wrong-requires
run_recorded-wrong-requires c = (
  c.requires.0.history,
  (off_from c.args.image.now c.args.terms c.requires.0 c.args.home.now c.make_room.new.home c.grant_wanted.new.home c.args.«package».now c.make_room.new.«package» c.grant_wanted.new.«package» c.args.block.now c.want-want.result c.requires.1
      c.in_ok-make_room.ensures.same.rooms c.in_ok-make_room.ensures.same.home c.keeps-2.ensures.want c.want-want.ensures c.in_ok-make_room.ensures.reserved c.in_ok-make_room.ensures.room (c.grant_wanted.ensures.granted c.if-not-grant_wanted.false) c.grant_wanted.ensures.none).prepared,
)

pub returns-then-is_some-clause-wrong : goal.returns-then-is_some-clause-wrong
returns-then-is_some-clause-wrong c r e before next =
    let some : c.run_recorded-wrong.result ≡ Some r = cc in
    subst (λ (o : Option Reason). IsJudged c.args.image.now c.args.terms before.history c.grant_wanted.new.«package» c.run_recorded-wrong.new.«package» c.args.block.now o) some
    (c.run_recorded-wrong.ensures before.history (off_from c.args.image.now c.args.terms before c.args.home.now c.make_room.new.home c.grant_wanted.new.home c.args.«package».now c.make_room.new.«package» c.grant_wanted.new.«package» c.args.block.now c.want-want.result next
    c.in_ok-make_room.ensures.same.rooms c.in_ok-make_room.ensures.same.home c.keeps-2.ensures.want c.want-want.ensures c.in_ok-make_room.ensures.reserved c.in_ok-make_room.ensures.room (c.grant_wanted.ensures.granted c.if-not-grant_wanted.false) c.grant_wanted.ensures.none).prepared)

pub bring_released-requires : goal.bring_released-requires
bring_released-requires c =
    let off = off_from c.args.image.now c.args.terms c.requires.0 c.args.home.now c.make_room.new.home c.grant_wanted.new.home c.args.«package».now c.make_room.new.«package» c.grant_wanted.new.«package» c.args.block.now c.want-want.result c.requires.1
    c.in_ok-make_room.ensures.same.rooms c.in_ok-make_room.ensures.same.home c.keeps-2.ensures.want c.want-want.ensures c.in_ok-make_room.ensures.reserved c.in_ok-make_room.ensures.room (c.grant_wanted.ensures.granted c.if-not-grant_wanted.false) c.grant_wanted.ensures.none in
    let nothing = sym c.is_some.ensures ∙ c.if-is_some.false in
    let judged = c.run_recorded-wrong.ensures c.requires.0.history off.prepared in record {
      pending = (at_after c.args.image.now c.args.terms c.requires.0 c.grant_wanted.new.home c.grant_wanted.new.«package» c.run_recorded-wrong.new.«package» c.args.block.now off c.requires.1.stamp (omega (arith, c.if-prove.false)) c.run_recorded-wrong.result nothing judged).pending;
      granted = granted_after c.args.image.now c.args.terms c.requires.0 c.grant_wanted.new.home c.grant_wanted.new.«package» c.run_recorded-wrong.new.«package» c.args.block.now off c.requires.1.stamp (omega (arith, c.if-prove.false)) c.run_recorded-wrong.result nothing judged;
      locks = set_after c.args.image.now c.args.terms c.requires.0 c.grant_wanted.new.home c.grant_wanted.new.«package» c.run_recorded-wrong.new.«package» c.args.block.now off c.requires.1.stamp (omega (arith, c.if-prove.false)) c.run_recorded-wrong.result nothing judged;
    }

pub returns-clause-took : goal.returns-clause-took
returns-clause-took c e before next =
    let off = off_from c.args.image.now c.args.terms before c.args.home.now c.make_room.new.home c.grant_wanted.new.home c.args.«package».now c.make_room.new.«package» c.grant_wanted.new.«package» c.args.block.now c.want-want.result next
    c.in_ok-make_room.ensures.same.rooms c.in_ok-make_room.ensures.same.home c.keeps-2.ensures.want c.want-want.ensures c.in_ok-make_room.ensures.reserved c.in_ok-make_room.ensures.room (c.grant_wanted.ensures.granted c.if-not-grant_wanted.false) c.grant_wanted.ensures.none in
    took c.args.image.now c.args.terms before c.grant_wanted.new.home c.grant_wanted.new.«package» c.run_recorded-wrong.new.«package» c.args.block.now off next.stamp (omega (arith, c.if-prove.false)) c.run_recorded-wrong.result (sym c.is_some.ensures ∙ c.if-is_some.false) (c.run_recorded-wrong.ensures before.history off.prepared)
    c.bring_released.new.home c.bring_released.new.«package» c.bring_released.ensures.at c.bring_released.ensures.calm c.bring_released.ensures.rest
