use Rattle.tc_context.proofs.Vocabulary.{◌∙◌, ap, refl, subst, Some, has, TurnFits, TurnReady}
use Rattle.tc_exec.specs.declared.outcome.Done.TheVariants.{Called}
use Rattle.tc_context.proofs.locks.LockSet.take_turn.Goals as goal

pub give_up-requires : goal.give_up-requires
give_up-requires c = record { ready = λ k l found. subst (λ a. TurnReady (has c.args.held) a k l) c.in_default.is (c.requires.ready k l found) }

pub put-requires-clause-ready : goal.put-requires-clause-ready
put-requires-clause-ready c = λ k l found. subst (λ a. TurnReady (has c.args.held) a k l) (c.in-Some.is ∙ ap Some c.in-Stored.is) (c.requires.ready k l found)

pub begin-requires : goal.begin-requires
begin-requires c =
    let is = c.in-Some.is ∙ ap Some (c.in-Called.is ∙ ap Called c.in-Lock.is) in
    record { place = subst TurnFits is c.requires.fits; lock = λ l found. subst (λ a. TurnReady (has c.args.held) a c.in-Lock.lock l) is (c.requires.ready c.in-Lock.lock l found) refl }

pub give_up-requires-in-Exit : goal.give_up-requires-in-Exit
give_up-requires-in-Exit c = record { ready = λ k l found. subst (λ a. TurnReady (has c.args.held) a k l) (c.in-Some.is ∙ ap Some (c.in-Called.is ∙ ap Called c.in-Exit.is)) (c.requires.ready k l found) }

pub give_up-requires-in-Faulted : goal.give_up-requires-in-Faulted
give_up-requires-in-Faulted c = record { ready = λ k l found. subst (λ a. TurnReady (has c.args.held) a k l) (c.in-Some.is ∙ ap Some c.in-Faulted.is) (c.requires.ready k l found) }
