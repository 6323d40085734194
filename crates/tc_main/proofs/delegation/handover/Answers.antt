use Rattle.tc_told.proofs.Succession.{released, at_once, waited, next, unbroken}
use Rattle.tc_main.proofs.Legal.{limits_of, shows}
use Rattle.tc_main.proofs.delegation.handover.Goals as goal

pub returns-clause-released : goal.returns-clause-released
returns-clause-released c = λ image o results before after lock b legal place adopted. released image (limits_of o) o.fuel results.history (shows image o results legal) before after lock b place adopted

pub returns-clause-at_once : goal.returns-clause-at_once
returns-clause-at_once c = λ image o results before after lock b legal place adopted. at_once image (limits_of o) o.fuel results.history (shows image o results legal) before after lock b place adopted

pub returns-clause-waited : goal.returns-clause-waited
returns-clause-waited c = λ image o results before after lock b legal place begin. waited image (limits_of o) o.fuel results.history (shows image o results legal) before after lock b place begin

pub returns-clause-next : goal.returns-clause-next
returns-clause-next c = λ image o results before after lock p b legal place unlocked first adopted. next image (limits_of o) o.fuel results.history (shows image o results legal) before after lock p b place unlocked first adopted

pub returns-clause-unbroken : goal.returns-clause-unbroken
returns-clause-unbroken c = λ image o results before after section lock b legal place begin front cut. unbroken image (limits_of o) o.fuel results.history (shows image o results legal) before after section lock b place begin front cut
