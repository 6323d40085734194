use Rattle.tc_told.proofs.Succession.{released, at_once, waited, next, unbroken}
use Rattle.tc_told.proofs.handover.handover.Goals as goal

pub returns-clause-released : goal.returns-clause-released
returns-clause-released c = λ image limits fuel h before after lock b rules place adopted. released image limits fuel h rules before after lock b place adopted

pub returns-clause-at_once : goal.returns-clause-at_once
returns-clause-at_once c = λ image limits fuel h before after lock b rules place adopted. at_once image limits fuel h rules before after lock b place adopted

pub returns-clause-waited : goal.returns-clause-waited
returns-clause-waited c = λ image limits fuel h before after lock b rules place begin. waited image limits fuel h rules before after lock b place begin

pub returns-clause-next : goal.returns-clause-next
returns-clause-next c = λ image limits fuel h before after lock p b rules place unlocked first adopted. next image limits fuel h rules before after lock p b place unlocked first adopted

pub returns-clause-unbroken : goal.returns-clause-unbroken
returns-clause-unbroken c = λ image limits fuel h before after section lock b rules place begin front cut. unbroken image limits fuel h rules before after section lock b place begin front cut
