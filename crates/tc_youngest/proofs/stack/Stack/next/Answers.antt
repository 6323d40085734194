use Rattle.std.proofs.Common.{rules, ◌≡◌, ◌<◌, ◌==◌, ◌∙◌, All, false, get_or, inr, sym, ap, subst, arith, Some, List}
use Rattle.tc_queue.specs.Words.{IsTurn}
use Rattle.tc_youngest.specs.declared.stack.Stacked.{Stacked}
use Rattle.tc_youngest.specs.Stack.{AreSteady, StackView, served}
use Rattle.tc_youngest.proofs.Steady.{from_first, last_turn, served_last, steady_front, steady_passed}
use Rattle.tc_youngest.proofs.stack.Stack.next.Goals as goal

pub invariant_of-self-2 : goal.invariant_of-self-2
invariant_of-self-2 c =
    let bound = c.self.inside.bound in let left = c.pop.new.self.items in
    let steady = subst (AreSteady 0 bound) c.in_ok-youngest.ensures.items c.self.invariant.steady in record {
      room = (let a = c.pass_over.ensures.capacity in let b = c.pop.ensures.capacity in let r = c.self.invariant.room in omega arith);
      steady = subst (AreSteady 0 bound) (sym c.pass_over.ensures.passed) (steady_passed bound 0 left (steady_front bound 0 left c.in_ok-youngest.youngest steady));
    }

pub returns-clause-order : goal.returns-clause-order
returns-clause-order c =
    let o = c.in_ok-oldest.field-0.now in let first : get_or c.self.inside.waiting.items 0 o ≡ o = search rules in
    let some_left : (o.left == 0) ≡ false = search rules in let youngest = c.in_ok-youngest.youngest in
    let now = served_last c.pop.new.self.items youngest o (subst (λ (l : List Stacked). get_or l 0 o ≡ o) c.in_ok-youngest.ensures.items first) some_left in
    (λ i. (Some youngest.turn, c.pass_over.ensures.passed i)) ∙ sym (ap served c.in_ok-youngest.ensures.items ∙ now) ∙ ap (λ (s : StackView). served s.waiting) c.self.view_is

pub returns-clause-bound : goal.returns-clause-bound
returns-clause-bound c =
    let o = c.in_ok-oldest.field-0.now in let first : get_or c.self.inside.waiting.items 0 o ≡ o = search rules in
    let some_left : 0 < o.left = search rules in
    let all = from_first c.self.inside.bound c.self.inside.waiting.items o c.self.invariant.steady first in
    inr (subst (λ (s : StackView). All (λ (w : Stacked). 0 < w.left) s.waiting) c.self.view_is (λ k d lt. let least = all k d lt in omega arith))

pub returns-clause-turn : goal.returns-clause-turn
returns-clause-turn c u is =
    let steady = subst (AreSteady 0 c.self.inside.bound) c.in_ok-youngest.ensures.items c.self.invariant.steady in
    let same : c.in_ok-youngest.youngest.turn ≡ u = search rules in subst (IsTurn 64) same (last_turn c.self.inside.bound 0 c.pop.new.self.items c.in_ok-youngest.youngest steady)
