use Rattle.std.proofs.Common.{ℕ, ◌+◌, ◌≤◌, length, max, sym, ap, ◌∙◌, subst, arith}
use Rattle.std.proofs.Math.Nat.{max-le}
use Rattle.crossbeam_deque.specs.Tasks.{Takes}
use Rattle.crossbeam_deque.specs.Handles.{worker_view}
use Rattle.tc_ready.specs.declared.ends.Log.{Log}
use Rattle.tc_ready.specs.Rule.{KeptDeque, popped}
use Rattle.tc_ready.proofs.Keeping.{pops}
use Rattle.tc_ready.proofs.ends.OwnEnd.pop.Goals as goal

pub pop_as-requires-clause-fifo : goal.pop_as-requires-clause-fifo
pop_as-requires-clause-fifo c = λ fifo. let v = worker_view c.self.inside.worker in subst (λ (p : ℕ). Takes KeptDeque p v 1 (popped v)) (sym c.self.invariant.1) (pops v)

pub invariant_of-self : goal.invariant_of-self
invariant_of-self c =
    let i = c.self.invariant in
    let s = c.pop_as.ensures.same in
    let e = c.in-None.ensures.rule in
    (s.0.1 ∙ i.0, s.0.2 ∙ i.1, (let a = s.1 in let b = i.2 in omega arith), ap (λ (v : Log). length v.given) e.0 ∙ i.3, (let a = s.0.3 in let b = i.4 in omega arith), i.5, i.6, omega arith, (let a = ap (λ (v : Log). v.gone) e.0 in let b = i.8 in omega arith), ap (λ (v : Log). v.threads) e.0 ∙ i.9, i.10)

pub invariant_of-self-in-Some : goal.invariant_of-self-in-Some
invariant_of-self-in-Some c =
    let i = c.self.invariant in
    let s = c.pop_as.ensures.same in
    let e = c.in-Some.ensures.rule in
    let v = worker_view c.self.inside.worker in
    let few : max v.gone (e.serial + 1) ≤ c.self.inside.given = max-le i.8 (let a = e.own in let b = i.3 in omega arith) in
    (s.0.1 ∙ i.0, s.0.2 ∙ i.1, (let a = s.1 in let b = i.2 in omega arith), ap (λ (u : Log). length u.given) e.now ∙ i.3, (let a = s.0.3 in let b = i.4 in omega arith), i.5, i.6, i.7, (let a = ap (λ (u : Log). u.gone) e.now in omega arith), ap (λ (u : Log). u.threads) e.now ∙ i.9, i.10)
