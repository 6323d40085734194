use Rattle.std.proofs.Common.{◌≡◌, ℕ, [], ◌∷◌, ◌++◌, Option, ap, ◌∙◌, subst, arith}
use Rattle.tc_hall.proofs.Vocabulary.{AreStocked, Cargo}
use Rattle.tc_hall.proofs.Opening.{none_stocked, package_stocked, lock_stocked}
use Rattle.tc_hall.proofs.hall.stock.Goals as goal

pub loop-t-init : goal.loop-t-init
loop-t-init c = let e = c.in_ok-slots.ensures in record { stocked = none_stocked c.args.image.now c.args.fuel c.args.limit c.in_ok-slots.slots.items e.items; room = e.capacity }

pub push_reserved-requires : goal.push_reserved-requires
push_reserved-requires c = let n = c.loop-t.slots.ok.0 in let r = c.loop-t.invariant.stocked.count in let m = c.loop-t.invariant.room in omega arith

pub loop-t-preserved : goal.loop-t-preserved
loop-t-preserved c = record {
  stocked = package_stocked c.args.image.now c.loop-t.t c.args.fuel c.args.limit c.loop-t.slots.items c.push_reserved.new.self.items c.in_ok-package.package c.loop-t.invariant.stocked c.in_ok-package.ensures (c.push_reserved.ensures.items ∙ ap (λ (z : Option Cargo). c.loop-t.slots.items ++ z ∷ []) c.of-in-loop-t.ensures);
  room = let m = c.loop-t.invariant.room in let e = c.push_reserved.ensures.capacity in omega arith;
}

pub loop-i-init : goal.loop-i-init
loop-i-init c = let e : c.loop-t.t ≡ c.threads-threads.result = (let b = c.loop-t.auto.t-end in let z = c.loop-t-test.false in omega arith) in
    record { stocked = subst (λ (z : ℕ). AreStocked c.args.image.now z 0 c.args.fuel c.args.limit c.loop-t.slots.items) e c.loop-t.invariant.stocked; room = c.loop-t.invariant.room }

pub push_reserved-requires-in-loop-i : goal.push_reserved-requires-in-loop-i
push_reserved-requires-in-loop-i c = let n = c.loop-i.slots.ok.0 in let r = c.loop-i.invariant.stocked.count in let m = c.loop-i.invariant.room in omega arith

pub loop-i-preserved : goal.loop-i-preserved
loop-i-preserved c = record {
  stocked = lock_stocked c.args.image.now c.threads-threads.result c.loop-i.i c.args.fuel c.args.limit c.loop-i.slots.items c.push_reserved-in-loop-i.new.self.items c.in_ok-lock.lock c.loop-i.invariant.stocked c.in_ok-lock.ensures (c.push_reserved-in-loop-i.ensures.items ∙ ap (λ (z : Option Cargo). c.loop-i.slots.items ++ z ∷ []) c.of-in-loop-i.ensures);
  room = let m = c.loop-i.invariant.room in let e = c.push_reserved-in-loop-i.ensures.capacity in omega arith;
}

pub returns : goal.returns
returns c =
    let e : c.loop-i.i ≡ c.guards-locks.result = (let b = c.loop-i.auto.i-end in let z = c.loop-i-test.false in omega (arith, b, z)) in
    subst (λ (z : ℕ × ℕ). AreStocked c.args.image.now z.0 z.1 c.args.fuel c.args.limit c.loop-i.slots.items) (λ i. (c.threads-threads.ensures.value i, (e ∙ c.guards-locks.ensures.value) i)) c.loop-i.invariant.stocked
