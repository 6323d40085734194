use Rattle.std.proofs.Common.{◌≡◌, ◌+◌, ℕ, Option, Some, List, refl, sym, ap, ◌∙◌, subst, arith}
use Rattle.tc_hall.proofs.Vocabulary.{AreTaken, Cargo, HallView, HasAll, HasSeenAll, IsEmptied, IsEnd, IsFree, Knows, Lock, LockView, Package, PackageView, PassView, HallTerms, get_elem?, locks, slots_filled, slots_items, slots_len, some, threads}
use Rattle.tc_hall.proofs.Ended.{taken_none, taken_more, emptied_more, full_emptied, some_package, some_lock, ends}
use Rattle.tc_hall.proofs.hall.Hall.close.Goals as goal

-- what the call asks of the last pass
abbrev Asked : HallTerms → Knows → Type 0
Asked k v = HasSeenAll (threads k) v × HasAll k.workers v × IsFree v

pub loop-t-init : goal.loop-t-init
loop-t-init c =
    let e = c.close_with-closed.ensures in
    record { taken = taken_none (λ (q : PackageView). Package q) 0 _ _ c.self.invariant.4; same = refl; emptied = full_emptied _ _ e.values.1; long = refl; room = c.self.invariant.5 }

pub take-requires : goal.take-requires
take-requires c =
    let e = c.close_with-closed.ensures in
    let inv = c.loop-t.invariant in
    let n : slots_len c.loop-t.closed.slots ≡ c.self.inside.threads + c.self.inside.locks = inv.long ∙ (e.counts.1 ∙ c.self.invariant.2) in
    (omega arith, inv.emptied.full c.loop-t.t (omega arith) (let m = inv.long in omega arith))

pub package_of-requires : goal.package_of-requires
package_of-requires c =
    let key = c.self.inside.board.shared.key in
    let v = c.pass.inside.seat.me.0 in
    let asked : Asked key v = subst (λ (z : HallView × PassView). Asked z.0.terms z.1.knows) (λ i. (sym c.self.view_is i, sym c.pass.view_is i)) (c.requires.done, c.requires.last.all, c.requires.last.free) in
    some_package key c.pass.inside.seat.id v _ _ c.close_with-closed.ensures.values.2 c.pass.invariant.3 asked.0 asked.1 asked.2 c.loop-t.t c.into_cargo.result (let m = c.self.invariant.0 in omega arith)
    (ap (λ (l : List (Option Cargo)). get_elem? l c.loop-t.t) (sym c.loop-t.invariant.same) ∙ (c.take.ensures.value ∙ ap (λ (z : Option Cargo). some z) (sym c.into_cargo.ensures)))

pub push_reserved-requires : goal.push_reserved-requires
push_reserved-requires c = let n = c.loop-t.packages.ok.0 in let r = c.loop-t.invariant.taken.count in let m = c.loop-t.invariant.room in omega arith

pub loop-t-preserved : goal.loop-t-preserved
loop-t-preserved c =
    let inv = c.loop-t.invariant in
    let e = c.close_with-closed.ensures in
    let o = c.take.ensures.others in
    let at : get_elem? (slots_items c.close_with-closed.result.slots) c.loop-t.t ≡ some (Some (Package c.package_of.result)) = ap (λ (l : List (Option Cargo)). get_elem? l c.loop-t.t) (sym inv.same) ∙ (c.take.ensures.value ∙ ap (λ (z : Option Cargo). some z) (sym c.into_cargo.ensures ∙ c.package_of.ensures)) in
    record {
      taken = taken_more (λ (q : PackageView). Package q) 0 _ c.loop-t.t c.loop-t.packages.items c.push_reserved.new.self.items c.package_of.result inv.taken c.push_reserved.ensures.items
          (subst (λ (z : ℕ). get_elem? (slots_items c.close_with-closed.result.slots) z ≡ some (Some (Package c.package_of.result))) (omega arith) at);
      same = o.0 ∙ inv.same;
      emptied = subst (IsEmptied (c.loop-t.t + 1) _) (sym o.1) (emptied_more c.loop-t.t _ _ inv.emptied (let n : slots_len c.loop-t.closed.slots ≡ c.self.inside.threads + c.self.inside.locks = inv.long ∙ (e.counts.1 ∙ c.self.invariant.2) in let f = c.loop-t.closed.slots.ok.1 in omega arith));
      long = o.2 ∙ inv.long;
      room = let m = inv.room in let f = c.push_reserved.ensures.capacity in omega arith;
    }

pub loop-i-init : goal.loop-i-init
loop-i-init c =
    let inv = c.loop-t.invariant in
    let e : c.loop-t.t ≡ c.self.inside.threads = (let b = c.loop-t.auto.t-end in let z = c.loop-t-test.false in omega arith) in
    record {
      taken = taken_none (λ (q : LockView). Lock q) c.self.inside.threads _ _ c.self.invariant.6;
      same = refl;
      emptied = subst (λ (z : ℕ × ℕ). IsEmptied z.0 z.1 (slots_filled c.loop-t.closed.slots)) (λ i. ((let x : c.loop-t.t ≡ c.self.inside.threads + 0 = omega arith in x) i, sym inv.long i)) inv.emptied;
      long = refl;
      room = c.self.invariant.7;
    }

pub take-requires-in-loop-i : goal.take-requires-in-loop-i
take-requires-in-loop-i c =
    let e = c.close_with-closed.ensures in
    let inv = c.loop-i.invariant in
    let n : slots_len c.loop-i.closed.slots ≡ c.self.inside.threads + c.self.inside.locks = inv.long ∙ (c.loop-t.invariant.long ∙ (e.counts.1 ∙ c.self.invariant.2)) in
    (omega arith, inv.emptied.full (c.self.inside.threads + c.loop-i.i) (omega arith) (let m = inv.long in omega arith))

pub lock_of-requires : goal.lock_of-requires
lock_of-requires c =
    let key = c.self.inside.board.shared.key in
    let v = c.pass.inside.seat.me.0 in
    let asked : Asked key v = subst (λ (z : HallView × PassView). Asked z.0.terms z.1.knows) (λ i. (sym c.self.view_is i, sym c.pass.view_is i)) (c.requires.done, c.requires.last.all, c.requires.last.free) in
    let at = ap (λ (l : List (Option Cargo)). get_elem? l (c.self.inside.threads + c.loop-i.i)) (sym c.loop-t.invariant.same ∙ sym c.loop-i.invariant.same) ∙ (c.take-in-loop-i.ensures.value ∙ ap (λ (z : Option Cargo). some z) (sym c.into_cargo-in-loop-i.ensures)) in
    some_lock key c.pass.inside.seat.id v _ _ c.close_with-closed.ensures.values.2 c.pass.invariant.3 asked.0 asked.1 asked.2 c.loop-i.i c.into_cargo-in-loop-i.result (let m = c.self.invariant.3 in omega arith)
    (subst (λ (z : ℕ). get_elem? (slots_items c.close_with-closed.result.slots) (z + c.loop-i.i) ≡ some c.into_cargo-in-loop-i.result) c.self.invariant.0 at)

pub push_reserved-requires-in-loop-i : goal.push_reserved-requires-in-loop-i
push_reserved-requires-in-loop-i c = let n = c.loop-i.lock_states.ok.0 in let r = c.loop-i.invariant.taken.count in let m = c.loop-i.invariant.room in omega arith

pub loop-i-preserved : goal.loop-i-preserved
loop-i-preserved c =
    let inv = c.loop-i.invariant in
    let e = c.close_with-closed.ensures in
    let o = c.take-in-loop-i.ensures.others in
    let n : ℕ = c.self.inside.threads in
    let at = ap (λ (l : List (Option Cargo)). get_elem? l (n + c.loop-i.i)) (sym inv.same) ∙ (c.take-in-loop-i.ensures.value ∙ ap (λ (z : Option Cargo). some z) (sym c.into_cargo-in-loop-i.ensures ∙ c.lock_of.ensures)) in
    let more : IsEmptied (n + c.loop-i.i + 1) (slots_len c.loop-t.closed.slots) (slots_filled c.take-in-loop-i.new.self.slots) = subst (IsEmptied (n + c.loop-i.i + 1) _) (sym o.1)
    (emptied_more (n + c.loop-i.i) _ _ inv.emptied (let x : slots_len c.loop-i.closed.slots ≡ n + c.self.inside.locks = inv.long ∙ (c.loop-t.invariant.long ∙ (e.counts.1 ∙ c.self.invariant.2)) in let f = c.loop-i.closed.slots.ok.1 in omega arith)) in
    record {
      taken = taken_more (λ (q : LockView). Lock q) n _ c.loop-i.i c.loop-i.lock_states.items c.push_reserved-in-loop-i.new.self.items c.lock_of.result inv.taken c.push_reserved-in-loop-i.ensures.items at;
      same = o.0 ∙ inv.same;
      emptied = subst (λ (z : ℕ). IsEmptied z (slots_len c.loop-t.closed.slots) (slots_filled c.take-in-loop-i.new.self.slots)) (omega arith) more;
      long = o.2 ∙ inv.long;
      room = let m = inv.room in let f = c.push_reserved-in-loop-i.ensures.capacity in omega arith;
    }

pub free-requires : goal.free-requires
free-requires c k h =
    let e = c.close_with-closed.ensures in
    let n : slots_len c.loop-i.closed.slots ≡ c.self.inside.threads + c.self.inside.locks = c.loop-i.invariant.long ∙ (c.loop-t.invariant.long ∙ (e.counts.1 ∙ c.self.invariant.2)) in
    let z = c.loop-i-test.false in
    c.loop-i.invariant.emptied.empty k (omega arith)

pub returns : goal.returns
returns c =
    let key = c.self.inside.board.shared.key in
    let v = c.pass.inside.seat.me.0 in
    let asked : Asked key v = subst (λ (z : HallView × PassView). Asked z.0.terms z.1.knows) (λ i. (sym c.self.view_is i, sym c.pass.view_is i)) (c.requires.done, c.requires.last.all, c.requires.last.free) in
    let n : c.loop-t.t ≡ threads key = (let b = c.loop-t.auto.t-end in let z = c.loop-t-test.false in let m = c.self.invariant.0 in omega arith) in
    let m : c.loop-i.i ≡ locks key = (let b = c.loop-i.auto.i-end in let z = c.loop-i-test.false in let m = c.self.invariant.3 in omega arith) in
    let taken = subst (λ (z : ℕ). AreTaken (λ (q : PackageView). Package q) 0 z (slots_items c.close_with-closed.result.slots) c.loop-t.packages.items) n c.loop-t.invariant.taken in
    let taken_locks = subst (λ (z : ℕ × ℕ × List (Option Cargo)). AreTaken (λ (q : LockView). Lock q) z.0 z.1 z.2 c.loop-i.lock_states.items) (λ i. (c.self.invariant.0 i, m i, c.loop-t.invariant.same i)) c.loop-i.invariant.taken in
    subst (λ (z : HallView × PassView). IsEnd z.0.terms z.1.knows c.loop-t.packages.items c.loop-i.lock_states.items) (λ i. (c.self.view_is i, c.pass.view_is i))
    (ends key c.pass.inside.seat.id v _ _ c.close_with-closed.ensures.values.2 c.pass.invariant.3 asked.0 asked.1 asked.2 c.loop-t.packages.items c.loop-i.lock_states.items taken taken_locks)
