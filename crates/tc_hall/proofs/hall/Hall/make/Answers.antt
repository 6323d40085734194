use Rattle.std.proofs.Common.{◌≡◌, ◌≤◌, ◌+◌, ◌-◌, ◌*◌, if◌then◌else◌, ℕ, length, replicate, sym, ap, ◌∙◌, subst, arith}
use Rattle.tc_hall.proofs.Vocabulary.{AreStocked, IsInLimits, Knows, MAX_GUARDS, MAX_THREADS, Shown, HallTerms, slot_word}
use Rattle.tc_hall.proofs.Stepping.{splits}
use Rattle.tc_hall.proofs.Ordering.{opens_order}
use Rattle.tc_hall.proofs.Opening.{maker_first, maker_next, new_pass, new_made, last_pass, last_made, none_made}
use Rattle.tc_hall.proofs.hall.Hall.make.Goals as goal

pub new-requires : goal.new-requires
new-requires c =
    let k : HallTerms = record { image = c.of.result; fuel = c.args.fuel; workers = c.args.workers; limit = c.args.limit; lined = c.args.lined } in
    let image = c.of.ensures in
    let limits : IsInLimits k = record {
      threads = subst (λ (x : Shown). length x.entries ≤ MAX_THREADS) (sym image) (omega (arith, c.threads-threads.ensures.bound));
      locks = subst (λ (x : Shown). length x.guards ≤ MAX_GUARDS) (sym image) (omega (arith, c.guards-locks.ensures.bound));
      fuel = c.requires.fuel.1;
      workers = c.requires.workers;
    } in
    opens_order k c.as_slice.result.now c.in_ok-slots.slots.items limits (subst (λ (x : Shown). AreStocked x (length x.entries) (length x.guards) c.args.fuel c.args.limit c.in_ok-slots.slots.items) (sym image) c.in_ok-slots.ensures)
    (c.as_slice.ensures.value ∙ (c.in_ok-words.ensures.items_if_clones_equal (λ y e. e) ∙ (ap (λ (z : ℕ). replicate z 0) (c.word_of.ensures ∙ ap (λ (z : ℕ × ℕ × ℕ). slot_word (z.0 + z.1 + z.2))
    (λ i. (c.threads.ensures.value i, c.guards-guards.ensures.value i, (c.line_places.ensures ∙ ap (λ (n : ℕ). if c.args.lined then 2 * n else 0) c.guards-guards.ensures.value) i)))
    ∙ ap (λ (x : Shown). replicate (slot_word (length x.entries + length x.guards + (if c.args.lined then 2 * length x.guards else 0))) 0) (sym image))))

pub loop-worker-init : goal.loop-worker-init
loop-worker-init c =
    let e = c.in-Ok.ensures.ok in
    record {
      maker = maker_first record { image = c.of.result; fuel = c.args.fuel; workers = c.args.workers; limit = c.args.limit; lined = c.args.lined } c.args.image.now c.in-Ok.made.0.shared.table_id c.in-Ok.made.1 c.of.ensures e.2 e.4;
      made = none_made _ _ _ _ _ c.in_ok-passes.ensures.items;
      room = c.in_ok-passes.ensures.capacity;
    }

pub split_seat-seat-requires : goal.split_seat-seat-requires
split_seat-seat-requires c =
    let e = c.in-Ok.ensures.ok in
    let m = c.loop-worker.invariant.maker in
    let workers : c.in-Ok.made.0.shared.key.workers ≡ c.args.workers = ap (λ (k : HallTerms). k.workers) e.5 in
    let made : c.loop-worker.first.me.0.made ≡ c.loop-worker.worker = ap (λ (v : Knows). v.made) m.view in
    (m.table, (let a = e.0 in let b = c.as_slice.ensures.len in let d = c.in_ok-words.ensures.len in omega arith), (let worker : c.loop-worker.first.me.0.worker ≡ c.args.workers - 1 = ap (λ (v : Knows). v.worker) m.view in splits c.in-Ok.made.0.shared.key c.loop-worker.first.id c.loop-worker.first.me.0 (ap (λ (v : Knows). v.spent) m.view) (ap (λ (v : Knows). v.maker) m.view) (omega arith)))

pub invariant_of-push_reserved : goal.invariant_of-push_reserved
invariant_of-push_reserved c = let e = c.split_seat-seat.ensures in new_pass _ _ _ _ _ _ c.loop-worker.first c.loop-worker.invariant.maker c.split_seat-seat.result e.3 e.4

pub push_reserved-requires : goal.push_reserved-requires
push_reserved-requires c = let n = c.loop-worker.passes.ok.0 in let r = c.loop-worker.invariant.made.count in let m = c.loop-worker.invariant.room in omega arith

pub loop-worker-preserved : goal.loop-worker-preserved
loop-worker-preserved c =
    let e = c.split_seat-seat.ensures in
    let inv = c.loop-worker.invariant in
    record {
      maker = maker_next _ _ _ _ _ _ c.loop-worker.first inv.maker c.split_seat-seat.new.seat e.0 e.2;
      made = new_made _ _ _ _ _ _ c.loop-worker.first inv.maker c.split_seat-seat.result e.3 e.4 c.loop-worker.passes.items c.push_reserved.new.self.items inv.made c.push_reserved.ensures.items;
      room = let m = inv.room in let f = c.push_reserved.ensures.capacity in omega arith;
    }

pub invariant_of-push_reserved-2 : goal.invariant_of-push_reserved-2
invariant_of-push_reserved-2 c = last_pass _ _ _ _ _ _ c.loop-worker.first c.loop-worker.invariant.maker

pub push_reserved-requires-2 : goal.push_reserved-requires-2
push_reserved-requires-2 c = let n = c.loop-worker.passes.ok.0 in let r = c.loop-worker.invariant.made.count in let m = c.loop-worker.invariant.room in let w = c.requires.workers.0 in omega arith

pub returns-clause-passes : goal.returns-clause-passes
returns-clause-passes c =
    let inv = c.loop-worker.invariant in
    let w = c.requires.workers.0 in
    let all = last_made _ _ _ _ _ _ c.loop-worker.first inv.maker c.loop-worker.passes.items c.push_reserved-2.new.self.items (omega arith) inv.made c.push_reserved-2.ensures.items in
    record { count = all.count; each = all.each }
