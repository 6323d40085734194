use Rattle.std.proofs.Common.{◌≡◌, ℕ, ap, refl, ◌∙◌, arith}
use Rattle.tc_queue.specs.declared.board.SeatLog.{SeatLog}
use Rattle.tc_queue.specs.View.{OwnView}
use Rattle.tc_queue.specs.Order.{first_log, log_beside}
use Rattle.atomic_table.specs.Table.{Me}
use Rattle.tc_queue.proofs.Keeping.{deals}
use Rattle.tc_queue.proofs.Opening.{opens, one_more}
use Rattle.tc_queue.proofs.queue.Queue.new.Goals as goal

pub of_words-requires : goal.of_words-requires
of_words-requires c = opens c.args.threads c.as_slice.result.now c.requires.threads.1 (c.as_slice.ensures.value ∙ c.in_ok-words.ensures.items_if_clones_equal (λ y same. same))

pub split_seat-place-requires : goal.split_seat-place-requires
split_seat-place-requires c =
    let e = c.in_ok-board.ensures in
    (c.loop-seated.invariant.0, (let a = e.0 in let b = c.as_slice.ensures.len in let d = c.in_ok-words.ensures.len in omega arith), deals c.in_ok-board.board.shared.key c.loop-seated.first.id c.loop-seated.first.me.0)

pub loop-seated-preserved : goal.loop-seated-preserved
loop-seated-preserved c =
    let e = c.split_seat-place.ensures in
    let i = c.loop-seated.invariant in
    let P : OwnView → Type 0 = λ s. (s.table ≡ c.in_ok-board.board.shared.table_id) × (s.log ≡ first_log c.args.threads) in (
      e.0 ∙ i.0,
      e.2 ∙ i.1,
      (let a = c.push_reserved.ensures.len in let b = c.push_reserved.new.self.ok.0 in let d = c.loop-seated.made.ok.0 in let k = i.2 in omega arith),
      (let a = c.push_reserved.ensures.capacity in let b = i.3 in omega arith),
      one_more P c.loop-seated.made.items c.push_reserved.new.self.items record { table = c.split_seat-place.result.table_id; id = c.split_seat-place.result.id; log = c.split_seat-place.result.me.0 } i.4
          (e.3 ∙ i.0, ap (λ (m : Me ℕ SeatLog). m.0) e.4 ∙ ap (λ (m : Me ℕ SeatLog). log_beside m.0) i.1) c.push_reserved.ensures.items,
    )

pub returns : goal.returns
returns c =
    let i = c.loop-seated.invariant in
    let P : OwnView → Type 0 = λ s. (s.table ≡ c.in_ok-board.board.shared.table_id) × (s.log ≡ first_log c.args.threads) in
    record {
      queue = refl;
      count = (let a = c.push_reserved-2.ensures.len in let b = c.push_reserved-2.new.self.ok.0 in let d = c.loop-seated.made.ok.0 in let k = i.2 in let e = c.loop-seated-test.false in let f = c.loop-seated.auto.seated-end in omega arith);
      seats = one_more P c.loop-seated.made.items c.push_reserved-2.new.self.items record { table = c.loop-seated.first.table_id; id = c.loop-seated.first.id; log = c.loop-seated.first.me.0 } i.4 (i.0, ap (λ (m : Me ℕ SeatLog). m.0) i.1) c.push_reserved-2.ensures.items;
    }
