use Rattle.std.proofs.Common.{◌≡◌, ℕ, ◌++◌, ◌∷◌, [], length, map, ap, sym, ◌∙◌, arith}
use Rattle.std.specs.List.{range_with_len}
use Rattle.std.proofs.lemmas.List.FromFn.{map-range_with_len_more, length-map-range_with_len}
use Rattle.tc_turn.specs.Turn.{Mutex, mutex_at_start}
use Rattle.tc_mutex_spec.specs.Slow.{mutex_at}
use Rattle.tc_mutex_spec.proofs.MutexLaws.{start_each}
use Rattle.tc_mutex_spec.proofs.locks.SlowLocks.start.Goals as goal

pub loop-number-preserved : goal.loop-number-preserved
loop-number-preserved c =
    let f : ℕ → Mutex = mutex_at_start c.args.image.now in
    let n = c.loop-number.number in
    c.in_ok-push.ensures.items
    ∙ ap (λ locks. locks ++ c.in_ok-start.field-0 ∷ []) c.loop-number.invariant
    ∙ ap (λ lock. map f (range_with_len 0 n) ++ lock ∷ []) c.in_ok-start.ensures
    ∙ sym (map-range_with_len_more f 0 n n (omega arith))

pub returns-clause-each : goal.returns-clause-each
returns-clause-each c = λ k.
    let image = c.args.image.now in
    let all : c.loop-number.number ≡ length image.guards = (let e = c.guards-number-end.ensures.value in let a = c.loop-number-test.false in let b = c.loop-number.auto.number-end in omega arith) in
    ap (λ locks. mutex_at locks k) c.loop-number.invariant
    ∙ ap (λ n. mutex_at (map (mutex_at_start image) (range_with_len 0 n)) k) all
    ∙ start_each image k

pub returns-clause-long : goal.returns-clause-long
returns-clause-long c =
    let image = c.args.image.now in
    let all : c.loop-number.number ≡ length image.guards = (let e = c.guards-number-end.ensures.value in let a = c.loop-number-test.false in let b = c.loop-number.auto.number-end in omega arith) in
    ap length c.loop-number.invariant ∙ length-map-range_with_len (mutex_at_start image) 0 c.loop-number.number ∙ all
