use Rattle.std.proofs.Common.{◌≡◌, ℕ, ◌++◌, ◌∷◌, [], length, map, ap, sym, ◌∙◌, arith}
use Rattle.std.specs.List.{range_with_len}
use Rattle.std.proofs.lemmas.List.{map-append, length-map}
use Rattle.std.proofs.lemmas.List.FromFn.{map-range_with_len_more, length-map-range_with_len}
use Rattle.tc_turn.specs.Turn.{Thread, thread_of, thread_at_start}
use Rattle.tc_mutex_spec.proofs.ThreadLaws.{start_each}
use Rattle.tc_mutex_spec.proofs.slow.start_threads.Goals as goal

pub loop-t-preserved : goal.loop-t-preserved
loop-t-preserved c =
    let f : ℕ → Thread = thread_at_start c.args.image.now c.args.fuel in
    let l = c.loop-t in
    let g = c.in_ok-start.field-0 in
    ap (map thread_of) c.in_ok-push.ensures.items
    ∙ map-append thread_of l.threads.items (g ∷ [])
    ∙ ap (λ xs. xs ++ thread_of g ∷ []) l.invariant
    ∙ ap (λ d. map f (range_with_len 0 l.t) ++ d ∷ []) c.in_ok-start.ensures
    ∙ sym (map-range_with_len_more f 0 l.t l.t (omega arith))

pub returns-clause-each : goal.returns-clause-each
returns-clause-each c = λ t.
    let image = c.args.image.now in
    let all : c.loop-t.t ≡ length image.entries = (let e = c.threads-t-end.ensures.value in let a = c.loop-t-test.false in let b = c.loop-t.auto.t-end in omega arith) in
    start_each image c.args.fuel (length image.entries) c.loop-t.threads.items
    (c.loop-t.invariant ∙ ap (λ n. map (thread_at_start image c.args.fuel) (range_with_len 0 n)) all) t

pub returns-clause-long : goal.returns-clause-long
returns-clause-long c =
    let image = c.args.image.now in
    let all : c.loop-t.t ≡ length image.entries = (let e = c.threads-t-end.ensures.value in let a = c.loop-t-test.false in let b = c.loop-t.auto.t-end in omega arith) in
    sym (length-map c.loop-t.threads.items thread_of) ∙ ap length c.loop-t.invariant ∙ length-map-range_with_len (thread_at_start image c.args.fuel) 0 c.loop-t.t ∙ all
