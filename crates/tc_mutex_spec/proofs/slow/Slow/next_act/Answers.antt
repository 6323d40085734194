use Rattle.std.proofs.Common.{◌≡◌, ℕ, ◌<◌, length, sym, ap, subst, ◌∙◌, arith}
use Rattle.std.specs.Prelude.{IfSome, Some}
use Rattle.std.proofs.lemmas.Option.{slice_get-get_or}
use Rattle.tc_turn.specs.Turn.{Thread, CanAct, next_act, thread_of, act_with, answer_to}
use Rattle.tc_mutex_spec.specs.Slow.{Plain, thread_or, thread_at, mutex_at, state_of}
use Rattle.tc_mutex_spec.proofs.Holds.{can_thread}
use Rattle.tc_mutex_spec.proofs.slow.Slow.next_act.Goals as goal

pub returns : goal.returns
unfolding next_act
returns c =
    let image = c.args.image.now in
    let t = c.args.t in
    let x = c.index-thread.result.now in
    let s : Plain = record { threads = c.self.inside.threads.items; locks = c.self.inside.locks } in
    let within : t < length s.threads = (let a = can_thread image (state_of c.args.self.now) t c.requires.defined in let b = c.requires.suits.threads in let e = ap (λ (p : Plain). length p.threads) c.self.view_is in omega arith) in
    let here : thread_at s.threads t ≡ thread_of x = ap thread_or (slice_get-get_or s.threads t x within ∙ ap Some (sym c.index-thread.ensures)) in
    let did : c.act.result ≡ next_act image (thread_of x) (mutex_at s.locks) =
    c.act.ensures.value ∙ ap (act_with image (thread_of x)) (c.answer.ensures ∙ (λ i. answer_to image (c.wants-want.ensures.value i) (c.next_lock.ensures i) (thread_of x).own (mutex_at s.locks))) in
    record {
      value = did ∙ ap (λ (d : Thread). next_act image d (mutex_at s.locks)) (sym here) ∙ ap (λ (p : Plain). next_act image (thread_at p.threads t) (mutex_at p.locks)) c.self.view_is;
      can = subst (λ (n : ℕ). IfSome c.act.result (CanAct n)) (ap (λ (d : Thread). d.fuel) (sym here) ∙ ap (λ (p : Plain). (thread_at p.threads t).fuel) c.self.view_is) c.act.ensures.can;
    }
