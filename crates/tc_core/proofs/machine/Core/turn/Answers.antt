use Rattle.std.proofs.Common.{◌≡◌, ℕ, ◌+◌, ◌<◌, length, set, sym, ap, subst, ◌∙◌, arith}
use Rattle.tc_isa.specs.declared.limits.TheConstants.{MAX_TURNS}
use Rattle.tc_journal.specs.Rule.{end_rule}
use Rattle.tc_turn.specs.Turn.{next_lock}
use Rattle.tc_mutex_spec.specs.Machine.{State, can_turn}
use Rattle.tc_mutex_spec.specs.Slow.{Suits, state_of}
use Rattle.tc_core.specs.Core.{Course}
use Rattle.tc_core.specs.Events.{course_on, after_turn}
use Rattle.tc_core.specs.View.{CoreView, course_at, core_of, limits_of, HasParts}
use Rattle.tc_core.proofs.Erasure.{MayTurn, may_turn, turn_can}
use Rattle.tc_core.proofs.Parts.{IsTurned, turned_core, turned_parts, turn_room, turn_thread, end_fits}
use Rattle.tc_core.proofs.machine.Core.turn.Goals as goal

pub next_lock-taken-requires : goal.next_lock-taken-requires
next_lock-taken-requires c =
    let lt = turn_thread c.args.image.now (core_of c.args.self.now) c.args.thread (may_turn c.args.image.now _ _ c.args.worker c.args.thread c.requires.enabled) in
    let same = ap (λ (s : CoreView). length s.plain.threads) c.self.view_is in
    let long = c.requires.core.parts.plain.threads in
    omega arith

pub take_turn-outcome-requires : goal.take_turn-outcome-requires
take_turn-outcome-requires c = record {
  suits = subst (λ (s : CoreView). Suits c.args.image.now s.plain) (sym c.self.view_is) c.requires.core.parts.plain;
  defined = ap (λ (s : CoreView). can_turn c.args.image.now (state_of s.plain) c.args.thread) c.self.view_is
      ∙ turn_can c.args.image.now (core_of c.args.self.now) c.args.thread c.requires.core.sound (may_turn c.args.image.now _ _ c.args.worker c.args.thread c.requires.enabled);
}

pub next_lock-next-requires : goal.next_lock-next-requires
next_lock-next-requires c =
    let lt = turn_thread c.args.image.now (core_of c.args.self.now) c.args.thread (may_turn c.args.image.now _ _ c.args.worker c.args.thread c.requires.enabled) in
    let long = c.take_turn-outcome.ensures.suits.threads in
    omega arith

few : (image : _) (v : CoreView) (t w : ℕ) → HasParts image v → MayTurn image (core_of v) t → (x : Course) (s : CoreView) → x ≡ course_at s.courses t → s ≡ v → x.turns < MAX_TURNS
few image v t w parts may x s at same = (let l = turn_room image v t parts may in let e : x.turns ≡ (course_at v.courses t).turns = ap (λ (y : Course). y.turns) (at ∙ ap (λ (z : CoreView). course_at z.courses t) same) in omega arith)

pub overflow_add-course : goal.overflow_add-course
overflow_add-course c =
    let l = few c.args.image.now c.args.self.now c.args.thread 0 c.requires.core.parts (may_turn c.args.image.now _ _ c.args.worker c.args.thread c.requires.enabled) c.at-course.result (record { workers = c.self.inside.workers; batch = c.self.inside.limit; plain = c.self.inside.slow; courses = c.self.inside.courses; custodies = c.self.inside.custodies }) c.at-course.ensures c.self.view_is in
    omega arith

pub after_turn-requires-clause-turns : goal.after_turn-requires-clause-turns
after_turn-requires-clause-turns c =
    few c.args.image.now c.args.self.now c.args.thread 0 c.requires.core.parts (may_turn c.args.image.now _ _ c.args.worker c.args.thread c.requires.enabled) c.at-course.result (record { workers = c.self.inside.workers; batch = c.self.inside.limit; plain = c.self.inside.slow; courses = c.self.inside.courses; custodies = c.self.inside.custodies }) c.at-course.ensures c.self.view_is

pub put-requires : goal.put-requires
put-requires c =
    let lt = turn_thread c.args.image.now (core_of c.args.self.now) c.args.thread (may_turn c.args.image.now _ _ c.args.worker c.args.thread c.requires.enabled) in
    let same = ap (λ (s : CoreView). length s.courses) c.self.view_is in
    let long = c.requires.core.parts.courses in
    omega arith

abbrev before : goal.After-take → CoreView
before c = record { workers = c.self.inside.workers; batch = c.self.inside.limit; plain = c.self.inside.slow; courses = c.self.inside.courses; custodies = c.self.inside.custodies }

parts : (c : goal.After-take) → HasParts c.args.image.now (before c)
parts c = subst (λ s. HasParts c.args.image.now s) (sym c.self.view_is) c.requires.core.parts

may : (c : goal.After-take) → MayTurn c.args.image.now (core_of (before c)) c.args.thread
may c = subst (λ s. MayTurn c.args.image.now (core_of s) c.args.thread) (sym c.self.view_is) (may_turn c.args.image.now _ _ c.args.worker c.args.thread c.requires.enabled)

-- what the calls of the body did is a turn
step : (c : goal.After-take) → IsTurned c.args.image.now (before c) c.args.thread c.take_turn-outcome.new.self c.put.new.self c.take.new.self c.next_lock-taken.result c.end_of-ended.result
step c =
    let image = c.args.image.now in
    let t = c.args.thread in
    let turn = c.take_turn-outcome.ensures in
    let next = c.next_lock-next.ensures.value ∙ ap (λ (m : State). next_lock image (m.threads t)) turn.after in
    let turns = ap (λ (x : Course). x.turns + 1) c.at-course.ensures in
    record {
      thread = (let lt = turn_thread image (core_of (before c)) t (may c) in let long = (parts c).courses in omega arith);
      machine = turn.after;
      suits = turn.suits;
      taken = c.next_lock-taken.ensures.value;
      ended = c.end_of-ended.ensures ∙ (λ i. end_rule (turn.outcome i) (turns i) (next i));
      course = c.put.ensures ∙ ap (λ x. set c.self.inside.courses t x) (c.after_turn.ensures ∙ ap (λ x. course_on x c.next_lock-taken.result c.end_of-ended.result) c.at-course.ensures);
      custody = c.take.ensures.each;
      long = c.take.ensures.long;
    }

pub returns : goal.returns
returns c = record {
  core = turned_core c.args.image.now (before c) c.args.thread _ _ _ _ _ (step c) ∙ ap (λ s. after_turn c.args.image.now (core_of s) c.args.thread) c.self.view_is;
  limits = ap limits_of c.self.view_is;
  parts = turned_parts c.args.image.now (before c) c.args.thread _ _ _ _ _ (step c) (parts c) (turn_room c.args.image.now (before c) c.args.thread (parts c) (may c))
      (end_fits c.args.image.now c.take_turn-outcome.result _ c.next_lock-next.result _ c.end_of-ended.ensures (let e = c.guards.ensures.value in let b = c.if-prove.false in omega arith) c.take_turn-outcome.ensures.known c.next_lock-next.ensures.bound);
}
