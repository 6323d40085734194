use Rattle.tc_context.proofs.Vocabulary.{◌+◌, ◌∙◌, ap, sym, subst, arith, refl, has, DidTurns, outcome_done}
use Rattle.tc_context.specs.declared.context.Turned.{Turned}
use Rattle.tc_context.proofs.Partway.{partway_start, went_lock, on_first, on_run, on_may, on_ends, on_goes, may_here, told_ends, told_on}
use Rattle.tc_context.proofs.context.Context.turns.Goals as goal
use Rattle.tc_context.proofs.context.Context.turns.Goals.{in-Some, in_default}

pub run-run-requires-clause-may : goal.run-run-requires-clause-may
run-run-requires-clause-may c = on_may c.requires.may c.block.count c.block.self c.block.invariant.on

pub lock_ahead-lock-requires-clause-first : goal.lock_ahead-lock-requires-clause-first
lock_ahead-lock-requires-clause-first c =
    let run = c.run-run in
    on_first c.requires.may (c.block.count + run.result.count) run.new.self
    (on_run c.requires.may c.block.count run.result.count c.block.self run.new.self c.block.invariant.on (let most = run.ensures.most in let before = c.block.invariant.most in omega arith) run.ensures.runs)

-- behind the run
pub returns-in-Some-end_of : goal.returns-in-Some-end_of
returns-in-Some-end_of c =
    let run = c.run-run in
    let on = on_run c.requires.may c.block.count run.result.count c.block.self run.new.self c.block.invariant.on (let most = run.ensures.most in let before = c.block.invariant.most in omega arith) run.ensures.runs in
    record { did = subst (DidTurns c.args.image.now (has c.args.block) c.args.self.now run.new.self) (sym c.ended.ensures) (on_ends (c.block.count + run.result.count) c.in-Some-end_of.end c.requires.may on c.lock_ahead-lock.ensures (sym c.end_of.ensures ∙ c.in-Some-end_of.is)) }

pub other_turn-turned-requires-clause-may : goal.other_turn-turned-requires-clause-may
other_turn-turned-requires-clause-may c =
    let run = c.run-run in
    let goes = on_goes c.block.count run.result.count c.block.self run.new.self c.requires.may c.block.invariant.on run.ensures.runs (let most = run.ensures.most in let before = c.block.invariant.most in omega arith) c.lock_ahead-lock.ensures (sym c.end_of.ensures ∙ c.in_default-end_of.is) in
    record { code = c.requires.code; may = may_here c.requires.may goes.0; takes = sym goes.1 ∙ c.lock_ahead-lock.ensures }

-- behind any other turn
pub returns-in-Some-end_behind : goal.returns-in-Some-end_behind
returns-in-Some-end_behind c =
    let run = c.run-run in
    let turn = c.other_turn-turned in
    let did = turn.ensures in
    let n = c.block.count + run.result.count in
    let goes = on_goes c.block.count run.result.count c.block.self run.new.self c.requires.may c.block.invariant.on run.ensures.runs (let most = run.ensures.most in let before = c.block.invariant.most in omega arith) c.lock_ahead-lock.ensures (sym c.end_of.ensures ∙ c.in_default-end_of.is) in
    let next = c.ahead-next in
    let rule = sym (c.end_behind.ensures (outcome_done did.done) (ap (λ (t : Turned). t.end) did.is)) ∙ c.in-Some-end_behind.is in
    let told = c.ended-in-Some-end_behind.ensures ∙ (λ i. record { end = c.in-Some-end_behind.end; count = n + 1; slept = (did.is i).slept; next = next.result.lock }) in
    record { did = subst (DidTurns c.args.image.now (has c.args.block) c.args.self.now turn.new.self) (sym told) (told_ends goes.0 did.did next.ensures.lock c.requires.may.go c.in-Some-end_behind.end rule) }

pub block-preserved : goal.block-preserved
block-preserved c =
    let run = c.run-run in
    let did = c.other_turn-turned.ensures in
    let goes = on_goes c.block.count run.result.count c.block.self run.new.self c.requires.may c.block.invariant.on run.ensures.runs (let most = run.ensures.most in let before = c.block.invariant.most in omega arith) c.lock_ahead-lock.ensures (sym c.end_of.ensures ∙ c.in_default-end_of.is) in
    let rule = sym (c.end_behind.ensures (outcome_done did.done) (ap (λ (t : Turned). t.end) did.is)) ∙ c.in_default-end_behind.is in
    record { most = (let short = goes.0.short in omega arith); on = told_on goes.0 did.did c.ahead-next.ensures.lock rule }

pub block-init : goal.block-init
block-init c =
    let image = c.args.image.now in
    let may = c.requires.may in
    elim c.match-takes.branch [
      | in-Some w ↦ record { most = omega (arith, w.count-is); on = rw (w.self-is, w.count-is) (c.args.self.now, partway_start image (has c.args.block) c.args.self.now may.go may.covers, w.lock_turn.ensures.did.turn, went_lock w.lock_turn.ensures.did) }
      | in_default w ↦ record { most = omega (arith, w.count-is); on = rw (w.self-is, w.count-is) (refl, sym c.requires.takes ∙ w.in_default.is) }
    ]
