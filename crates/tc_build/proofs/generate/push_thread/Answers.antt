use Rattle.std.proofs.Common.{◌≡◌, ℕ, ◌+◌, List, ◌∷◌, ◌++◌, sym, ap, subst, arith}
use Rattle.std.specs.List.{flat_map}
use Rattle.tc_isa.specs.declared.instr.Instr.{Instr}
use Rattle.tc_isa.specs.declared.instr.Instr.TheVariants.{Lui}
use Rattle.tc_build.specs.Code.{Adds, exit}
use Rattle.tc_build.specs.Generator.{round_code, thread_code, numbers_below}
use Rattle.tc_build.proofs.Coding.{both, flat_more}
use Rattle.tc_build.proofs.generate.push_thread.Goals as goal

-- the code of a thread, as far as a round
abbrev front : ℕ → ℕ → List Instr
front thread round = Lui 5 0x20000 ∷ flat_map (round_code thread) (numbers_below round)

pub loop-round-preserved : goal.loop-round-preserved
loop-round-preserved c =
    let thread = c.args.thread in
    let round = c.loop-round.round in
    let next : front thread round ++ round_code thread round ≡ front thread (round + 1) = ap (λ xs. Lui 5 0x20000 ∷ xs) (sym (flat_more (round_code thread) round)) in
    subst (λ (xs : List Instr). Adds c.args.code.now c.push_round.new.code xs) next (both _ _ _ _ _ c.loop-round.invariant c.in_ok-push_round.ensures)

pub returns : goal.returns
unfolding thread_code
returns c =
    let all : c.loop-round.round ≡ c.args.rounds = omega arith in
    subst (λ (n : ℕ). Adds c.args.code.now c.exit.new.self (front c.args.thread n ++ exit)) all (both _ _ _ _ _ c.loop-round.invariant c.in_ok-exit.ensures)
