use Rattle.std.proofs.Common.{List, ℕ, Option, Some, drop, sym, ap, ◌∙◌, arith}
use Rattle.std.specs.Option.{option_copied}
use Rattle.tc_elf.specs.Notes.{descriptors_of, next_at, single}
use Rattle.tc_elf.specs.Search.{only_one}
use Rattle.tc_elf.proofs.NoteSteps.{search_ends, search_fails, search_step, error_none}
use Rattle.tc_elf.proofs.notes.descriptor_in.Goals as goal

pub returns-then-descriptor_end-rest : goal.returns-then-descriptor_end-rest
returns-then-descriptor_end-rest c =
    sym (search_fails (option_copied c.loop-rest.found) c.loop-rest.rest.now (omega arith) (omega (arith, c.if-descriptor_end-rest.true, c.descriptor_end.ensures)))
    ∙ c.loop-rest.invariant

pub returns-in_err-found : goal.returns-in_err-found
returns-in_err-found c =
    let found : Option (List ℕ) = option_copied c.loop-rest.found in
    let b : List ℕ = c.loop-rest.rest.now in
    error_none option_copied c.from_residual.result c.from_residual.ensures.0
    ∙ ap (λ one. only_one one (single (descriptors_of (drop (next_at b) b)))) (c.in_err-found.ensures ∙ ap (λ other. only_one (Some found) (Some other)) c.first_descriptor.ensures)
    ∙ search_step found b (omega arith) (omega (arith, c.if-descriptor_end-rest.false, c.descriptor_end.ensures))
    ∙ c.loop-rest.invariant

pub loop-rest-preserved : goal.loop-rest-preserved
loop-rest-preserved c =
    let found : Option (List ℕ) = option_copied c.loop-rest.found in
    let b : List ℕ = c.loop-rest.rest.now in
    ap (λ rest. only_one (Some (option_copied c.in_ok-found.found)) (single (descriptors_of rest))) c.rest_of-rest.ensures
    ∙ ap (λ one. only_one one (single (descriptors_of (drop (next_at b) b)))) (c.in_ok-found.ensures ∙ ap (λ other. only_one (Some found) (Some other)) c.first_descriptor.ensures)
    ∙ search_step found b (omega arith) (omega (arith, c.if-descriptor_end-rest.false, c.descriptor_end.ensures))
    ∙ c.loop-rest.invariant

pub returns : goal.returns
returns c =
    sym (search_ends (option_copied c.loop-rest.found) c.loop-rest.rest.now (omega (arith, c.loop-rest-test.false)))
    ∙ c.loop-rest.invariant
