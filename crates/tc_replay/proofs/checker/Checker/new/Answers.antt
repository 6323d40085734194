use Rattle.std.proofs.Common.{List, sym, subst, ap, arith, length}
use Rattle.tc_elf.specs.Shown.{Shown}
use Rattle.tc_journal.specs.declared.block.Block.{Block}
use Rattle.tc_replay.specs.Taken.{AreTaken}
use Rattle.tc_replay.proofs.Starting.{fresh_taken}
use Rattle.tc_replay.proofs.checker.Checker.new.Goals as goal

pub invariant_of-result : goal.invariant_of-result
invariant_of-result c =
    let packages = c.in_ok-packages_at_start in
    let home = c.in_ok-locks_at_start in
    let states = c.in_ok-with_capacity in (
      λ none. subst (λ (x : Shown × List Block). AreTaken x.0 c.args.terms x.1 packages.field-0.items home.field-0) (λ i. (sym c.of.ensures i, sym c.nothing.ensures i))
          (fresh_taken c.args.image.now c.args.terms packages.field-0.items home.field-0 packages.ensures.limits packages.ensures.fresh home.ensures),
      states.ensures.items,
      (let room = states.ensures.capacity in let count = c.guards.ensures.value in let same = ap (λ (x : Shown). length x.guards) c.of.ensures in omega (arith, room, count, same)),
    )
