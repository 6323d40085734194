use Rattle.std.proofs.Common.{◌≡◌, List, ℕ, subst, IfOk}
use Rattle.tc_turn.proofs.MemoryLaws.{bytes_each}
use Rattle.tc_turn.proofs.memory.starting_bytes.Goals as goal

pub returns-in-Some : goal.returns-in-Some
returns-in-Some c =
    subst (λ (them : List ℕ). IfOk c.from_slice.result (λ copy. copy.items ≡ them)) (bytes_each c.args.image.now c.args.start c.args.length c.in-Some.there.now c.in-Some.ensures.count c.in-Some.ensures.each) c.from_slice.ensures.items
