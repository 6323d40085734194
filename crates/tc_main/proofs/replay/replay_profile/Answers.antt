use Rattle.std.proofs.Common.{◌^◌, ◌<◌, List, length, subst, sym}
use Rattle.tc_journal.specs.declared.block.Block.{Block}
use Rattle.tc_law.specs.Lawful.{StandsAt}
use Rattle.tc_main.proofs.Replaying.{addable_taken, few_taken}
use Rattle.tc_main.proofs.replay.replay_profile.Goals as goal

pub profile_of-requires-clause-few : goal.profile_of-requires-clause-few
profile_of-requires-clause-few c =
    let r = c.args.replay in
    subst (λ (l : List Block). length l < 2 ^ 32) (sym c.deref.ensures.value) (few_taken r.checker r.history.items c.keeps.ensures c.requires.1.taken)

pub profile_of-requires-clause-blocks : goal.profile_of-requires-clause-blocks
profile_of-requires-clause-blocks c = λ i b e.
    let r = c.args.replay in
    let is = c.requires.1 in
    addable_taken r.checker r.image c.requires.0 r.history.items c.keeps.ensures is.taken is.run i b (subst (λ (l : List Block). StandsAt l i b) c.deref.ensures.value e)
