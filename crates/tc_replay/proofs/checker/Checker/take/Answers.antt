use Rattle.std.proofs.Common.{◌∙◌, List, sym, subst, ap, length}
use Rattle.std.specs.Prelude.{Ok}
use Rattle.tc_elf.specs.Shown.{Shown}
use Rattle.tc_journal.specs.declared.block.Block.{Block}
use Rattle.tc_replay.specs.Taken.{AreTaken, CheckerView}
use Rattle.tc_replay.proofs.Through.{one_taken}
use Rattle.tc_replay.proofs.checker.Checker.take.Goals as goal

pub judge-requires-clause-taken : goal.judge-requires-clause-taken
judge-requires-clause-taken c =
    let same = ap (λ (v : CheckerView). v.image) c.self.view_is ∙ c.requires.image in (
      c.self.inside.taken,
      subst (λ (x : Shown). AreTaken x c.self.inside.terms c.self.inside.taken c.self.inside.packages.items c.self.inside.home) same (c.self.invariant.0 c.in_default.is),
    )

pub judge-requires-clause-stamp : goal.judge-requires-clause-stamp
judge-requires-clause-stamp c h taken =
    let same = ap (λ (v : CheckerView). v.image) c.self.view_is ∙ c.requires.image in
    let was = subst (λ (x : Shown). AreTaken x c.self.inside.terms c.self.inside.taken c.self.inside.packages.items c.self.inside.home) same (c.self.invariant.0 c.in_default.is) in
    let one = one_taken c.args.image.now c.self.inside.terms c.self.inside.taken h c.self.inside.packages.items c.self.inside.home was taken in
    c.requires.stamp (sym (ap (λ (v : CheckerView). v.failed) c.self.view_is) ∙ c.in_default.is)
    ∙ ap (λ (l : List Block). length l) (sym (ap (λ (v : CheckerView). v.taken) c.self.view_is) ∙ one)

pub invariant_of-self : goal.invariant_of-self
invariant_of-self c =
    let same = ap (λ (v : CheckerView). v.image) c.self.view_is ∙ c.requires.image in
    let was = subst (λ (x : Shown). AreTaken x c.self.inside.terms c.self.inside.taken c.self.inside.packages.items c.self.inside.home) same (c.self.invariant.0 c.in_default.is) in (
      λ none. subst (λ (x : Shown). AreTaken x c.self.inside.terms c.self.inside.taken c.judge.new.packages.items c.judge.new.home) (sym same) (c.in_err-self-inside.ensures.memory c.self.inside.taken was),
      c.self.invariant.1,
      c.self.invariant.2,
    )

pub invariant_of-self-in-None : goal.invariant_of-self-in-None
invariant_of-self-in-None c =
    let same = ap (λ (v : CheckerView). v.image) c.self.view_is ∙ c.requires.image in
    let was = subst (λ (x : Shown). AreTaken x c.self.inside.terms c.self.inside.taken c.self.inside.packages.items c.self.inside.home) same (c.self.invariant.0 c.in_default.is) in (
      λ none. subst (λ (x : Shown × List Block). AreTaken x.0 c.self.inside.terms x.1 c.judge.new.packages.items c.judge.new.home) (λ i. (sym same i, sym c.note.ensures i))
          (c.judge.ensures.took (c.in_ok-self-inside.was ∙ ap (λ o. Ok o) none) c.self.inside.taken was),
      c.self.invariant.1,
      c.self.invariant.2,
    )
