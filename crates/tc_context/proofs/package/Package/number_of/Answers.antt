use Rattle.tc_context.proofs.Vocabulary.{ap, ◌∙◌, is_some, lock_in, PackageView, view_of}
use Rattle.tc_context.proofs.Staging.{some_of, shows}
use Rattle.tc_context.proofs.package.Package.number_of.Goals as goal

pub returns-clause-number : goal.returns-clause-number
returns-clause-number c =
    let s = shows c.deref-contents.ensures c.self.view_is c.self.invariant in
    let l = some_of (lock_in (view_of c.deref-contents.result.now).context.locks c.args.lock) (ap (λ (v : PackageView). is_some (lock_in v.context.locks c.args.lock)) s.is ∙ c.requires) in
    (s.kept.sound.stored c.args.lock l.0 l.1).turn
