use Rattle.tc_context.proofs.Vocabulary.{subst, ℕ, ◌≡◌, Some, PackageView, want_of, IsWanted, LastIsSealed, view_of}
use Rattle.tc_context.proofs.Staging.{wanted, last_sealed}
use Rattle.tc_context.proofs.package.Package.keeps.Goals as goal

pub returns-clause-want : goal.returns-clause-want
returns-clause-want c = subst (λ (v : PackageView). (k : ℕ) → want_of v.image v.context ≡ Some k → IsWanted v k) c.self.view_is (wanted (view_of c.self.inside.contents.value) c.self.invariant.sound)

pub returns-clause-last : goal.returns-clause-last
returns-clause-last c = subst LastIsSealed c.self.view_is (last_sealed (view_of c.self.inside.contents.value) c.self.invariant.sound)
