use Rattle.std.proofs.Common.{ℕ, sym, subst}
use Rattle.tc_hall.specs.Places.{place_of}
use Rattle.tc_hall.specs.Standing.{IfLined, ClaimsAs}
use Rattle.tc_hall.proofs.hall.Hall.claim.Goals as goal

pub claim_from-requires-clause-stands : goal.claim_from-requires-clause-stands
claim_from-requires-clause-stands c = subst (λ (code : ℕ). IfLined c.args.self.now.terms c.args.pass.now.knows (ClaimsAs c.args.pass.now.knows c.args.t (place_of code))) (sym c.code.ensures) c.requires.stands
