use Rattle.std.proofs.Common.{ℕ, ◌+◌, sym, ap, ◌∙◌, subst}
use Rattle.tc_hall.proofs.Vocabulary.{IsWaiting, Place, Waiting, place_of}
use Rattle.tc_hall.specs.Standing.{IfLined, ClaimsAs}
use Rattle.tc_hall.proofs.Telling.{place_codes}
use Rattle.tc_hall.proofs.Waiting.{awaits}
use Rattle.tc_hall.proofs.hall.Hall.adopt.Goals as goal

pub claim_from-requires-clause-stands : goal.claim_from-requires-clause-stands
claim_from-requires-clause-stands c = subst (λ (place : Place). IfLined c.args.self.now.terms c.args.pass.now.knows (ClaimsAs c.args.pass.now.knows c.args.t place)) (sym (ap (λ (n : ℕ). place_of (256 + n)) c.from.ensures ∙ place_codes (Waiting c.args.lock))) c.requires.stands

pub returns-in-Ok-clause-waiting : goal.returns-in-Ok-clause-waiting
returns-in-Ok-clause-waiting c = subst (IsWaiting c.in-Ok.package) c.from.ensures (awaits _ c.from.result c.in-Ok.package _ _ c.in-Ok.ensures.result c.keeps.ensures.want)
