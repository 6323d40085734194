use Rattle.std.proofs.Common.{sym, ◌∙◌, subst}
use Rattle.tc_elf.specs.Kept.{IsImage}
use Rattle.tc_elf.proofs.Table.{own_same, own_past}
use Rattle.tc_elf.proofs.image.Image.own_piece.Goals as goal

pub returns-clause-each : goal.returns-clause-each
returns-clause-each c = λ at low high. own_same c.args.self.now c.args.start c.known_piece.result at c.known_piece.ensures.whole c.known_piece.ensures.some low high ∙ sym c.own_region.ensures

pub returns-clause-past : goal.returns-clause-past
returns-clause-past c = λ at past. own_past c.args.self.now at (subst IsImage c.self.view_is c.self.invariant.is_image).ranges past
