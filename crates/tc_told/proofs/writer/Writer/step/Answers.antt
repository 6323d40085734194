use Rattle.std.proofs.Common.{◌≡◌, length, ap, ◌∙◌, arith}
use Rattle.std.specs.Vec.{with_items}
use Rattle.std.proofs.lemmas.List.{with_items_is}
use Rattle.tc_told.specs.View.{WriterView, beginning_at}
use Rattle.tc_told.specs.Written.{with_said}
use Rattle.tc_told.proofs.Writing.{said_fits, did_write}
use Rattle.tc_told.proofs.writer.Writer.step.Goals as goal

pub note-requires : goal.note-requires
note-requires c =
    let v : WriterView = record { core = c.self.inside.core; next = c.self.inside.next.items; history = c.reserve.new.self.items } in
    said_fits c.args.image.now v c.args.event c.step-enabled.result c.step-enabled.new.self c.said_by-said.result c.deref_mut.result.now
    (ap (λ (x : WriterView). length x.next) c.self.view_is ∙ c.requires.next) c.deref_mut.ensures.value c.said_by-said.ensures c.if-enabled.true c.step-enabled.ensures.stepped

pub returns-then-enabled-clause-wrote : goal.returns-then-enabled-clause-wrote
returns-then-enabled-clause-wrote c =
    let v : WriterView = record { core = c.self.inside.core; next = c.self.inside.next.items; history = c.reserve.new.self.items } in
    let long : length c.note.new.next ≡ c.self.inside.next.len = omega (arith, c.note.ensures.long, c.deref_mut.ensures.len) in
    let items : (with_items c.self.inside.next c.note.new.next).items ≡ c.note.new.next = with_items_is c.self.inside.next c.note.new.next long in
    did_write c.args.image.now c.args.self.now v c.args.event c.step-enabled.result c.step-enabled.new.self c.said_by-said.result c.block_by-block.result
    (with_items c.self.inside.next c.note.new.next).items c.append.new.history.items
    ((λ i. record { core = c.self.inside.core; next = c.self.inside.next.items; history = c.reserve.ensures.items i }) ∙ c.self.view_is)
    c.if-enabled.true c.step-enabled.ensures.stepped c.said_by-said.ensures c.block_by-block.ensures
    (λ t. ap (λ xs. beginning_at xs t) items ∙ c.note.ensures.each t ∙ ap (λ xs. with_said (beginning_at xs) c.said_by-said.result t) c.deref_mut.ensures.value) c.append.ensures
