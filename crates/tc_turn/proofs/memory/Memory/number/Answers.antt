use Rattle.tc_turn.proofs.Vocabulary.{◌≡◌, ap, sym, subst, ◌∙◌, unwrap_or, get_or_default, Part, number_at, byte_from, own_of, no_part, part_at, AreApart}
use Rattle.tc_turn.proofs.PartLaws.{number_there}
use Rattle.tc_turn.proofs.memory.Memory.number.Goals as goal

pub returns : goal.returns
returns c =
    let parts = c.as_slice-parts.result.now in
    let has = c.has_in.ensures c.if-not-has_in.false in
    let is : record { start = c.part.inside.start; bytes = c.deref.result.now } ≡ part_at parts c.args.near =
    (λ i. record { start = c.part.inside.start; bytes = c.deref.ensures.value i }) ∙ c.part.view_is ∙ c.index-parts-near.is
    ∙ get_or_default parts c.args.near c.index-parts-near.result no_part has.known in
    c.number_within.ensures
    ∙ ap (λ (p : Part). number_at (λ at. unwrap_or (byte_from p.start p.bytes at) 0) c.args.addr c.args.width) is
    ∙ number_there parts c.args.near c.args.addr c.args.width (subst AreApart (sym c.as_slice-parts.ensures.value) c.self.invariant) has.known has.there
    ∙ ap (λ parts. number_at (λ at. unwrap_or (own_of parts at) 0) c.args.addr c.args.width) (c.as_slice-parts.ensures.value ∙ c.self.view_is)
