use Rattle.tc_segment.proofs.Vocabulary.{◌≡◌, ◌∙◌, set, inl, inr, refl, sym, ap, subst, None, Some, option_map, Block, Contents, KeptLock, LockView, MayFollow, MayPass, Record, block_in, block_of, run_after, sealed_as, sealed_block, sealed_record, shown, slice_get-map, slice_get_cases, view_of, with_journal}
use Rattle.std.proofs.lemmas.List.{set-get_or}
use Rattle.tc_segment.specs.Kept.{IsClosed}
use Rattle.tc_segment.proofs.Sealing.{AreStamped, closed_at, sealed_view, sealed_kept}
use Rattle.tc_segment.proofs.state.LockState.count.Goals as goal

-- the closed entry's record has the block's stamp and worker already
record HasStamp (a : Contents) (b : Block) : Type 0 where
  r : Record
  new : AreStamped a b.stamp b.worker r a.records
  block : block_of r ≡ b

has_stamp : (a : Contents) (b : Block) → IsClosed b (view_of a) → HasStamp a b
has_stamp a b closed = elim (slice_get_cases a.records.items a.sealed).1 [
  | inl x ↦
      let e : Some (block_of x.0) ≡ Some b = ap (option_map block_in) (sym (closed_at a x.0 x.2)) ∙ closed in
      let same : block_of x.0 ≡ b = cc in
      let stamped : sealed_record b.stamp b.worker x.0 ≡ x.0 = λ i. record x.0 { stamp = (sym same i).stamp; worker = (sym same i).worker } in
      record { r = x.0; new = record { is = x.2; items = sym (ap (set a.records.items a.sealed) (stamped ∙ sym x.3) ∙ set-get_or a.records.items a.sealed x.0); capacity = refl }; block = same }
  | inr y ↦ absurd (let e : None ≡ Some b = sym (ap (option_map block_in) (slice_get-map (shown a.edges.words a.words.items) a.records.items a.sealed ∙ ap (option_map (shown a.edges.words a.words.items)) y.1)) ∙ closed in cc)
]

pub returns : goal.returns
returns c =
    let shows = ap view_of c.deref_mut-contents.ensures.value ∙ c.self.view_is in
    let a = c.deref_mut-contents.result.now in
    let b = c.args.block.now in
    let has = has_stamp a b (subst (λ (l : LockView). IsClosed b l) (sym shows) c.requires.closed) in
    sealed_view a a.records c.run_after-contents.result b.stamp b.worker has.r (subst KeptLock (sym c.deref_mut-contents.ensures.value) c.self.invariant) has.new ∙ ap (with_journal (sealed_as b.stamp b.worker)) shows

pub invariant_of-self : goal.invariant_of-self
invariant_of-self c =
    let shows = ap view_of c.deref_mut-contents.ensures.value ∙ c.self.view_is in
    let a = c.deref_mut-contents.result.now in
    let b = c.args.block.now in
    let has = has_stamp a b (subst (λ (l : LockView). IsClosed b l) (sym shows) c.requires.closed) in
    sealed_kept a a.records c.run_after-contents.result b.stamp b.worker has.r (subst KeptLock (sym c.deref_mut-contents.ensures.value) c.self.invariant) has.new
    (subst (λ (l : LockView). MayFollow b.stamp b.worker l) (sym shows) c.requires.follows) (subst (λ (l : LockView). MayPass l) (sym shows) c.requires.passes)
    (c.run_after-contents.ensures ∙ ap (run_after a.number a.run) (sym (ap (sealed_block b.stamp b.worker) has.block)))
