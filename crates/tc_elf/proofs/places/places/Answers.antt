use Rattle.std.proofs.Common.{All, refl, sym, subst, arith}
use Rattle.std.proofs.lemmas.List.Elements.{All-push}
use Rattle.tc_elf.specs.Table.{IsPiece, PlacesTell}
use Rattle.tc_elf.proofs.Table.{piece, place_more}
use Rattle.tc_elf.proofs.places.places.Goals as goal

pub pieces-preserved : goal.pieces-preserved
pieces-preserved c = record {
  tells = subst (PlacesTell c.args.image.now) (sym c.in_ok-push.ensures.items)
      (place_more c.args.image.now c.pieces.places.items c.pieces.next c.piece-length.result _ c.pieces.invariant.tells c.piece-length.ensures.whole refl refl c.searched_region-region.ensures);
  pieces = subst (All (IsPiece c.args.image.now)) (sym c.in_ok-push.ensures.items)
      (All-push (IsPiece c.args.image.now) c.pieces.places.items _ c.pieces.invariant.pieces (piece c.args.image.now c.pieces.next c.piece-length.result _ c.piece-length.ensures.some c.piece-length.ensures.fits c.piece-length.type_inv c.piece-length.ensures.whole refl refl));
  fits = omega (arith, c.piece-length.ensures.fits);
}
