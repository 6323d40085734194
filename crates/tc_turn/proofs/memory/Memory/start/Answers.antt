use Rattle.tc_turn.proofs.Vocabulary.{◌+◌, List, sym, subst, arith, Part}
use Rattle.tc_turn.proofs.MemoryLaws.{AreMade, piece_more, own_made}
use Rattle.tc_turn.proofs.memory.Memory.start.Goals as goal

pub pieces-preserved : goal.pieces-preserved
pieces-preserved c = record {
  made = subst (λ (parts : List Part). AreMade c.args.image.now parts (c.pieces.next + c.own_piece-piece.result.0)) (sym c.in_ok-push_piece.ensures)
      (piece_more c.args.image.now c.pieces.parts.items c.pieces.next c.own_piece-piece.result.0 c.own_piece-piece.result.1 _ c.pieces.invariant.made c.own_piece-piece.ensures.each c.in_ok-bytes.ensures);
  past = λ some. c.own_piece-piece.ensures.past;
  fits = omega (arith, c.own_piece-piece.ensures.fits);
}

pub returns : goal.returns
returns c = own_made c.args.image.now c.pieces.parts.items c.pieces.next c.pieces.invariant.made (λ at high. c.pieces.invariant.past (omega (arith, c.pieces-test.false)) at (omega (arith, c.pieces-test.false, high)))
