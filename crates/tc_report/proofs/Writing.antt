-- What a sink is given by writes one after another.
use Rattle.std.proofs.Common.{◌≡◌, ℕ, ◌+◌, ◌*◌, ◌≤◌, add-one, Bor, List, ◌++◌, Result, Ok, Err, length, take, drop, length-append, sym, subst, ap, ◌∙◌, arith}
use Rattle.std.proofs.KnownBytes.{Appends-trans}
use Rattle.std.proofs.lemmas.List.{take_all, take-append-drop, take-append-le}
use Rattle.std.proofs.lemmas.List.Concat.{flat_map-append}
use Rattle.std.proofs.Math.Nat.{suc-mul}
use Rattle.std.proofs.Math.Seq.{take-add, take-append-add}
use Rattle.std.specs.Fork.{slice_chunk}
use Rattle.std.specs.Io.KnownBytes.{Appends}
use Rattle.tc_io.specs.Causes.{FailedOnce}
use Rattle.tc_io.specs.Stream.{Stream}
use Rattle.tc_io.specs.Taken.{FailsAmid, Gives}
use Rattle.tc_journal.specs.Line.{block_line, history_text}
use Rattle.tc_journal.specs.declared.block.Block.{Block}
use Rattle.tc_journal.proofs.Merged.{length_placed}
use Rattle.tc_report.specs.Logs.{blocks_in, merged}
use Rattle.tc_report.specs.Pieces.{lines_in, piece_of}
use Rattle.tc_report.specs.declared.piece.TheConstants.{BLOCKS}
use Rattle.tc_report.specs.Written.{Wrote}

pub gives_more : (before mid now : Stream) (xs ys : List ℕ) → Gives before mid xs → Gives mid now ys → Gives before now (xs ++ ys)
gives_more before mid now xs ys p q = record {
  given = Appends-trans before.bytes mid.bytes now.bytes xs ys p.given q.given;
  quiet = q.quiet ∙ p.quiet;
}

-- where a write fails, no later one is made
pub fails_early : (before now : Stream) (xs ys : List ℕ) → FailsAmid before now xs → FailsAmid before now (xs ++ ys)
fails_early before now xs ys f = record {
  count = f.count;
  short = omega (arith, f.short, length-append xs ys);
  given = subst (Appends before.bytes now.bytes) (sym (take-append-le f.count xs ys (omega (arith, f.short)))) f.given;
  fault = f.fault;
}

pub fails_later : (before mid now : Stream) (xs ys : List ℕ) → Gives before mid xs → FailsAmid mid now ys → FailsAmid before now (xs ++ ys)
fails_later before mid now xs ys p f = record {
  count = length xs + f.count;
  short = omega (arith, f.short, length-append xs ys);
  given = subst (Appends before.bytes now.bytes) (sym (take-append-add xs ys f.count)) (Appends-trans before.bytes mid.bytes now.bytes xs _ p.given f.given);
  fault = let faults : ℕ → Type 0 = λ n. FailedOnce (record { bytes = before.bytes; faults = n }) now in subst faults p.quiet record { later = f.fault.later; next = f.fault.next };
}

-- how a text that is written behind another one goes is how both go
pub wrote_later : {E : Type 0} (before mid now : Stream) (xs ys : List ℕ) (r : Result (Unit {0}) E) → Gives before mid xs → Wrote mid now ys r → Wrote before now (xs ++ ys) r
wrote_later before mid now xs ys (Ok done) p q = gives_more before mid now xs ys p q
wrote_later before mid now xs ys (Err failed) p f = fails_later before mid now xs ys p f

-- the lines of the first blocks, and those of the others
pub lines_split : (k : ℕ) (h : List Block) → history_text (take k h) ++ history_text (drop k h) ≡ history_text h
lines_split k h = sym (flat_map-append block_line (take k h) (drop k h)) ∙ ap history_text (take-append-drop k h)

-- the lines of the first pieces, and those of the next one
next_piece : (h : List Block) (n : ℕ) → history_text (take (n * BLOCKS) h) ++ piece_of h n ≡ history_text (take ((n + 1) * BLOCKS) h)
next_piece h n =
    let here : List Block = take (n * BLOCKS) h in
    let next : List Block = slice_chunk h BLOCKS n in
    let more : take ((n + 1) * BLOCKS) h ≡ here ++ next = ap (λ k. take k h) (ap (λ k. k * BLOCKS) (add-one n) ∙ suc-mul n BLOCKS) ∙ take-add (n * BLOCKS) BLOCKS h in
    sym (ap history_text more ∙ flat_map-append block_line here next)

-- and those of the pieces behind it
pieces_split : (h : List Block) (n : ℕ) → (history_text (take (n * BLOCKS) h) ++ piece_of h n) ++ history_text (drop ((n + 1) * BLOCKS) h) ≡ history_text h
pieces_split h n = ap (λ t. t ++ history_text (drop ((n + 1) * BLOCKS) h)) (next_piece h n) ∙ lines_split ((n + 1) * BLOCKS) h

-- the first pieces were given, and this is the text of the next one
module _ (before mid now : Stream) (h : List Block) (n : ℕ) (text : List ℕ) (is : text ≡ piece_of h n) (given : Gives before mid (history_text (take (n * BLOCKS) h))) where
  pub piece_fails : FailsAmid mid now text → FailsAmid before now (history_text h)
  piece_fails failed = subst (FailsAmid before now) (pieces_split h n) (fails_early before now _ _ (fails_later before mid now _ _ given (subst (FailsAmid mid now) is failed)))

  pub piece_given : Gives mid now text → Gives before now (history_text (take ((n + 1) * BLOCKS) h))
  piece_given next = subst (Gives before now) (next_piece h n) (gives_more before mid now _ _ given (subst (Gives mid now) is next))

-- there are no more pieces
pub all_given : (before now : Stream) (logs : List (Bor (List Block))) (n : ℕ) → length (blocks_in logs) ≤ n * BLOCKS → Gives before now (history_text (take (n * BLOCKS) (merged logs))) → Gives before now (lines_in logs)
all_given before now logs n end = subst (λ h. Gives before now (history_text h)) (take_all (n * BLOCKS) (merged logs) (omega (arith, end, length_placed (blocks_in logs) (blocks_in logs))))
