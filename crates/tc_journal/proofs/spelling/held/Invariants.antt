use Rattle.std.proofs.Common.{◌≡◌, ℕ, ◌^◌, ◌<◌, length}
use Rattle.tc_isa.specs.Sets.{locks_of}
use Rattle.tc_journal.specs.Line.{numbers_text}
use Rattle.tc_journal.proofs.HeldWord.{Remains}
use Rattle.tc_journal.proofs.spelling.held.Given as goal

abbrev pub invariant-loop-rest : goal.invariant-loop-rest
invariant-loop-rest l = record {
  bound : l.held < 2 ^ 32;
  reads : (set : ℕ) → set < 2 ^ 32 → l.fn.word ≡ numbers_text (locks_of set) → Remains l.rest l.held set;
}

abbrev pub decreases-loop-rest : goal.decreases-loop-rest
decreases-loop-rest l = length l.rest
