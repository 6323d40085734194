-- A package in the middle of a block.
use Rattle.std.specs.Prelude.{◌≡◌, ℕ, zero, suc, ◌≤◌, Bool, true, List, Option, Some, None, IfSome, is_some}
use Rattle.std.specs.Option.{option_map}
use Rattle.tc_isa.specs.Sets.{has}
use Rattle.tc_elf.specs.Shown.{Shown}
use Rattle.tc_exec.specs.InPlace.{done_of}
use Rattle.tc_exec.specs.declared.outcome.Act.{Act}
use Rattle.tc_exec.specs.declared.outcome.Done.{Done}
use Rattle.tc_journal.specs.declared.rule.Outcome.TheVariants.{Went}
use Rattle.tc_turn.specs.InPlace.{DoneFits}
use Rattle.tc_turn.specs.Reads.{Covers}
use Rattle.tc_turn.specs.Turn.{next_act, next_lock, outcome_of, thread_after, mutex_after}
use Rattle.tc_turn.specs.Replay.{word_of, words_from}
use Rattle.tc_mutex_spec.specs.Blocks.{reach}
use Rattle.tc_segment.specs.View.{Journal, noted}
use Rattle.tc_context.specs.declared.context.Context.{Context}
use Rattle.tc_context.specs.Locks.{when_in, IsReady}
use Rattle.tc_context.specs.Whole.{thread_in, mutex_at, whole, set_of, journal_at, CanGo, Keeps}

-- what the next turn does, on the package alone
abbrev pub act_in : Shown → Context → Option Act
act_in image p = next_act image (thread_in p) (mutex_at p)

abbrev pub noted_when : Bool → List ℕ → Journal → Journal
noted_when b ws j = when_in b (noted ws) j

-- the next turn: the thread and the locks change by what it does, and its words are noted in the block's locks
pub record IsTurn (image : Shown) (block : ℕ → Bool) (old new : Context) : Type 0 where
  pub keeps : Keeps old new
  pub thread : thread_in new ≡ thread_after (thread_in old) (act_in image old)
  pub locks : (k : ℕ) → set_of old k ≡ true → mutex_at new k ≡ mutex_after image old.thread (has old.guest.held) (act_in image old) k (mutex_at old k)
  pub journals : (k : ℕ) → journal_at new k ≡ option_map (noted_when (block k) (word_of image k (thread_in old) (mutex_at old))) (journal_at old k)

-- the entries of the block's locks are open
abbrev pub AreOpen : (ℕ → Bool) → Context → Type 0
AreOpen block p = (k : ℕ) (j : Journal) → journal_at p k ≡ Some j → block k ≡ true → is_some j.opened ≡ true

-- there is room for so many words in each
abbrev pub HasRoom : ℕ → (ℕ → Bool) → Context → Type 0
HasRoom n block p = (k : ℕ) (j : Journal) → journal_at p k ≡ Some j → block k ≡ true → n ≤ j.word_room

-- what n turns of a block with these locks ask of the package
pub record MayTurn (image : Shown) (block : ℕ → Bool) (n : ℕ) (p : Context) : Type 0 where
  pub go : CanGo image p
  pub covers : Covers image block (thread_in p)
  pub opened : AreOpen block p
  pub room : HasRoom n block p

-- what the next turn did beside the registers, and what it made of the thread and the locks
pub record DidTurn (image : Shown) (block : ℕ → Bool) (old new : Context) (did : Option Done) : Type 0 where
  pub done : did ≡ option_map done_of (act_in image old)
  pub fits : IfSome did DoneFits
  pub turn : IsTurn image block old new

-- the journals of its locks are ready for a block
abbrev pub AreReady : Context → Type 0
AreReady p = (k : ℕ) (j : Journal) → journal_at p k ≡ Some j → IsReady j

-- the words of n turns on the package alone, as lock k sees them
abbrev pub words_of : Shown → Context → ℕ → ℕ → List ℕ
words_of image p k n =
    words_from image k (λ i. (reach image (whole p) p.thread i).threads p.thread) (λ i. (reach image (whole p) p.thread i).locks) 0 n

-- the words of n turns are noted in the block's locks
abbrev pub AreNoted : Shown → (ℕ → Bool) → ℕ → Context → Context → Type 0
AreNoted image block n old new = (k : ℕ) → journal_at new k ≡ option_map (noted_when (block k) (words_of image old k n)) (journal_at old k)

-- the next turn takes no lock, and goes on
pub record IsStep (image : Shown) (block : ℕ → Bool) (old new : Context) : Type 0 where
  pub none : next_lock image (thread_in old) ≡ None
  pub turn : IsTurn image block old new
  pub went : outcome_of (act_in image old) ≡ Went

-- so many such turns
abbrev pub GoesOn : Shown → (ℕ → Bool) → ℕ → Context → Context → Type 0
GoesOn image block zero old now = old ≡ now
GoesOn image block (suc n) old now = (mid : Context) × GoesOn image block n old mid × IsStep image block mid now
