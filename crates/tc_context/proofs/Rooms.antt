-- The room that a package's locks have.
use Rattle.std.proofs.Common.{◌≡◌, ℕ, ◌-◌, Bool, true, false, List, ap, ◌∙◌, arith, Option, Some}
use Rattle.tc_context.proofs.Vocabulary.{option_map, MAX_TURNS, Shown, Block, LockView, Context, Changed, EachLock, Gives, HasRoomFor, IsPlaced, IsWithin, SameLocks, lock_in, Registers, closed_all, closed_with, sealed_in, with_journal, Journals, words_short, Room}
use Rattle.tc_context.proofs.LockList.{mapped_at}

-- each lock of a set has room where a walk over the set has been, and nothing but rooms is changed
pub record Reserved (held left : ℕ → Bool) (old now : List (Option LockView)) : Type 0 where
  pub same : SameLocks old now
  pub room : (k : ℕ) (l : LockView) → lock_in now k ≡ Some l → held k ≡ true → left k ≡ false → HasRoomFor MAX_TURNS l.journal

-- a room is in each lock of a set where a walk over the set has been
pub record Given (held left : ℕ → Bool) (room most : Room) (now : List (Option LockView)) : Type 0 where
  pub within : IsWithin room most
  pub locks : (k : ℕ) (l : LockView) → lock_in now k ≡ Some l → held k ≡ true → left k ≡ false → Gives room l

abbrev pub EachGives : Room → List (Option LockView) → Type 0
EachGives room locks = EachLock (λ k l. Gives room l) locks

pub gives_none : (locks : List (Option LockView)) → EachGives (record { entries = 0; words = 0 }) locks
gives_none locks k l e = record { entries = omega arith; words = omega arith }

-- a lock is put in or taken out
pub gives_placed : (n : ℕ) (o : Option LockView) (old new : List (Option LockView)) (room most : Room) → IsPlaced n o old new → IsWithin room most → ((l : LockView) → o ≡ Some l → Gives room l) → EachGives most old → EachGives room new
gives_placed n o old new room most placed within here each k l e = grind arith

-- a seal takes no room
pub gives_sealed : (held : ℕ → Bool) (b : Block) (regs : Registers) (old new : List (Option LockView)) (room : Room) → Changed (sealed_in held b regs) old new → EachGives room old → EachGives room new
gives_sealed held b regs old new room changed each k l e = grind arith

-- nor does what is seen as closed
pub gives_open : (b : Block) (regs : Registers) (locks : List (Option LockView)) (room : Room) → EachGives room (closed_all b regs locks) → EachGives room locks
gives_open b regs locks room each k l e =
    let g = each k (with_journal (closed_with b regs) l) (mapped_at (with_journal (closed_with b regs)) locks k ∙ ap (option_map (with_journal (closed_with b regs))) e) in
    record { entries = g.entries; words = g.words }

-- the room behind a block of so many turns
abbrev pub behind : ℕ → Room → Room
behind turns room = record { entries = room.entries - 1; words = room.words - turns }

pub gives_behind : (image : Shown) (old new : Context) (b : Block) (room : Room) → Journals image old new b → EachGives room old.locks → EachGives (behind b.turns room) new.locks
gives_behind image old new b room journals each k l e = grind (arith, words_short)
