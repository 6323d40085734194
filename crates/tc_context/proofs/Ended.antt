-- The registers behind the last entry of each lock that a thread holds, with which the thread goes on.
use Rattle.tc_context.proofs.Vocabulary.{◌≡◌, ℕ, ◌≤◌, true, false, List, length, refl, sym, ap, subst, ◌∙◌, arith, Option, Some, None, IfSome, option_map, has, Shown, next_lock, LockView, EndedAt, last_finish, sealed_as, with_journal, Context, AreEnded, lock_in, EachHeld, HoldsAt, IsReady, MayGoOn}
use Rattle.tc_context.proofs.Vocabulary.{IsPlaced, SameLocks, Changed, thread_in, journal_in, AreReady, Registers, next_free, next_known, sealed_last}
use Rattle.tc_context.proofs.Staging.{lock_was, with_locks}

abbrev finish_of : LockView → Option Registers
finish_of l = last_finish l.journal.sealed l.journal.closed

-- of the locks that a block opens, those that the thread holds may go on
pub held_ready : (image : Shown) (p : Context) (held : ℕ) (regs : Registers) → held ≡ p.guest.held → regs ≡ p.guest.regs → AreReady p → AreEnded p → EachHeld (has held) (MayGoOn regs) p.locks
held_ready image p held regs is at ready ended k l found h =
    let mine : has p.guest.held k ≡ true = ap (λ n. has n k) (sym is) ∙ h in
    record { ready = ready k l.journal (ap (option_map journal_in) found); ended = subst (λ r. EndedAt r l.journal) (sym at) (ended k l found mine) }

-- and that which its first turn takes is another one, which is ready
pub taken_ready : (image : Shown) (p : Context) (held : ℕ) (o : Option ℕ) → length image.guards ≤ 32 → o ≡ next_lock image (thread_in p) → held ≡ p.guest.held → AreReady p
    → IfSome o (λ lock. (has held lock ≡ false) × HoldsAt lock (λ l. IsReady l.journal) p.locks)
taken_ready image p held o few next is ready = subst (λ x. IfSome x (λ lock. (has held lock ≡ false) × HoldsAt lock (λ l. IsReady l.journal) p.locks)) (sym next) (by (next_lock image (thread_in p)) refl)
  where
    by : (x : Option ℕ) → next_lock image (thread_in p) ≡ x → IfSome x (λ lock. (has held lock ≡ false) × HoldsAt lock (λ l. IsReady l.journal) p.locks)
    by None e = tt
    by (Some k) e = (
      ap (λ n. has n k) is ∙ next_free image (thread_in p) k e,
      record { place = (let known = next_known image (thread_in p) k e in omega (arith, known, few)); lock = λ l found. ready k l.journal (ap (option_map journal_in) found) },
    )

-- more rooms leave the last entries
pub ended_rooms : (p : Context) (locks : List (Option LockView)) → SameLocks p.locks locks → AreEnded p → AreEnded (with_locks p locks)
ended_rooms p locks same ended k l found h = (let x = lock_was (lock_in p.locks k) (lock_in locks k) l (same k) found in ap finish_of x.2 ∙ ended k x.0 x.1 h)

-- so does a lock that the thread doesn't hold
pub ended_placed : (p : Context) (locks : List (Option LockView)) (n : ℕ) (o : Option LockView) → IsPlaced n o p.locks locks → has p.guest.held n ≡ false → AreEnded p → AreEnded (with_locks p locks)
ended_placed p locks n o placed free ended k l found h = grind arith

-- and the seal
pub ended_sealed : (stamp worker : ℕ) (p : Context) (locks : List (Option LockView)) → Changed (λ k. with_journal (sealed_as stamp worker)) p.locks locks → AreEnded p → AreEnded (with_locks p locks)
ended_sealed stamp worker p locks changed ended k l found h = grind (arith, sealed_last)
