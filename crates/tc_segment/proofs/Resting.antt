-- Lock states at rest.
use Rattle.tc_segment.proofs.Vocabulary.{◌≡◌, ◌↔◌, ℕ, true, refl, Option, Some, None, IfSome, Block, LockView, Shown, Taken, blocks_of, fresh_state, last_of, may_begin, run_of, IsAtRest, kept, ends_section, allows_of}

pub rests_fresh : (image : Shown) (k limit : ℕ) → IsAtRest image k (fresh_state image k limit)
rests_fresh image k limit = record { number = refl; of = refl; opened = refl; closed = refl; ended = tt }

taken_after : (k limit : ℕ) (last : Option Block) (run worker : ℕ) → IfSome last (λ b. ends_section k b ≡ true) → may_begin k limit last run Taken worker ≡ true
taken_after k limit None run worker ended = refl
taken_after k limit (Some b) run worker ended = ended

pub rests_taken : (image : Shown) (k : ℕ) (l : LockView) (worker : ℕ) → IsAtRest image k l → allows_of k l.journal.limit (blocks_of l) Taken worker ≡ true
unfolding allows_of
rests_taken image k l worker rests = taken_after k l.journal.limit (last_of (blocks_of l)) (run_of k (blocks_of l)) worker rests.ended

same_rest : (image : Shown) (k : ℕ) (l : LockView) → IsAtRest image k (kept l) → IsAtRest image k l
same_rest image k l r = record { number = r.number; of = r.of; opened = r.opened; closed = r.closed; ended = r.ended }

rest_same : (image : Shown) (k : ℕ) (l : LockView) → IsAtRest image k l → IsAtRest image k (kept l)
rest_same image k l r = record { number = r.number; of = r.of; opened = r.opened; closed = r.closed; ended = r.ended }

-- the rooms don't count
pub rests_kept : (image : Shown) (k : ℕ) (l : LockView) → IsAtRest image k (kept l) ↔ IsAtRest image k l
rests_kept image k l = (same_rest image k l, rest_same image k l)
