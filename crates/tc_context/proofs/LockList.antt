-- A package's lock states after a change of each of them.
use Rattle.tc_context.proofs.Vocabulary.{◌≡◌, ℕ, arith, get_or, set, ◌<◌, Bool, true, false, not, ◌==◌, ◌&&◌, List, map, length, sym, ap, ◌∙◌, Option, Some, None, slice_get, if◌then◌else◌, ext_get_or, option_map, LockView, Context, slot_of, lock_in, when_in, Changed, EachHeld, HoldsAt, at_place, option_map-id, slice_get-get_or, slice_get-map, get-set}

-- what a change leaves, it leaves where it is made in some cases alone
pub when_field : {X Y : Type 0} (g : X → Y) (b : Bool) (f : X → X) (x : X) → g (f x) ≡ g x → g (when_in b f x) ≡ g x
when_field g b f x e = grind arith

-- lists of places are the same where each place is
pub locks_ext : (xs ys : List (Option LockView)) → length xs ≡ length ys → ((k : ℕ) → lock_in xs k ≡ lock_in ys k) → xs ≡ ys
locks_ext xs ys e same =
    ext_get_or None xs ys e (λ k lt. sym (ap slot_of (slice_get-get_or xs k None lt)) ∙ same k ∙ ap slot_of (slice_get-get_or ys k None (omega (arith, e, lt))))

slot_map : (g : LockView → LockView) (o : Option (Option LockView)) → slot_of (option_map (option_map g) o) ≡ option_map g (slot_of o)
slot_map g o = grind arith

-- each lock is changed
pub mapped_at : (g : LockView → LockView) (locks : List (Option LockView)) (k : ℕ) → lock_in (map (option_map g) locks) k ≡ option_map g (lock_in locks k)
mapped_at g locks k = ap slot_of (slice_get-map (option_map g) locks k) ∙ slot_map g (slice_get locks k)

-- of no lock, nothing is changed
pub unchanged : (held : ℕ → Bool) (f : ℕ → LockView → LockView) (locks : List (Option LockView)) → ((k : ℕ) → held k ≡ false) → Changed (λ k l. when_in (held k) (f k) l) locks locks
unchanged held f locks none k = sym (option_map-id (when_in (held k) (f k)) (lock_in locks k) (λ l. ap (λ b. when_in b (f k) l) (none k)))

-- the changes of the places outside a set: those at which a walk over the set has been
abbrev pub outside : (ℕ → Bool) → (ℕ → LockView → LockView) → ℕ → LockView → LockView
outside left f k l = when_in (not (left k)) (f k) l

-- where what is left is of the walk's set
abbrev pub Walked : (ℕ → Bool) → (ℕ → Bool) → (ℕ → LockView → LockView) → List (Option LockView) → List (Option LockView) → Type 0
Walked held left f old now = Changed (outside left f) old now × ((k : ℕ) → left k ≡ true → held k ≡ true)

-- what is left of the walk is as it was
pub outside_here : (left : ℕ → Bool) (f : ℕ → LockView → LockView) (n : ℕ) (old now : List (Option LockView)) → left n ≡ true → Changed (outside left f) old now → lock_in now n ≡ lock_in old n
outside_here left f n old now has_n changed = changed n ∙ option_map-id (outside left f n) (lock_in old n) (λ l. ap (λ b. when_in (not b) (f n) l) has_n)

-- and what each lock of a set may do, the walk's next one still may
pub next_here : (held left : ℕ → Bool) (f : ℕ → LockView → LockView) (P : LockView → Type 0) (n : ℕ) (old now : List (Option LockView)) → n < 32 → left n ≡ true → Walked held left f old now → EachHeld held P old → HoldsAt n P now
next_here held left f P n old now lt has_n walked each = record { place = lt; lock = λ l found. each n l (sym (outside_here left f n old now has_n walked.0) ∙ found) (walked.1 n has_n) }

-- the walk goes on: its next lock is changed
pub walked_on : (held left rest : ℕ → Bool) (f : ℕ → LockView → LockView) (g : LockView → LockView) (n : ℕ) (old mid new : List (Option LockView)) → ((k : ℕ) → rest k ≡ (not (k == n) && left k)) → left n ≡ true → g ≡ f n
    → Walked held left f old mid → Changed (at_place n g) mid new → Walked held rest f old new
walked_on held left rest f g n old mid new less has_n same walked changed = grind arith

-- the context with other locks
abbrev pub with_locks : Context → List (Option LockView) → Context
with_locks p locks = record { thread = p.thread; guest = p.guest; locks = locks }

-- one place
pub place_is : (items : List (Option LockView)) (n : ℕ) (o : Option LockView) → n < length items → o ≡ get_or items n o → lock_in items n ≡ o
place_is items n o lt is = ap slot_of (slice_get-get_or items n o lt ∙ ap Some (sym is))

pub put_place : (items : List (Option LockView)) (n : ℕ) (o : Option LockView) (k : ℕ) → n < length items → lock_in (set items n o) k ≡ (if k == n then o else lock_in items k)
put_place items n o k lt = grind (arith, get-set)

-- the place is written, and its lock state is changed
pub changed_place : (f : LockView → LockView) (items : List (Option LockView)) (n : ℕ) (o new : Option LockView) → n < length items → o ≡ get_or items n o → new ≡ option_map f o
    → Changed (at_place n f) items (set items n new)
changed_place f items n o new lt is e k = grind (arith, put_place, place_is)
