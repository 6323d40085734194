-- The list of the locks of a set, written from its greatest down.
use Rattle.std.proofs.Common.{◌≡◌, ℕ, zero, suc, ◌+◌, ◌-◌, ◌*◌, ◌^◌, ◌<◌, ◌≤◌, ◌==◌, ◌&&◌, Bool, true, false, not, cond, inl, inr, List, [], ◌∷◌, ◌++◌, length, filter, refl, sym, ap, ◌∙◌, append_assoc, append-nil, arith}
use Rattle.std.specs.Prelude.{codes, decimal}
use Rattle.std.specs.Int.{bit_at}
use Rattle.std.specs.List.{flat_map, range_with_len}
use Rattle.std.proofs.lemmas.Bool.{cases_lt, eqb-true, false_from_ne_true}
use Rattle.std.proofs.lemmas.Bool.Decides.{eqb_tells}
use Rattle.std.proofs.lemmas.Nat.{pow_pos}
use Rattle.std.proofs.lemmas.Nat.Bits.{bit_at_above}
use Rattle.tc_isa.specs.Sets.{has, locks_of, without_lock, IsGreatest}
use Rattle.tc_journal.specs.Line.{comma_text, numbers_text}

none_from : (p : ℕ → Bool) (a n : ℕ) → ((i : ℕ) → a ≤ i → p i ≡ false) → filter p (range_with_len a n) ≡ []
none_from p a zero none = refl
none_from p a (suc n) none =
    let rest : List ℕ = filter p (range_with_len (a + 1) n) in
    ap (λ b. cond b (a ∷ rest) rest) (none a (omega arith)) ∙ none_from p (a + 1) n (λ i le. none i (omega arith))

-- the locks of a set from this one on are written in front of an old line
pub record Written (set lock : ℕ) (line old : List ℕ) : Type 0 where
  pub first : ℕ
  pub others : List ℕ
  pub count : ℕ
  pub sum : lock + count ≡ 32
  pub are : filter (has set) (range_with_len lock count) ≡ first ∷ others
  pub text : line ≡ numbers_text (first ∷ others) ++ old
  pub room : length line + 3 * lock ≤ 98 + length old

-- the greatest
begun : (set lock count : ℕ) (line old : List ℕ) → IsGreatest set lock → lock + suc count ≡ 32 → line ≡ decimal lock ++ old → length line ≤ 2 + length old → Written set lock line old
begun set lock count line old is sum text short =
    let p : ℕ → Bool = has set in
    let rest : List ℕ = filter p (range_with_len (lock + 1) count) in
    record {
      first = lock;
      others = [];
      count = suc count;
      sum = sum;
      are = ap (λ b. cond b (lock ∷ rest) rest) is.0 ∙ ap (λ ks. lock ∷ ks) (none_from p (lock + 1) count (λ i le. false_from_ne_true (p i) (λ e. absurd (omega (arith, is.1 i e)))));
      text = text ∙ ap (λ t. t ++ old) (sym (append-nil (decimal lock)));
      room = omega arith;
    }

-- what comes before them is not in the set
none_between : (p : ℕ → Bool) (a m n total : ℕ) → m + n ≡ total → ((i : ℕ) → a ≤ i → i < a + m → p i ≡ false) → filter p (range_with_len a total) ≡ filter p (range_with_len (a + m) n)
none_between p a zero n total e none =
    let from : a ≡ a + 0 = omega arith in
    let all : total ≡ n = omega (arith, e) in
    λ i. filter p (range_with_len (from i) (all i))
none_between p a (suc m) n zero e none = absurd (omega (arith, e))
none_between p a (suc m) n (suc left) e none =
    let rest : List ℕ = filter p (range_with_len (a + 1) left) in
    let from : a + 1 + m ≡ a + suc m = omega arith in
    ap (λ b. cond b (a ∷ rest) rest) (none a (omega arith) (omega arith)) ∙ none_between p (a + 1) m n left (omega (arith, e)) (λ i from low. none i (omega arith) (omega arith))
    ∙ ap (λ k. filter p (range_with_len k n)) from

-- no lock is in the empty set
pub has_none : (lock : ℕ) → has 0 lock ≡ false
has_none lock = rw (bit_at_above 0 0 lock (omega arith) (omega arith)) refl

-- the next one below
one_more : (set lock above : ℕ) (line new old : List ℕ) → Written set above line old → lock < above → has set lock ≡ true → ((k : ℕ) → lock < k → k < above → has set k ≡ false) → new ≡ decimal lock ++ (codes "," ++ line) → length new ≤ 3 + length line → Written set lock new old
unfolding comma_text
one_more set lock above line new old w below had none text short =
    let m : ℕ = above - (lock + 1) in
    let count : ℕ = m + w.count in
    let rest : List ℕ = filter (has set) (range_with_len (lock + 1) count) in
    let to : lock + 1 + m ≡ above = omega (arith, below) in
    record {
      first = lock;
      others = w.first ∷ w.others;
      count = suc count;
      sum = omega (arith, w.sum, to);
      are = ap (λ b. cond b (lock ∷ rest) rest) had
          ∙ ap (λ ks. lock ∷ ks) (none_between (has set) (lock + 1) m w.count count refl (λ i from low. none i (omega arith) (omega (arith, to))) ∙ ap (λ a. filter (has set) (range_with_len a w.count)) to ∙ w.are);
      text = text ∙ ap (λ t. decimal lock ++ (codes "," ++ t)) w.text ∙ sym (append_assoc (decimal lock) (flat_map comma_text (w.first ∷ w.others)) old);
      room = omega (arith, w.room, below);
    }

-- the locks of a set are written from one on, and those below it are left
pub record Below (set left : ℕ) (line old : List ℕ) : Type 0 where
  pub lock : ℕ
  pub written : Written set lock line old
  pub above : (k : ℕ) → lock ≤ k → has left k ≡ false
  pub below : (k : ℕ) → k < lock → has left k ≡ has set k

-- what remains of a set without its greatest lock
record Remains (set lock left : ℕ) : Type 0 where
  pub above : (k : ℕ) → lock ≤ k → has left k ≡ false
  pub below : (k : ℕ) → k < lock → has left k ≡ has set k

not_above : (set lock k : ℕ) → IsGreatest set lock → lock < k → has set k ≡ false
not_above set lock k is more = false_from_ne_true (has set k) (λ e. absurd (omega (arith, is.1 k e)))

remains : (set lock left : ℕ) → IsGreatest set lock → ((k : ℕ) → has left k ≡ (not (k == lock) && has set k)) → Remains set lock left
remains set lock left is each = record {
  above = λ k from. elim (eqb_tells k lock) as (λ w. has left k ≡ false) [
    | inl e ↦ each k ∙ ap (λ b. not b && has set k) e.0
    | inr e ↦ each k ∙ ap (λ b. not b && has set k) e.0 ∙ not_above set lock k is (omega (arith, e.1, from))
  ];
  below = λ k low. elim (eqb_tells k lock) as (λ w. has left k ≡ has set k) [
    | inl e ↦ absurd (omega (arith, e.1, low))
    | inr e ↦ each k ∙ ap (λ b. not b && has set k) e.0
  ];
}

-- the greatest is written
pub begun_below : (set lock left : ℕ) (line old : List ℕ) → IsGreatest set lock → lock < 32 → ((k : ℕ) → has left k ≡ (not (k == lock) && has set k)) → line ≡ decimal lock ++ old → length line ≤ 2 + length old → Below set left line old
begun_below set lock left line old is small each text short =
    let r = remains set lock left is each in
    record { lock = lock; written = begun set lock (31 - lock) line old is (omega arith) text short; above = r.above; below = r.below }

-- and the greatest of what is left
pub next_below : (set lock left less : ℕ) (line new old : List ℕ) → Below set left line old → IsGreatest left lock → ((k : ℕ) → has less k ≡ (not (k == lock) && has left k)) → new ≡ decimal lock ++ (codes "," ++ line) → length new ≤ 3 + length line → Below set less new old
next_below set lock left less line new old w is each text short =
    let r = remains left lock less is each in
    elim (cases_lt lock w.lock) as (λ s. Below set less new old) [
      | inl low ↦ record {
        lock = lock;
        written = one_more set lock w.lock line new old w.written low (sym (w.below lock low) ∙ is.0) (λ k more under. sym (w.below k under) ∙ not_above left lock k is more) text short;
        above = r.above;
        below = λ k under. r.below k under ∙ w.below k (omega (arith, low));
      }
      | inr high ↦ (let no : false ≡ true = sym (w.above lock high) ∙ is.0 in absurd cc)
    ]

-- a set is less without one of its locks
pub fewer : (left lock : ℕ) → has left lock ≡ true → without_lock left lock < left
fewer left lock h =
    let one : bit_at left lock ≡ 1 = eqb-true _ _ h in
    let power : 0 < 2 ^ lock = pow_pos lock in
    let taken : without_lock left lock ≡ left - 1 * 2 ^ lock = ap (λ b. left - b * 2 ^ lock) one in
    elim (cases_lt 0 left) as (λ s. without_lock left lock < left) [
      | inl some ↦ omega (arith, taken, power)
      | inr none ↦ (let empty : left ≡ 0 = omega arith in let no : false ≡ true = sym (has_none lock) ∙ ap (λ n. has n lock) (sym empty) ∙ h in absurd cc)
    ]

-- none is left
pub all_written : (set left : ℕ) (line old : List ℕ) → Below set left line old → left ≡ 0 → line ≡ numbers_text (locks_of set) ++ old
unfolding locks_of
all_written set left line old b empty =
    let w = b.written in
    let from : 0 + b.lock ≡ b.lock = omega arith in
    let whole : filter (has set) (range_with_len 0 32) ≡ w.first ∷ w.others =
    none_between (has set) 0 b.lock w.count 32 w.sum (λ k _ low. sym (b.below k (omega arith)) ∙ ap (λ n. has n k) empty ∙ has_none k) ∙ ap (λ a. filter (has set) (range_with_len a w.count)) from ∙ w.are in
    w.text ∙ ap (λ ns. numbers_text ns ++ old) (sym whole)

pub locks_of-none : locks_of 0 ≡ []
unfolding locks_of
locks_of-none = refl
