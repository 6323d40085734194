-- Each step on the line of a lock is an operation that may come there.
use Rattle.std.proofs.Common.{◌≡◌, ℕ, ◌==◌, ◌%◌, ◌/◌, Bool, true, false, cond, List, [], sym, refl, ap, ◌∙◌, subst, arith, Option, Some, None, slice_index, eqb-true}
use Rattle.tc_hall.proofs.Vocabulary.{Cargo, IsOrdered, Sat, Knows, Line, HallTerms, Turn, keeps, line, link_word_of, none, stepped, tail_word_of, threads, with_call}
use prog.Atomic.{either}
use Rattle.atomic_table.specs.Table.{step, Allows}
use Rattle.tc_queue.specs.declared.turn.QueueCall.TheVariants.{Link}
use Rattle.tc_queue.specs.Words.{turn_at, turn_word, link_word}
use Rattle.tc_queue.specs.Calls.{tail_without}
use Rattle.tc_queue.specs.Order.{tail_word}
use Rattle.tc_queue.specs.Asked.{Ask, answered, enter, link, next, leave}
use Rattle.tc_queue.proofs.Packed.{turns_packed, word_without}
use Rattle.tc_hall.specs.Lines.{IsAsked, MayStand, MayLinkAt}
use Rattle.tc_hall.specs.Steps.{At, lined}
use Rattle.tc_hall.specs.Standing.{IfLined, EntersAs, LinksAs, StandsAs, loose}
use Rattle.tc_hall.proofs.Exact.{exact_words}
use Rattle.tc_hall.proofs.Ordering.{kept_of}
use Rattle.tc_hall.proofs.Ordering.{next as one_more}

-- a tail that was read has the word that was read
pub tail_again : (word : ℕ) → tail_word (turn_at word) ≡ word
tail_again word = by (word == 0) refl
  where
    by : (b : Bool) → (word == 0) ≡ b → tail_word (turn_at word) ≡ word
    by true is = ap (λ (z : ℕ). tail_word (turn_at z)) (eqb-true word 0 is) ∙ sym (eqb-true word 0 is)
    by false is = ap tail_word (some is) ∙ turns_packed.back word _ (some is)
      where
        some : (word == 0) ≡ false → turn_at word ≡ Some (record { thread = word % 64; number = word / 64 })
        some is = ap (λ (b : Bool). cond b None (Some (record { thread = word % 64; number = word / 64 }))) is

-- what a call says of its step names none of its operands
abbrev pub no_step : At
no_step = step 0 0 0 0 none

-- a step of a call that was asked so
pub asked_so : (n i : ℕ) (ask : Ask) (m j : ℕ) (a : Ask) (x : Sat) (r : ℕ) (x' : Sat) → IsAsked n i ask m j a → lined m j a no_step x r x' → lined n i ask no_step x r x'
asked_so n i ask m j a x r x' is did = subst (λ (z : ℕ × ℕ × Ask). lined z.0 z.1 z.2 no_step x r x') (λ q. (is.0 q, is.1 q, is.2 q)) did

-- and such a step is allowed, where that of the call is
pub found_so : (k : HallTerms) (slots id word : ℕ) (me : Sat) (f : ℕ → ℕ) (n i : ℕ) (ask : Ask) (m j : ℕ) (a : Ask) → IsAsked n i ask m j a
    → Allows (IsOrdered k) slots id me word f (lined n i ask no_step me) → Allows (IsOrdered k) slots id me word f (lined m j a no_step me)
found_so k slots id word me f n i ask m j a is all = subst (λ (z : ℕ × ℕ × Ask). Allows (IsOrdered k) slots id me word f (lined z.0 z.1 z.2 no_step me)) (λ q. (sym is.0 q, sym is.1 q, sym is.2 q)) all

pub stored_so : (k : HallTerms) (slots id word left : ℕ) (me : Sat) (n i : ℕ) (ask : Ask) (m j : ℕ) (a : Ask) → IsAsked n i ask m j a
    → Allows (IsOrdered k) slots id me word (λ _. left) (λ _. lined n i ask no_step me left) → Allows (IsOrdered k) slots id me word (λ _. left) (λ _. lined m j a no_step me left)
stored_so k slots id word left me n i ask m j a is all = subst (λ (z : ℕ × ℕ × Ask). Allows (IsOrdered k) slots id me word (λ _. left) (λ _. lined z.0 z.1 z.2 no_step me left)) (λ q. (sym is.0 q, sym is.1 q, sym is.2 q)) all

module _ (k : HallTerms) (slots id i : ℕ) (v : Knows) (c : List (ℕ × Option Cargo)) (empty : c ≡ []) (live : v.spent ≡ false) where
  abbrev pub Swaps : Turn → ℕ → ℕ → List (ℕ × Option Cargo) → Type 0
  Swaps u word left c = Allows (IsOrdered k) slots id (v, c) word (λ _. left) (lined (threads k) i (enter u) (step slots word left 0 none) (v, c))

  pub swaps : (u : Turn) (word left : ℕ) → MayStand k i u → IfLined k v (EntersAs v i u) → word ≡ tail_word_of k i → left ≡ turn_word u → Swaps u word left c
  swaps u word left may stands at is = subst (λ (z : ℕ × ℕ). Swaps u z.0 z.1 c) (λ j. (sym at j, sym is j)) (subst (Swaps u (tail_word_of k i) (turn_word u)) (sym empty) (λ s d deep at small.
      let found : ℕ = slice_index s.words (tail_word_of k i) in (
        with_call v (Line i (answered (enter u) found)),
        keeps,
        tt,
        one_more k s d id v (line i (answered (enter u) found)) at live (may.lined, may.lock, (may.turn, refl), stands),
        (refl, ((exact_words k s d).lines i may.lined may.lock).tail),
      )))

  abbrev pub Stores : Turn → Turn → ℕ → ℕ → List (ℕ × Option Cargo) → Type 0
  Stores b u word left c = Allows (IsOrdered k) slots id (v, c) word (λ _. left) (λ _. lined (threads k) i (link b u) (step slots word left 0 none) (v, c) left)

  pub stores : (b u : Turn) (word left : ℕ) → MayLinkAt k v i b u → IfLined k v (LinksAs v i u) → word ≡ link_word_of k i b.thread → left ≡ link_word (record { before = b.number; behind = u }) → Stores b u word left c
  stores b u word left may stands at is = subst (λ (z : ℕ × ℕ). Stores b u z.0 z.1 c) (λ j. (sym at j, sym is j)) (subst (Stores b u (link_word_of k i b.thread) (link_word (record { before = b.number; behind = u }))) (sym empty) (λ s d deep at small. (
    with_call v (Line i (Link b u)),
    keeps,
    tt,
    one_more k s d id v (line i (Link b u)) at live (may.may.lined, may.may.lock, (may.behind, may.may.turn, may.entered), stands),
    (refl, tt),
  )))

  abbrev pub Loads : Turn → ℕ → List (ℕ × Option Cargo) → Type 0
  Loads u word c = Allows (IsOrdered k) slots id (v, c) word (λ n. n) (lined (threads k) i (next u) (step slots word 0 0 none) (v, c))

  pub loads : (u : Turn) (word : ℕ) → MayStand k i u → IfLined k v (StandsAs v i (loose u)) → word ≡ link_word_of k i u.thread → Loads u word c
  loads u word may stands at = subst (λ (z : ℕ). Loads u z c) (sym at) (subst (Loads u (link_word_of k i u.thread)) (sym empty) (λ s d deep at small.
      let found : ℕ = slice_index s.words (link_word_of k i u.thread) in (
        with_call v (Line i (answered (next u) found)),
        keeps,
        tt,
        one_more k s d id v (line i (answered (next u) found)) at live (may.lined, may.lock, (may.turn, refl), stands),
        (refl, ((exact_words k s d).lines i may.lined may.lock).links u.thread may.turn.thread),
      )))

  abbrev pub Clears : Turn → ℕ → ℕ → List (ℕ × Option Cargo) → Type 0
  Clears u word own c = Allows (IsOrdered k) slots id (v, c) word (λ x. either (x == own) 0 x) (lined (threads k) i (leave u) (step slots word own 0 none) (v, c))

  pub clears : (u : Turn) (word own : ℕ) → MayStand k i u → IfLined k v (StandsAs v i (loose u)) → word ≡ tail_word_of k i → own ≡ turn_word u → Clears u word own c
  clears u word own may stands at is = subst (λ (z : ℕ × ℕ). Clears u z.0 z.1 c) (λ j. (sym at j, sym is j)) (subst (Clears u (tail_word_of k i) (turn_word u)) (sym empty) (λ s d deep at small.
      let found : ℕ = slice_index s.words (tail_word_of k i) in
      let range = ((exact_words k s d).lines i may.lined may.lock).tail in
      let few = (kept_of k s d).told.limits.threads in
      let left : either (found == turn_word u) 0 found ≡ tail_word (tail_without u (turn_at found)) =
      ap (λ (z : ℕ). either (z == turn_word u) 0 z) (sym (tail_again found)) ∙ word_without (threads k) (turn_at found) u (omega (arith, few)) range may.turn in (
        with_call v (Line i (answered (leave u) found)),
        keeps,
        tt,
        subst (λ (z : ℕ). IsOrdered k (stepped s (tail_word_of k i) z id [] (with_call v (Line i (answered (leave u) found))) keeps)) (sym left)
            (one_more k s d id v (line i (answered (leave u) found)) at live (may.lined, may.lock, (may.turn, refl), stands)),
        (refl, range),
      )))
