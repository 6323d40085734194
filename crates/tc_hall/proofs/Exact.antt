-- After each order of operations every word is one of those that it may be.
use Rattle.std.proofs.Common.{◌≡◌, ◌≢◌, ℕ, ◌==◌, Bool, true, false, if◌then◌else◌, ⊎_elim, eqb-true, ◌+◌, ◌*◌, ◌<◌, ◌≤◌, List, [], ◌∷◌, length, replicate, set, sym, refl, ap, ◌∙◌, subst, arith, slice_index, length-set, get_or-set_other, get_or-set_same}
use Rattle.tc_hall.proofs.Vocabulary.{AreInRange, CLOCK, Hall, QueueCall, kept, line, line_word, lines_of, link_word_of, plain_at, tail_word_of, words_of, IsLegal, IsOpening, KeptHall, Knows, Made, MayDo, Operation, Ready, STOP, HallTerms, after_operation, bare}
use Rattle.tc_hall.proofs.Vocabulary.{claim, code_of, commit, free, get_elem?, hall_after, join, lay, length-replicate, locks, look, miss, put, reach, slot_word, some, split, stop, stopped, take, threads}
use Rattle.std.proofs.lemmas.List.{get_or-replicate}
use mathlib.Core.Logic.{dite}
use native.Mathlib.Decide.{ℕ_discrete}
use lib.Seq.{set-get_or}
use Rattle.tc_hall.specs.declared.board.TheConstants.{LINE}
use Rattle.tc_queue.specs.Words.{turn_at, link_at}
use Rattle.tc_queue.specs.Order.{Plain, MayCome, empty_queue, plain_after}
use Rattle.tc_queue.proofs.Opening.{zeros}
use Rattle.tc_hall.specs.Order.{IsThreadWord, put_at, out_with, AreExact, HasExactWords, HasLineWords, ShowsLine, line_after, plain_of}
use Rattle.tc_hall.proofs.Words.{alike_after, in_range_after, in_range_by, line_behind, line_moves, line_or_quiet, line_stays, other_line, set_before, set_same}
use Rattle.tc_hall.proofs.Taking.{is_lock_out}
use borrow.Author.Tests.{eqb-false}
use Rattle.std.proofs.lemmas.Option.{none-some}
use Rattle.tc_hall.proofs.Moves.{is_out}
use Rattle.tc_hall.proofs.Ordering.{kept_by}

-- what holds of a word, and of the number that is set in its place, holds of it afterwards
set_word : (P : ℕ → Type 0) (ws : List ℕ) (i n j : ℕ) → j < length ws → P (slice_index ws j) → (i ≡ j → P n) → P (slice_index (set ws i n) j)
set_word P ws i n j below was now = dite (ℕ_discrete j i)
    (λ (e : j ≡ i). subst P (sym (ap (λ (z : ℕ). slice_index (set ws i n) z) e ∙ get_or-set_same ws i n 0 (subst (λ (z : ℕ). z < length ws) e below))) (now (sym e)))
    (λ (ne : j ≢ i). subst P (sym (get_or-set_other ws i j n 0 (λ e. ne (omega arith)))) was)

module _ (k : HallTerms) where
  -- each line has turns and links of the hall's threads
  abbrev AreRanged : List ℕ → Type 0
  AreRanged ws = (i : ℕ) → k.lined ≡ true → i < locks k → AreInRange (threads k) (plain_at k i ws)

  -- a word at the start of two pairs of cache lines is set
  word_set : (ws : List ℕ) (i n start : ℕ) → i ≡ LINE * start → AreExact k ws → ((t : ℕ) → t < threads k → i ≡ slot_word t → IsThreadWord k n) → ((l : ℕ) → l < locks k → i ≡ slot_word (threads k + l) → n ≤ 1) → (i ≡ STOP → n ≤ 1) → AreRanged (set ws i n) → AreExact k (set ws i n)
  word_set ws i n start starts exact for_thread for_lock for_stop ranged = record {
    count = length-set ws i n ∙ exact.count;
    of_threads = λ t below. set_word (IsThreadWord k) ws i n (slot_word t) (omega (arith, exact.count)) (exact.of_threads t below) (for_thread t below);
    of_locks = λ l below. set_word (λ (z : ℕ). z ≤ 1) ws i n (slot_word (threads k + l)) (omega (arith, exact.count)) (exact.of_locks l below) (for_lock l below);
    of_stop = set_word (λ (z : ℕ). z ≤ 1) ws i n STOP (omega (arith, exact.count)) exact.of_stop for_stop;
    between = λ word below inner. get_or-set_other ws i word n 0 (λ e. omega arith) ∙ exact.between word below inner;
    lines = ranged;
  }

  -- the word stays
  word_stays : (ws : List ℕ) (i n : ℕ) → slice_index ws i ≡ n → AreExact k ws → AreExact k (set ws i n)
  word_stays ws i n is exact = subst (AreExact k) (sym (set-get_or ws i 0) ∙ ap (λ (z : ℕ). set ws i z) is) exact

  -- a word behind those of the slots is set
  behind_set : (ws : List ℕ) (i n : ℕ) → slot_word (threads k + locks k) ≤ i → AreExact k ws → AreRanged (set ws i n) → AreExact k (set ws i n)
  behind_set ws i n behind exact ranged =
      let same : (j : ℕ) → j < slot_word (threads k + locks k) → slice_index (set ws i n) j ≡ slice_index ws j = λ j b. get_or-set_other ws i j n 0 (λ e. omega arith) in
      record {
        count = length-set ws i n ∙ exact.count;
        of_threads = λ t below. subst (IsThreadWord k) (sym (same (slot_word t) (omega arith))) (exact.of_threads t below);
        of_locks = λ l below. subst (λ (z : ℕ). z ≤ 1) (sym (same (slot_word (threads k + l)) (omega arith))) (exact.of_locks l below);
        of_stop = subst (λ (z : ℕ). z ≤ 1) (sym (same STOP (omega arith))) exact.of_stop;
        between = λ word below inner. same word below ∙ exact.between word below inner;
        lines = ranged;
      }

  -- a line after an operation is what the operation leaves of it
  module _ (s : Hall) (r : KeptHall k s) (id : ℕ) (v : Knows) (at : get_elem? s.views id ≡ some v) (exact : AreExact k s.words) (j : ℕ) (lined : k.lined ≡ true) (lock : j < locks k) where
    after_line : (i : ℕ) (c : QueueCall) → MayDo k s id v (line i c) → (b : Bool) → (i == j) ≡ b → ShowsLine k j (after_operation k s id v (line i c)).words (if b then plain_after (plain_at k j s.words) c else plain_at k j s.words)
    after_line i c may true is = subst (λ (z : ℕ). ShowsLine k z (after_operation k s id v (line i c)).words (plain_after (plain_at k z s.words) c)) (eqb-true i j is)
        (line_moves k i s.words exact.count lined may.1 r.told.limits.threads c _ may.2 (exact.lines i lined may.1))
    after_line i c may false is = other_line k i j s.words _ c (eqb-false i j is) r.told.limits.threads _ _ may.2

    pub line_then : (o : Operation) → MayDo k s id v o → ShowsLine k j (after_operation k s id v o).words (line_after j o (plain_at k j s.words))
    line_then (claim t word q) may = let below = may.below in set_before k j s.words (slot_word t) _ (omega arith)
    line_then (take i l) may = let below = may.below in set_before k j s.words (slot_word (threads k + i)) _ (omega arith)
    line_then (put q place) may = let below = (is_out k s r id q.context.thread v (bare q) at may.may.has).0 in set_before k j s.words (slot_word q.context.thread) _ (omega arith)
    line_then (free l) may = let below = (is_lock_out k s r id l.number v (kept l) at may.1.has).0 in set_before k j s.words (slot_word (threads k + l.number)) _ (omega arith)
    line_then (commit stamp b q) may = set_before k j s.words CLOCK _ (omega arith)
    line_then stop may = set_before k j s.words STOP _ (omega arith)
    line_then (miss word wanted found) may = set_same k j s.words word found may.0
    line_then (look t found) may = set_same k j s.words (slot_word t) found may.1
    line_then (stopped found) may = set_same k j s.words STOP found may
    line_then (reach slot) may = set_same k j s.words (slot_word slot) _ refl
    line_then (lay slot) may = set_same k j s.words (slot_word slot) _ refl
    line_then split may = line_stays k j s.words s.words (λ w h. refl)
    line_then (join other w) may = line_stays k j s.words s.words (λ w h. refl)
    line_then (line i c) may = after_line i c may (i == j) refl

    ranged_by : (o : Operation) → MayDo k s id v o → AreInRange (threads k) (line_after j o (plain_at k j s.words))
    ranged_by o may = ⊎_elim
        (λ (z : (i : ℕ) × (c : QueueCall) × (o ≡ line i c)). subst (λ (x : Operation). AreInRange (threads k) (line_after j x (plain_at k j s.words))) (sym z.2) (called z.0 z.1 (subst (MayDo k s id v) z.2 may) (z.0 == j) refl))
        (λ quiet. subst (AreInRange (threads k)) (sym (quiet (plain_at k j s.words))) (exact.lines j lined lock)) (line_or_quiet j o)
      where
        called : (i : ℕ) (c : QueueCall) → MayDo k s id v (line i c) → (b : Bool) → (i == j) ≡ b → AreInRange (threads k) (if b then plain_after (plain_at k j s.words) c else plain_at k j s.words)
        called i c may true is = in_range_after (threads k) (plain_at k j s.words) _ c (subst (λ (z : ℕ). MayCome (threads k) (plain_at k z s.words) (lines_of z v.calls) c) (eqb-true i j is) may.2) (exact.lines j lined lock)
        called i c may false is = exact.lines j lined lock

  ranged_after : (s : Hall) (r : KeptHall k s) (id : ℕ) (v : Knows) → get_elem? s.views id ≡ some v → (o : Operation) → MayDo k s id v o → AreExact k s.words → AreRanged (after_operation k s id v o).words
  ranged_after s r id v at o may exact j lined lock = in_range_by k j _ _ (line_then s r id v at exact j lined lock o may) (ranged_by s r id v at exact j lined lock o may)

  exact_after : (s : Hall) (r : KeptHall k s) (id : ℕ) (v : Knows) → get_elem? s.views id ≡ some v → (o : Operation) → MayDo k s id v o → AreExact k s.words → AreExact k (after_operation k s id v o).words
  exact_after s r id v at (claim t word q) may exact =
      let below = may.below in
      word_set s.words (slot_word t) (512 + v.worker) (t + 2) refl exact (λ u b e. out_with v.worker (r.passes id v at).worker refl) (λ l b e. absurd (omega arith)) (λ e. absurd (omega arith)) (ranged_after s r id v at (claim t word q) may exact)
  exact_after s r id v at (put q place) may exact =
      let below = (is_out k s r id q.context.thread v (bare q) at may.may.has).0 in
      word_set s.words (slot_word q.context.thread) (code_of place) (q.context.thread + 2) refl exact (λ u b e. put_at place may.range refl) (λ l b e. absurd (omega arith)) (λ e. absurd (omega arith)) (ranged_after s r id v at (put q place) may exact)
  exact_after s r id v at (take i l) may exact = word_set s.words (slot_word (threads k + i)) 1 (threads k + i + 2) refl exact (λ u b e. absurd (omega arith)) (λ j b e. omega arith) (λ e. omega arith) (ranged_after s r id v at (take i l) may exact)
  exact_after s r id v at (free l) may exact = word_set s.words (slot_word (threads k + l.number)) 0 (threads k + l.number + 2) refl exact (λ u b e. absurd (omega arith)) (λ j b e. omega arith) (λ e. omega arith) (ranged_after s r id v at (free l) may exact)
  exact_after s r id v at (commit stamp b q) may exact = word_set s.words CLOCK _ 0 refl exact (λ u c e. absurd (omega arith)) (λ j c e. absurd (omega arith)) (λ e. absurd (omega arith)) (ranged_after s r id v at (commit stamp b q) may exact)
  exact_after s r id v at stop may exact = word_set s.words STOP 1 1 refl exact (λ u b e. absurd (omega arith)) (λ j b e. absurd (omega arith)) (λ e. omega arith) (ranged_after s r id v at stop may exact)
  exact_after s r id v at (miss word wanted found) may exact = word_stays s.words word found may.0 exact
  exact_after s r id v at (look t found) may exact = word_stays s.words (slot_word t) found may.1 exact
  exact_after s r id v at (stopped found) may exact = word_stays s.words STOP found may exact
  exact_after s r id v at (line i c) may exact = behind_set s.words (line_word k i c) _ (line_behind k i c) exact (ranged_after s r id v at (line i c) may exact)
  exact_after s r id v at (reach slot) may exact = word_stays s.words (slot_word slot) _ refl exact
  exact_after s r id v at (lay slot) may exact = word_stays s.words (slot_word slot) _ refl exact
  exact_after s r id v at split may exact = exact
  exact_after s r id v at (join other w) may exact = exact

  exact_first : (s : Hall) → IsOpening k s → AreExact k s.words
  exact_first s begins =
      let n : ℕ = words_of k in
      let zero_at : (j : ℕ) → j < n → slice_index (replicate n 0) j ≡ 0 = λ j b. get_or-replicate n j 0 0 b in
      subst (λ (z : Hall). AreExact k z.words) (sym begins.is) record {
        count = length-replicate n 0;
        of_threads = λ t b. put_at Ready tt (zero_at (slot_word t) (omega arith));
        of_locks = λ i b. (let z = zero_at (slot_word (threads k + i)) (omega arith) in omega arith);
        of_stop = let z = zero_at STOP (omega arith) in omega arith;
        between = λ word below _. zero_at word (omega arith);
        lines = λ j _ _. record { tail = λ u e. absurd (none-some u (sym (ap turn_at (zeros n (tail_word_of k j))) ∙ e)); links = λ t b l e. absurd (none-some l (sym (ap link_at (zeros n (link_word_of k j t))) ∙ e)) };
      }

  exact_by : (first : Hall) → IsOpening k first → (order : List Made) → IsLegal k first order → AreExact k (hall_after k first order).words
  exact_by first begins [] legal = exact_first first begins
  exact_by first begins (m ∷ before) legal = exact_after (hall_after k first before) (kept_by k first begins before legal.1) m.pass m.knew legal.0.pass m.operation legal.0.may (exact_by first begins before legal.1)

pub exact_words : HasExactWords
exact_words k s d = subst (λ (z : Hall). AreExact k z.words) (sym d.is) (exact_by k d.first d.opens d.order d.legal)

-- ---- the words of a line are those of the sequential queue after its calls

module _ (k : HallTerms) where
  lines_by : (first : Hall) → IsOpening k first → (order : List Made) → IsLegal k first order → (j : ℕ) → k.lined ≡ true → j < locks k → ShowsLine k j (hall_after k first order).words (plain_of j order)
  lines_by first begins [] legal j lined lock = subst (λ (z : Hall). ShowsLine k j z.words empty_queue) (sym begins.is) record { tail = ap turn_at (zeros (words_of k) (tail_word_of k j)); links = λ t b. ap link_at (zeros (words_of k) (link_word_of k j t)) }
  lines_by first begins (m ∷ before) legal j lined lock =
      let s : Hall = hall_after k first before in
      let is = line_then k s (kept_by k first begins before legal.1) m.pass m.knew legal.0.pass (exact_by k first begins before legal.1) j lined lock m.operation legal.0.may in
      alike (after_operation k s m.pass m.knew m.operation).words s.words (plain_of j before) (lines_by first begins before legal.1 j lined lock) m.operation is
    where
      alike : (ws' ws : List ℕ) (q : Plain) → ShowsLine k j ws q → (o : Operation) → ShowsLine k j ws' (line_after j o (plain_at k j ws)) → ShowsLine k j ws' (line_after j o q)
      alike ws' ws q was o is = ⊎_elim
          (λ (z : (i : ℕ) × (c : QueueCall) × (o ≡ line i c)). subst (λ (x : Operation). ShowsLine k j ws' (line_after j x q)) (sym z.2) (called z.1 (z.0 == j) (subst (λ (x : Operation). ShowsLine k j ws' (line_after j x (plain_at k j ws))) z.2 is)))
          (λ quiet. subst (ShowsLine k j ws') (sym (quiet q)) (same (subst (ShowsLine k j ws') (quiet (plain_at k j ws)) is))) (line_or_quiet j o)
        where
          same : ShowsLine k j ws' (plain_at k j ws) → ShowsLine k j ws' q
          same is = record { tail = is.tail ∙ was.tail; links = λ t b. is.links t b ∙ was.links t b }

          called : (c : QueueCall) (b : Bool) → ShowsLine k j ws' (if b then plain_after (plain_at k j ws) c else plain_at k j ws) → ShowsLine k j ws' (if b then plain_after q c else q)
          called c true is = alike_after k j ws ws' q c was is
          called c false is = same is

pub line_words : HasLineWords
line_words k s d j lined lock = subst (λ (z : Hall). ShowsLine k j z.words (plain_of j d.order)) (sym d.is) (lines_by k d.first d.opens d.order d.legal j lined lock)
