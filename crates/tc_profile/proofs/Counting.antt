-- Counts over a list that grows at its end.
use Rattle.std.proofs.Common.{◌≡◌, ℕ, suc, ◌+◌, ◌≤◌, ◌-◌, ◌&&◌, nat_lt, max, Bool, true, false, List, [], ◌∷◌, ◌++◌, drop, length, length-append, refl, sym, ap, ◌∙◌, arith, append_assoc, append-nil}
use Rattle.std.specs.Prelude.{Option, Some, None, slice_get, filter, if◌then◌else◌}
use Rattle.std.proofs.lemmas.Bool.Decides.{nat_tests}
use Rattle.std.proofs.lemmas.List.Elements.{filter-append}
use Rattle.tc_journal.specs.Batch.{begins, is_adopted, run_after, run_from}
use Rattle.tc_journal.specs.declared.block.Block.{Block}
use Rattle.tc_profile.specs.Profile.{Placed, changes_behind, greatest, is_other, one_if, placed_behind, each_placed}
use Rattle.tc_profile.specs.Tally.{last_in}

-- the last thing of a list with one more
at_end : {A : Type 0} (xs : List A) (x : A) → slice_get (xs ++ x ∷ []) (length xs) ≡ Some x
at_end [] x = refl
at_end (y ∷ xs) x = at_end xs x

pub last-push : {A : Type 0} (xs : List A) (x : A) → slice_get (xs ++ x ∷ []) (length (xs ++ x ∷ []) - 1) ≡ Some x
last-push xs x = ap (slice_get (xs ++ x ∷ [])) (let e : length (xs ++ x ∷ []) - 1 ≡ length xs = omega (arith, length-append xs (x ∷ [])) in e) ∙ at_end xs x

-- what passes a test, with one more
pub filter-push : {A : Type 0} (test : A → Bool) (xs : List A) (x : A) → filter test (xs ++ x ∷ []) ≡ filter test xs ++ (if test x then x ∷ [] else [])
filter-push test xs x = filter-append test xs (x ∷ [])

pub kept-push : {A : Type 0} (test : A → Bool) (xs : List A) (x : A) → length (filter test (xs ++ x ∷ [])) ≡ length (filter test xs) + one_if (test x)
kept-push test xs x = ap length (filter-push test xs x) ∙ by (test x)
  where
    by : (v : Bool) → length (filter test xs ++ (if v then x ∷ [] else [])) ≡ length (filter test xs) + one_if v
    by true = length-append (filter test xs) (x ∷ [])
    by false = length-append (filter test xs) []

pub kept-le : {A : Type 0} (test : A → Bool) (xs : List A) → length (filter test xs) ≤ length xs
kept-le test [] = omega arith
kept-le test (x ∷ xs) = by (test x) (kept-le test xs)
  where
    by : (v : Bool) → length (filter test xs) ≤ length xs → length (if v then x ∷ filter test xs else filter test xs) ≤ length (x ∷ xs)
    by true le = omega (arith, le)
    by false le = omega (arith, le)

-- the same from the second thing on
pub later_kept-push : {A : Type 0} (test : A → Bool) (xs : List A) (x : A) → length (filter test (drop 1 (xs ++ x ∷ []))) ≡ length (filter test (drop 1 xs)) + one_if (nat_lt 0 (length xs) && test x)
later_kept-push test [] x = refl
later_kept-push test (y ∷ xs) x =
    let some : nat_lt 0 (length (y ∷ xs)) ≡ true = grind (arith, nat_tests) in
    kept-push test xs x ∙ ap (λ v. length (filter test xs) + one_if (v && test x)) (sym some)

pub later_kept-le : {A : Type 0} (test : A → Bool) (xs : List A) → length (filter test (drop 1 xs)) ≤ length xs
later_kept-le test [] = omega arith
later_kept-le test (x ∷ xs) = omega (arith, kept-le test xs)

-- ---- each block with those before it

-- a block behind these
abbrev pub put : List Block → Block → Placed
put before b = record { before = before; block = b }

placed_behind-push : (before bs : List Block) (b : Block) → placed_behind before (bs ++ b ∷ []) ≡ placed_behind before bs ++ put (before ++ bs) b ∷ []
placed_behind-push before [] b = ap (λ l. put l b ∷ []) (sym (append-nil before))
placed_behind-push before (x ∷ bs) b =
    ap (λ ps. put before x ∷ ps) (placed_behind-push (before ++ x ∷ []) bs b
    ∙ ap (λ l. placed_behind (before ++ x ∷ []) bs ++ put l b ∷ []) (append_assoc before (x ∷ []) bs))

pub each_placed-push : (h : List Block) (b : Block) → each_placed (h ++ b ∷ []) ≡ each_placed h ++ put h b ∷ []
each_placed-push h b = placed_behind-push [] h b

placed_behind-length : (before bs : List Block) → length (placed_behind before bs) ≡ length bs
placed_behind-length before [] = refl
placed_behind-length before (b ∷ bs) = ap suc (placed_behind-length (before ++ b ∷ []) bs)

pub each_placed-length : (h : List Block) → length (each_placed h) ≡ length h
each_placed-length h = placed_behind-length [] h

-- ---- numbers that change

abbrev last_behind : Option ℕ → List ℕ → Option ℕ
last_behind before [] = before
last_behind before (n ∷ ns) = last_behind (Some n) ns

last_behind-is : (before : Option ℕ) (n : ℕ) (ns : List ℕ) → last_behind before (n ∷ ns) ≡ slice_get (n ∷ ns) (length ns)
last_behind-is before n [] = refl
last_behind-is before n (m ∷ ns) = last_behind-is (Some n) m ns

last_behind-none : (ns : List ℕ) → last_behind None ns ≡ last_in ns
last_behind-none [] = refl
last_behind-none (n ∷ ns) = last_behind-is None n ns ∙ ap (slice_get (n ∷ ns)) (let e : length ns ≡ length (n ∷ ns) - 1 = omega arith in e)

changes_behind-push : (before : Option ℕ) (ns : List ℕ) (n : ℕ) → changes_behind before (ns ++ n ∷ []) ≡ changes_behind before ns + one_if (is_other (last_behind before ns) n)
changes_behind-push before [] n = omega arith
changes_behind-push before (m ∷ ns) n = omega (arith, changes_behind-push (Some m) ns n)

pub changes_in-push : (ns : List ℕ) (n : ℕ) → changes_behind None (ns ++ n ∷ []) ≡ changes_behind None ns + one_if (is_other (last_in ns) n)
changes_in-push ns n = changes_behind-push None ns n ∙ ap (λ o. changes_behind None ns + one_if (is_other o n)) (last_behind-none ns)

pub changes_behind-le : (before : Option ℕ) (ns : List ℕ) → changes_behind before ns ≤ length ns
changes_behind-le before [] = omega arith
changes_behind-le before (n ∷ ns) = by (is_other before n) (changes_behind-le (Some n) ns)
  where
    by : (v : Bool) → changes_behind (Some n) ns ≤ length ns → one_if v + changes_behind (Some n) ns ≤ suc (length ns)
    by true le = omega arith
    by false le = omega arith

-- ---- streaks

streak_le : (begun adopted : Bool) (n : ℕ) → (if begun then (if adopted then n + 1 else 0) else n) ≤ n + 1
streak_le true true n = omega arith
streak_le true false n = omega arith
streak_le false a n = omega arith

pub run_from-le : (lock n : ℕ) (bs : List Block) → run_from lock n bs ≤ n + length bs
run_from-le lock n [] = omega arith
run_from-le lock n (b ∷ bs) = omega (arith, run_from-le lock (run_after lock n b) bs, streak_le (begins lock b) (is_adopted b.kind) n)

max_assoc : (a b c : ℕ) → max a (max b c) ≡ max (max a b) c
max_assoc a b c = omega arith

pub greatest-push : (ns : List ℕ) (n : ℕ) → greatest (ns ++ n ∷ []) ≡ max (greatest ns) n
greatest-push [] n = (let e : max n 0 ≡ max 0 n = omega arith in e)
greatest-push (m ∷ ns) n = ap (max m) (greatest-push ns n) ∙ max_assoc m (greatest ns) n
