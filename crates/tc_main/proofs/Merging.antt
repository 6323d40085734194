-- The logs of all packages, merged, are the history.
use Rattle.std.proofs.Common.{◌≡◌, ℕ, zero, suc, ◌+◌, ◌<◌, ◌==◌, Bool, true, false, not, cond, List, [], ◌∷◌, ◌++◌, length, map, filter, get_or, refl, sym, ap, ◌∙◌, subst, inl, inr, append_assoc, append-nil, add-zero, arith, Bor}
use Rattle.std.specs.Prelude.{All, Contains, nat_lt}
use Rattle.std.specs.List.{flat_map, range_with_len}
use Rattle.std.specs.List.Sorted.{IsNonDecreasingBy, IsPermutation}
use Rattle.std.proofs.lemmas.Bool.{lt-ltb, le-ltb, cases_lt}
use Rattle.std.proofs.lemmas.Bool.Decides.{eqb_tells}
use Rattle.std.proofs.lemmas.List.{get_or-map, length-map}
use Rattle.std.proofs.lemmas.List.Elements.{All-map}
use Rattle.std.proofs.lemmas.List.Kept.{IsNonDecreasingBy-filter}
use Rattle.std.proofs.lemmas.List.Folds.{flat_map-map}
use Rattle.std.proofs.lemmas.List.FromFn.{get_or-range_with_len}
use Rattle.std.proofs.lemmas.List.Sorted.{IsPermutation-refl, IsPermutation-sym, IsPermutation-trans, IsPermutation-map, IsPermutation-cons, IsPermutation-middle, IsPermutation-append_right, Contains-permutation, length_permutation}
use mathlib.Core.Option.{some}
use lib.ListN.{get_elem?}
use Rattle.atomic_table.proofs.Lists.{at_map}
use Rattle.tc_elf.specs.Shown.{Shown}
use Rattle.tc_journal.specs.History.{HasEachStamp, IsInOrder, of_thread}
use Rattle.tc_journal.specs.declared.block.Block.{Block}
use Rattle.tc_mutex_spec.specs.Machine.{start}
use Rattle.tc_mutex_spec.specs.Blocks.{end_after}
use Rattle.tc_segment.specs.View.{LockView}
use Rattle.tc_context.specs.View.{PackageView, bare}
use Rattle.tc_law.specs.Lawful.{Lawful}
use Rattle.tc_mutex_spec.proofs.ListLaws.{there, same_list}
use Rattle.tc_mutex_spec.proofs.Histories.{stamp_at, thread_at}
use Rattle.tc_report.specs.Outcome.{log_in, logs_of}
use Rattle.tc_report.proofs.Ranges.{by_number}
use Rattle.tc_report.specs.Logs.{Rises}
use Rattle.tc_lemmas.proofs.Lists.{at_itself, something_at}

-- ---- lists in parts

filter_all : (p : Block → Bool) (h : List Block) → ((i : ℕ) (b : Block) → get_elem? h i ≡ some b → p b ≡ true) → filter p h ≡ h
filter_all p [] all = refl
filter_all p (b ∷ h) all = ap (λ v. cond v (b ∷ filter p h) (filter p h)) (all 0 b refl) ∙ ap (λ l. b ∷ l) (filter_all p h (λ i. all (suc i)))

pub filter_none : (p : Block → Bool) (h : List Block) → ((i : ℕ) (b : Block) → get_elem? h i ≡ some b → p b ≡ false) → filter p h ≡ []
filter_none p [] none = refl
filter_none p (b ∷ h) none = ap (λ v. cond v (b ∷ filter p h) (filter p h)) (none 0 b refl) ∙ filter_none p h (λ i. none (suc i))

-- what passes the first test passes just one of the others
abbrev Splits : Bool → Bool → Bool → Type 0
Splits true true false = Unit {0}
Splits true false true = Unit {0}
Splits false false false = Unit {0}
Splits _ _ _ = ⊥

split : (p q r : Block → Bool) → ((b : Block) → Splits (p b) (q b) (r b)) → (h : List Block) → IsPermutation (filter p h) (filter q h ++ filter r h)
split p q r splits [] = IsPermutation-refl []
split p q r splits (b ∷ h) = go (p b) (q b) (r b) (splits b) (split p q r splits h)
  where
    go : (u v w : Bool) → Splits u v w → IsPermutation (filter p h) (filter q h ++ filter r h)
        → IsPermutation (cond u (b ∷ filter p h) (filter p h)) (cond v (b ∷ filter q h) (filter q h) ++ cond w (b ∷ filter r h) (filter r h))
    go true true false s rest = IsPermutation-cons b (filter p h) (filter q h ++ filter r h) rest
    go true false true s rest =
        IsPermutation-trans (b ∷ filter p h) (b ∷ (filter q h ++ filter r h)) (filter q h ++ b ∷ filter r h)
        (IsPermutation-cons b (filter p h) (filter q h ++ filter r h) rest)
        (IsPermutation-sym (filter q h ++ b ∷ filter r h) (b ∷ (filter q h ++ filter r h)) (IsPermutation-middle (filter q h) b (filter r h)))
    go false false false s rest = rest
    go true true true s rest = absurd s
    go true false false s rest = absurd s
    go false true true s rest = absurd s
    go false true false s rest = absurd s
    go false false true s rest = absurd s

-- the blocks of the threads from one on
abbrev is_from : ℕ → Block → Bool
is_from t b = not (nat_lt b.thread t)

splits_at : (a : ℕ) (b : Block) → Splits (is_from a b) (b.thread == a) (is_from (a + 1) b)
splits_at a b = elim (eqb_tells b.thread a) [
  | inl same ↦
      let here : nat_lt b.thread a ≡ false = le-ltb b.thread a (let e = same.1 in omega arith) in
      let past : nat_lt b.thread (a + 1) ≡ true = lt-ltb b.thread (a + 1) (let e = same.1 in omega arith) in
      subst (λ (z : Bool × Bool × Bool). Splits (not z.0) z.1 (not z.2)) (λ i. (sym here i, sym same.0 i, sym past i)) tt
  | inr other ↦ elim (cases_lt b.thread a) [
    | inl low ↦
        let here : nat_lt b.thread a ≡ true = lt-ltb b.thread a low in
        let past : nat_lt b.thread (a + 1) ≡ true = lt-ltb b.thread (a + 1) (omega (arith, low)) in
        subst (λ (z : Bool × Bool × Bool). Splits (not z.0) z.1 (not z.2)) (λ i. (sym here i, sym other.0 i, sym past i)) tt
    | inr high ↦
        let here : nat_lt b.thread a ≡ false = le-ltb b.thread a high in
        let past : nat_lt b.thread (a + 1) ≡ false = le-ltb b.thread (a + 1) (let ne = other.1 in omega (arith, high)) in
        subst (λ (z : Bool × Bool × Bool). Splits (not z.0) z.1 (not z.2)) (λ i. (sym here i, sym other.0 i, sym past i)) tt
  ]
]

-- they are those of the next n threads, and those of the threads behind them
parts : (h : List Block) (n a : ℕ) → IsPermutation (filter (is_from a) h) (flat_map (of_thread h) (range_with_len a n) ++ filter (is_from (a + n)) h)
parts h zero a = subst (λ k. IsPermutation (filter (is_from a) h) (filter (is_from k) h)) (sym (add-zero a)) (IsPermutation-refl (filter (is_from a) h))
parts h (suc n) a =
    let own = of_thread h a in
    let others = flat_map (of_thread h) (range_with_len (a + 1) n) in
    let last = filter (is_from (a + 1 + n)) h in
    let two : IsPermutation (filter (is_from a) h) (own ++ filter (is_from (a + 1)) h) = split (is_from a) (λ b. b.thread == a) (is_from (a + 1)) (splits_at a) h in
    let more : IsPermutation (own ++ filter (is_from (a + 1)) h) (own ++ (others ++ last)) = IsPermutation-append_right own (filter (is_from (a + 1)) h) (others ++ last) (parts h n (a + 1)) in
    let all : IsPermutation (filter (is_from a) h) (own ++ (others ++ last)) = IsPermutation-trans (filter (is_from a) h) (own ++ filter (is_from (a + 1)) h) (own ++ (others ++ last)) two more in
    let place : a + 1 + n ≡ a + suc n = omega arith in
    subst (IsPermutation (filter (is_from a) h)) (sym (append_assoc own others last) ∙ ap (λ k. (own ++ others) ++ filter (is_from k) h) place) all

-- ---- lists that have the same items

contains_at : {A : Type 0} (l : List A) (i : ℕ) (a : A) → get_elem? l i ≡ some a → Contains l a
contains_at l i a e = (let x = there l i a a e in (i, x.0, x.1))

at_contains : {A : Type 0} (l : List A) (a : A) → (c : Contains l a) → get_elem? l c.0 ≡ some a
at_contains l a c = (let x = something_at l c.0 c.1 in x.1 ∙ ap some (sym (there l c.0 x.0 a x.1).1 ∙ c.2))

-- in a list in the order of stamps each block's stamp is its place
place_of : (g : List Block) → IsInOrder g → (i : ℕ) (b : Block) → get_elem? g i ≡ some b → b.stamp ≡ i
place_of g order i b e =
    let stamps = map (λ (x : Block). x.stamp) g in
    let here = there stamps i b.stamp 0 (at_map (λ (x : Block). x.stamp) g i b e) in
    let at : get_or (range_with_len 0 (length g)) i 0 ≡ 0 + i = get_or-range_with_len 0 (length g) i 0 (there g i b b e).0 in
    let same : get_or stamps i 0 ≡ get_or (range_with_len 0 (length g)) i 0 = ap (λ l. get_or l i 0) order in
    omega (arith, here.1, same, at)

-- ---- the merged logs

-- the logs that are lent have the same blocks
pub lent : (logs : List (Bor (List Block))) (packages : List PackageView) → map (λ (log : Bor (List Block)). log.now) logs ≡ map log_in packages → flat_map (λ (log : Bor (List Block)). log.now) logs ≡ logs_of packages
lent logs packages same =
    sym (flat_map-map (λ (l : List Block). l) (λ (log : Bor (List Block)). log.now) logs)
    ∙ ap (flat_map (λ (l : List Block). l)) same
    ∙ flat_map-map (λ (l : List Block). l) log_in packages

-- where the stamps of all logs of the packages rise, those of the lent logs do
pub lent_rise : (logs : List (Bor (List Block))) (packages : List PackageView) → map (λ (log : Bor (List Block)). log.now) logs ≡ map log_in packages → All (λ (p : PackageView). IsNonDecreasingBy (λ (b : Block). b.stamp) (log_in p)) packages → All Rises logs
lent_rise logs packages same all k d low =
    let now : Bor (List Block) → List Block = λ log. log.now in
    let up : List Block → Type 0 = IsNonDecreasingBy (λ (b : Block). b.stamp) in
    let each : All up (map now logs) = subst (All up) (sym same) (All-map up log_in packages all) in
    subst up (get_or-map now logs k d d.now low) (each k d.now (omega (arith, low, length-map logs now)))

module _ (image : Shown) (fuel limit : ℕ) (h : List Block) (packages : List PackageView) (states : List LockView) (law : Lawful image fuel limit h (map bare packages) states) where
  count : length packages ≡ length image.entries
  count = sym (length-map packages bare) ∙ law.all_packages

  threads : (i : ℕ) (b : Block) → get_elem? h i ≡ some b → b.thread < length packages
  threads i b e = (let low = thread_at image [] h (start image fuel) (end_after image fuel h) law.tells i b e in omega (arith, low, count))

  logs : logs_of packages ≡ flat_map (of_thread h) (range_with_len 0 (length packages))
  logs =
      let one_by_one = by_number log_in (of_thread h) 0 packages (λ i j p e s. let same : i ≡ j = omega (arith, s) in (law.packages_after i (bare p) (at_map bare packages i p e)).follows.log ∙ ap (of_thread h) same) in
      sym (flat_map-map (λ (l : List Block). l) log_in packages) ∙ ap (flat_map (λ (l : List Block). l)) one_by_one ∙ flat_map-map (λ (l : List Block). l) (of_thread h) (range_with_len 0 (length packages))

  -- the logs have the blocks of the history
  shared_out : IsPermutation h (logs_of packages)
  shared_out =
      let whole : filter (is_from 0) h ≡ h = filter_all (is_from 0) h (λ i b e. ap not (le-ltb b.thread 0 (omega arith))) in
      let none : filter (is_from (0 + length packages)) h ≡ [] = filter_none (is_from (0 + length packages)) h (λ i b e. ap not (lt-ltb b.thread (0 + length packages) (omega (arith, threads i b e)))) in
      let all = flat_map (of_thread h) (range_with_len 0 (length packages)) in
      subst (λ (z : List Block × List Block). IsPermutation z.0 z.1) (λ i. (whole i, (ap (λ l. all ++ l) none ∙ append-nil all ∙ sym logs) i)) (parts h (length packages) 0)

  stamp_is : (i : ℕ) (b : Block) → get_elem? h i ≡ some b → b.stamp ≡ i
  stamp_is i b e = omega (arith, stamp_at 0 h i b law.history e)

  -- the stamps of its blocks rise, and so do those of each log, which has some of them
  rises : IsNonDecreasingBy (λ (b : Block). b.stamp) h
  rises i j d le low = omega (arith, stamp_is i (get_or h i d) (at_itself h i d (omega (arith, le, low))), stamp_is j (get_or h j d) (at_itself h j d low), le)

  pub logs_rise : All (λ (p : PackageView). IsNonDecreasingBy (λ (b : Block). b.stamp) (log_in p)) packages
  logs_rise k d low =
      let p = get_or packages k d in
      let log : log_in p ≡ of_thread h k = (law.packages_after k (bare p) (at_map bare packages k p (at_itself packages k d low))).follows.log in
      subst (IsNonDecreasingBy (λ (b : Block). b.stamp)) (sym log) (IsNonDecreasingBy-filter (λ (b : Block). b.stamp) (λ b. b.thread == k) h rises)

  -- and the logs have as many
  pub as_many : length (logs_of packages) ≡ length h
  as_many = length_permutation h (logs_of packages) shared_out

  pub each_stamp : HasEachStamp (logs_of packages)
  each_stamp stamp lt =
      let here = something_at h stamp (omega (arith, length_permutation h (logs_of packages) shared_out)) in
      let of : Block → ℕ = λ b. b.stamp in
      let at : get_elem? (map of h) stamp ≡ some stamp = at_map of h stamp here.0 here.1 ∙ ap some (stamp_is stamp here.0 here.1) in
      Contains-permutation (map of h) (map of (logs_of packages)) stamp (IsPermutation-map of h (logs_of packages) shared_out) (contains_at (map of h) stamp stamp at)

  module _ (g : List Block) (blocks : IsPermutation (logs_of packages) g) (order : IsInOrder g) where
    same_blocks : IsPermutation h g
    same_blocks = IsPermutation-trans h (logs_of packages) g shared_out blocks

    in_history : (i : ℕ) (b : Block) → get_elem? g i ≡ some b → get_elem? h i ≡ some b
    in_history i b e =
        let c = Contains-permutation g h b (IsPermutation-sym h g same_blocks) (contains_at g i b e) in
        let there : get_elem? h c.0 ≡ some b = at_contains h b c in
        let place : c.0 ≡ i = sym (stamp_is c.0 b there) ∙ place_of g order i b e in
        ap (get_elem? h) (sym place) ∙ there

    in_merged : (i : ℕ) (b : Block) → get_elem? h i ≡ some b → get_elem? g i ≡ some b
    in_merged i b e =
        let c = Contains-permutation h g b same_blocks (contains_at h i b e) in
        let there : get_elem? g c.0 ≡ some b = at_contains g b c in
        let place : c.0 ≡ i = sym (place_of g order c.0 b there) ∙ stamp_is i b e in
        ap (get_elem? g) (sym place) ∙ there

    pub one_history : g ≡ h
    one_history = same_list g h in_history in_merged
