-- A row of places, into which those blocks of logs are put whose stamps follow one another.
use Rattle.std.proofs.Common.{◌≡◌, ℕ, zero, suc, ◌+◌, ◌-◌, ◌<◌, ◌≤◌, ◌⊎◌, inl, inr, Bool, true, false, not, cond, List, [], ◌∷◌, ◌++◌, length, map, filter, take, drop, slice_index_or, length-append, length-drop, append-nil, refl, sym, ap, subst, ◌∙◌, arith, Bor}
use Rattle.std.specs.Prelude.{All, Contains, nat_lt, ◌&&◌, slice_set}
use Rattle.std.specs.List.Sorted.{IsPartitionPoint, IsPermutation}
use Rattle.std.proofs.lemmas.Bool.{lt-ltb, le-ltb}
use Rattle.std.proofs.lemmas.List.{get_or-map, get_or-set_same, get_or-set_other, get_or-take, get_or-drop, get_or_default, length-set, same_lists, take-append-drop, take_more, length-take-le}
use Rattle.std.proofs.lemmas.List.Elements.{All-head, All-tail, All-filter, filter-append, filter_passes, Contains-get_or}
use Rattle.std.proofs.lemmas.List.Concat.{flat_map-append}
use Rattle.std.proofs.lemmas.List.FromFn.{get_or-range_with_len}
use Rattle.std.proofs.lemmas.List.Sorted.{Contains-permutation}
use borrow.Author.Tests.{ltb-true, ltb-false}
use mathlib.Core.Logic.{dite}
use native.Mathlib.Decide.{ℕ_discrete}
use Rattle.tc_journal.specs.declared.block.Block.{Block}
use Rattle.tc_journal.specs.History.{HasEachStamp, IsInOrder, placed}
use Rattle.tc_journal.proofs.Merged.{length_placed, placed_all}
use Rattle.tc_report.specs.Logs.{blocks_in, is_between, put_from}

-- ---- a log that is cut by halving

filter_all : {X : Type 0} (p : X → Bool) (xs : List X) → All (λ x. p x ≡ true) xs → filter p xs ≡ xs
filter_all p [] all = refl
filter_all p (x ∷ xs) all =
    ap (λ v. cond v (x ∷ filter p xs) (filter p xs)) (All-head (λ y. p y ≡ true) x xs all)
    ∙ ap (λ l. x ∷ l) (filter_all p xs (All-tail (λ y. p y ≡ true) x xs all))

filter_none : {X : Type 0} (p : X → Bool) (xs : List X) → All (λ x. p x ≡ false) xs → filter p xs ≡ []
filter_none p [] none = refl
filter_none p (x ∷ xs) none =
    ap (λ v. cond v (x ∷ filter p xs) (filter p xs)) (All-head (λ y. p y ≡ false) x xs none)
    ∙ filter_none p xs (All-tail (λ y. p y ≡ false) x xs none)

filter_both : {X : Type 0} (p q : X → Bool) (xs : List X) → filter q (filter p xs) ≡ filter (λ x. p x && q x) xs
filter_both p q [] = refl
filter_both {X = X} p q (x ∷ xs) = here (p x) (filter_both p q xs)
  where
    here : (u : Bool) → filter q (filter p xs) ≡ filter (λ y. p y && q y) xs → filter q (cond u (x ∷ filter p xs) (filter p xs)) ≡ cond (u && q x) (x ∷ filter (λ y. p y && q y) xs) (filter (λ y. p y && q y) xs)
    here true rest = ap (λ (l : List X). cond (q x) (x ∷ l) l) rest
    here false rest = rest

module _ {X : Type 0} (p : X → Bool) (xs : List X) (i : ℕ) (point : IsPartitionPoint (λ y. p y ≡ true) (λ y. p y ≡ false) xs i) (low : i ≤ length xs) where
  front : All (λ y. p y ≡ true) (take i xs)
  front k d h =
      let in_front : k < i = omega (arith, h, length-take-le i xs low) in
      subst (λ y. p y ≡ true) (sym (get_or-take i xs k d in_front)) (point.0 k d (omega arith) in_front)

  back : All (λ y. p y ≡ false) (drop i xs)
  back k d h = subst (λ y. p y ≡ false) (sym (get_or-drop i xs k d)) (point.1 (i + k) d (omega arith) (omega (arith, h, length-drop i xs)))

  passed : filter p xs ≡ take i xs
  passed =
      ap (filter p) (sym (take-append-drop i xs)) ∙ filter-append p (take i xs) (drop i xs)
      ∙ (λ k. filter_all p (take i xs) front k ++ filter_none p (drop i xs) back k)
      ∙ append-nil (take i xs)

  failed : filter (λ x. not (p x)) xs ≡ drop i xs
  failed =
      let other : X → Bool = λ x. not (p x) in
      ap (filter other) (sym (take-append-drop i xs)) ∙ filter-append other (take i xs) (drop i xs)
      ∙ (λ k. filter_none other (take i xs) (λ j d h. ap not (front j d h)) k ++ filter_all other (drop i xs) (λ j d h. ap not (back j d h)) k)

-- the blocks between two places that are found by halving
pub between_is : (from to : ℕ) (log : List Block) (i j : ℕ) → i ≤ length log → j ≤ length (drop i log)
    → IsPartitionPoint (λ b. nat_lt b.stamp from ≡ true) (λ b. nat_lt b.stamp from ≡ false) log i
    → IsPartitionPoint (λ b. nat_lt b.stamp to ≡ true) (λ b. nat_lt b.stamp to ≡ false) (drop i log) j
    → take j (drop i log) ≡ filter (is_between from to) log
between_is from to log i j low within one two =
    let early : Block → Bool = λ b. nat_lt b.stamp from in
    let before : Block → Bool = λ b. nat_lt b.stamp to in
    sym (passed before (drop i log) j two within)
    ∙ ap (filter before) (sym (failed early log i one low))
    ∙ filter_both (λ b. not (early b)) before log

-- ---- blocks that are put into a row

abbrev stamps : List Block → List ℕ
stamps bs = map (λ b. b.stamp) bs

pub put_more : (from : ℕ) (row xs ys : List Block) → put_from from (put_from from row xs) ys ≡ put_from from row (xs ++ ys)
put_more from row [] ys = refl
put_more from row (x ∷ xs) ys = put_more from (slice_set row (x.stamp - from) x) xs ys

pub length_put : (from : ℕ) (row bs : List Block) → length (put_from from row bs) ≡ length row
length_put from row [] = refl
length_put from row (b ∷ bs) = length_put from (slice_set row (b.stamp - from) b) bs ∙ length-set row (b.stamp - from) b

-- a block that has a place in a row of so many, which begins at this stamp
abbrev pub HasPlace : ℕ → ℕ → Block → Type 0
HasPlace from n b = (from ≤ b.stamp) × (b.stamp < from + n)

both_true : (u v : Bool) → not u && v ≡ true → (u ≡ false) × (v ≡ true)
both_true true v e = absurd (let f : false ≡ true = e in cc)
both_true false v e = (refl, e)

place_of : (from n : ℕ) (b : Block) → is_between from (from + n) b ≡ true → HasPlace from n b
place_of from n b e =
    let two = both_true (nat_lt b.stamp from) (nat_lt b.stamp (from + n)) e in
    (ltb-false b.stamp from two.0, ltb-true b.stamp (from + n) two.1)

has_place : (from n : ℕ) (b : Block) → HasPlace from n b → is_between from (from + n) b ≡ true
has_place from n b h = (λ i. not (le-ltb b.stamp from h.0 i) && lt-ltb b.stamp (from + n) h.1 i)

pub have_places : (from n : ℕ) (bs : List Block) → All (HasPlace from n) (filter (is_between from (from + n)) bs)
have_places from n bs = λ k d low. place_of from n (slice_index_or (filter (is_between from (from + n)) bs) k d) (filter_passes (is_between from (from + n)) bs k d low)

-- ---- the history at the row's places

found : (x : ℕ) (xs : List ℕ) (k i : ℕ) → i < length (x ∷ xs) → slice_index_or (x ∷ xs) i k ≡ k → (x ≡ k) ⊎ Contains xs k
found x xs k zero h e = inl e
found x xs k (suc i) h e = inr (i, omega arith, e)

first_or_rest : (x : ℕ) (xs : List ℕ) (k : ℕ) → Contains (x ∷ xs) k → (x ≡ k) ⊎ Contains xs k
first_or_rest x xs k h = found x xs k h.0 h.1 h.2

behind : (x : ℕ) (xs : List ℕ) (k : ℕ) → Contains xs k → Contains (x ∷ xs) k
behind x xs k h = (suc h.0, omega (arith, h.1), h.2)

-- a stamp of a block that is kept
kept : (p : Block → Bool) (bs : List Block) (k : ℕ) → ((b : Block) → b.stamp ≡ k → p b ≡ true) → Contains (stamps bs) k → Contains (stamps (filter p bs)) k
kept p [] k is has = absurd (omega (arith, has.1))
kept p (b ∷ bs) k is has = elim (first_or_rest b.stamp (stamps bs) k has) [
  | inl first ↦ subst (λ v. Contains (stamps (cond v (b ∷ filter p bs) (filter p bs))) k) (sym (is b first)) (0, omega arith, first)
  | inr rest ↦ one (p b) (kept p bs k is rest)
]
  where
    one : (v : Bool) → Contains (stamps (filter p bs)) k → Contains (stamps (cond v (b ∷ filter p bs) (filter p bs))) k
    one true more = behind b.stamp (stamps (filter p bs)) k more
    one false more = more

-- the block stands at the index of its stamp
abbrev Stands : List Block → Block → Type 0
Stands history b = (d : Block) → slice_index_or history b.stamp d ≡ b

stands : (history : List Block) (b : Block) → IsInOrder history → Contains history b → Stands history b
stands history b order has d =
    let i = has.0 in
    let there : (slice_index_or history i b).stamp ≡ 0 + i = sym (get_or-map (λ (x : Block). x.stamp) history i b 0 has.1) ∙ (ap (λ ks. slice_index_or ks i 0) order ∙ get_or-range_with_len 0 (length history) i 0 has.1) in
    let at : b.stamp ≡ i = omega (arith, there, ap (λ (x : Block). x.stamp) has.2) in
    ap (λ k. slice_index_or history k d) at ∙ (get_or_default history i d b has.1 ∙ has.2)

all_stand : (bs history : List Block) → IsPermutation bs history → IsInOrder history → All (Stands history) bs
all_stand bs history same order = λ k d low. stands history (slice_index_or bs k d) order (Contains-permutation bs history (slice_index_or bs k d) same (Contains-get_or bs k d low))

module _ (history : List Block) (from : ℕ) where
  -- a place that has its block, or to which one is still to come, after one block was put
  put_one : (row : List Block) (b : Block) (bs : List Block) (k : ℕ) (d : Block) → HasPlace from (length row) b → Stands history b → (slice_index_or row k d ≡ slice_index_or history (from + k) d) ⊎ Contains (stamps (b ∷ bs)) (from + k) → (slice_index_or (slice_set row (b.stamp - from) b) k d ≡ slice_index_or history (from + k) d) ⊎ Contains (stamps bs) (from + k)
  put_one row b bs k d place stand before = dite (ℕ_discrete k (b.stamp - from))
      (λ same.
      let at : b.stamp ≡ from + k = omega (arith, place.0, same) in
      inl (subst (λ i. slice_index_or (slice_set row (b.stamp - from) b) i d ≡ slice_index_or history (from + k) d) (sym same)
      (get_or-set_same row (b.stamp - from) b d (omega (arith, place.0, place.1)) ∙ sym (stand d) ∙ ap (λ i. slice_index_or history i d) at)))
      (λ other. elim before [
        | inl there ↦ inl (get_or-set_other row (b.stamp - from) k b d other ∙ there)
        | inr coming ↦ elim (first_or_rest b.stamp (stamps bs) (from + k) coming) [
          | inl first ↦ absurd (other (let e : k ≡ b.stamp - from = omega (arith, first) in e))
          | inr rest ↦ inr rest
        ]
      ])

  put_all : (row bs : List Block) (k : ℕ) (d : Block) (n : ℕ) → length row ≡ n → All (HasPlace from n) bs → All (Stands history) bs → (slice_index_or row k d ≡ slice_index_or history (from + k) d) ⊎ Contains (stamps bs) (from + k) → slice_index_or (put_from from row bs) k d ≡ slice_index_or history (from + k) d
  put_all row [] k d n long places stand (inl there) = there
  put_all row [] k d n long places stand (inr coming) = absurd (omega (arith, coming.1))
  put_all row (b ∷ bs) k d n long places stand before =
      let place : HasPlace from (length row) b = subst (λ m. HasPlace from m b) (sym long) (All-head (HasPlace from n) b bs places) in
      put_all (slice_set row (b.stamp - from) b) bs k d n (length-set row (b.stamp - from) b ∙ long) (All-tail (HasPlace from n) b bs places) (All-tail (Stands history) b bs stand)
      (put_one row b bs k d place (All-head (Stands history) b bs stand) before)

-- a row that is full has a piece of the history
pub full_row : (row bs : List Block) (from n : ℕ) → length row ≡ n → HasEachStamp bs → from + n ≤ length bs → put_from from row (filter (is_between from (from + n)) bs) ≡ take n (drop from (placed bs bs))
full_row row bs from n full each within =
    let history = placed bs bs in
    let kept_ones = filter (is_between from (from + n)) bs in
    let all : IsPermutation bs history × IsInOrder history = placed_all bs bs each refl in
    let long : length history ≡ length bs = length_placed bs bs in
    let rest : n ≤ length (drop from history) = omega (arith, length-drop from history, long, within) in
    let filled : length (put_from from row kept_ones) ≡ n = length_put from row kept_ones ∙ full in
    same_lists (put_from from row kept_ones) (take n (drop from history)) (filled ∙ sym (length-take-le n (drop from history) rest)) (λ k d low.
    let few : k < n = omega (arith, low, filled) in
    put_all history from row kept_ones k d n full (have_places from n bs) (All-filter (is_between from (from + n)) (Stands history) bs (all_stand bs history all.0 all.1))
    (inr (kept (is_between from (from + n)) bs (from + k) (λ b e. has_place from n b (omega (arith, e), omega (arith, e, few))) (each (from + k) (omega (arith, few, within)))))
    ∙ sym (get_or-take n (drop from history) k d few ∙ get_or-drop from history k d))

-- ---- the blocks of logs

-- one more log
pub blocks_more : (logs : List (Bor (List Block))) (i : ℕ) (log : Bor (List Block)) → i < length logs → log ≡ slice_index_or logs i log → blocks_in (take (i + 1) logs) ≡ blocks_in (take i logs) ++ log.now
blocks_more logs i log low is =
    ap blocks_in (take_more logs i log low ∙ ap (λ l. take i logs ++ l ∷ []) (sym is))
    ∙ flat_map-append (λ (l : Bor (List Block)). l.now) (take i logs) (log ∷ [])
    ∙ ap (λ bs. blocks_in (take i logs) ++ bs) (append-nil log.now)

pub count_more : (logs : List (Bor (List Block))) (i : ℕ) (log : Bor (List Block)) → i < length logs → log ≡ slice_index_or logs i log → length (blocks_in (take (i + 1) logs)) ≡ length (blocks_in (take i logs)) + length log.now
count_more logs i log low is =
    ap (λ (bs : List Block). length bs) (blocks_more logs i log low is) ∙ length-append (blocks_in (take i logs)) log.now

-- no more than in all logs
pub count_within : (logs : List (Bor (List Block))) (i : ℕ) → length (blocks_in (take i logs)) ≤ length (blocks_in logs)
count_within logs i =
    let of : Bor (List Block) → List Block = λ log. log.now in
    let parts : blocks_in logs ≡ blocks_in (take i logs) ++ blocks_in (drop i logs) = ap blocks_in (sym (take-append-drop i logs)) ∙ flat_map-append of (take i logs) (drop i logs) in
    omega (arith, ap (λ (bs : List Block). length bs) parts, length-append (blocks_in (take i logs)) (blocks_in (drop i logs)))
