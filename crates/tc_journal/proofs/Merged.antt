-- Blocks that are put at the places of their stamps, where each stamp is there, are in order.
use Rattle.std.proofs.Common.{◌≡◌, ℕ, zero, suc, ◌+◌, ◌<◌, ◌≤◌, ◌⊎◌, inl, inr, List, [], ◌∷◌, ◌++◌, length, map, take, slice_index_or, refl, sym, ap, subst, ◌∙◌, arith, Bor}
use Rattle.std.specs.Prelude.{All, Contains, Vec, slice_set}
use Rattle.std.specs.Global.{Global}
use Rattle.std.specs.List.{flat_map, range_with_len, remove}
use Rattle.std.specs.List.Sorted.{IsPermutation}
use Rattle.std.proofs.lemmas.List.Sorted.{Contains-permutation, IsPermutation-map, IsPermutation-refl, IsPermutation-cons, IsPermutation-trans, IsPermutation-remove, length_permutation}
use Rattle.std.proofs.lemmas.List.{length-map, length-set, get_or-map, get_or-set_same, get_or-set_other, get_or_default, same_lists}
use Rattle.std.proofs.lemmas.List.Elements.{All-head, All-tail, Contains-get_or}
use Rattle.std.proofs.lemmas.List.FromFn.{get_or-range_with_len}
use Rattle.std.proofs.lemmas.List.Concat.{get_or-flat_map}
use Rattle.std.proofs.lemmas.List.Folds.{flat_map-map, length-flat_map-take}
use mathlib.Core.Logic.{dite}
use native.Mathlib.Decide.{ℕ_discrete}
use Rattle.tc_journal.specs.declared.block.Block.{Block}
use Rattle.tc_journal.specs.History.{HasEachStamp, IsInOrder, all_blocks, placed}

-- n numbers from a on are among these
abbrev Covers : ℕ → ℕ → List ℕ → Type 0
Covers a n xs = (k : ℕ) → a ≤ k → k < a + n → Contains xs k

abbrev stamps : List Block → List ℕ
stamps bs = map (λ b. b.stamp) bs

found : (x : ℕ) (xs : List ℕ) (k i : ℕ) → i < length (x ∷ xs) → slice_index_or (x ∷ xs) i k ≡ k → (x ≡ k) ⊎ Contains xs k
found x xs k zero h e = inl e
found x xs k (suc i) h e = inr (i, omega arith, e)

first_or_rest : (x : ℕ) (xs : List ℕ) (k : ℕ) → Contains (x ∷ xs) k → (x ≡ k) ⊎ Contains xs k
first_or_rest x xs k h = found x xs k h.0 h.1 h.2

-- the block of the least stamp, and the others have the other stamps
record Parted (a n : ℕ) (xs : List Block) : Type 0 where
  first : Block
  rest : List Block
  same : IsPermutation xs (first ∷ rest)
  least : first.stamp ≡ a
  long : length rest ≡ n
  covers : Covers (a + 1) n (stamps rest)

parted_at : (a n : ℕ) (xs : List Block) (b : Block) (rest : List Block) → length xs ≡ suc n → Covers a (suc n) (stamps xs) → IsPermutation xs (b ∷ rest) → b.stamp ≡ a → Parted a n xs
parted_at a n xs b rest long covers same least = record {
  first = b;
  rest = rest;
  same = same;
  least = least;
  long = omega (arith, length_permutation xs (b ∷ rest) same, long);
  covers = λ k h small. elim (first_or_rest b.stamp (stamps rest) k (Contains-permutation (stamps xs) (stamps (b ∷ rest)) k (IsPermutation-map (λ b. b.stamp) xs (b ∷ rest) same) (covers k (omega arith) (omega arith)))) [
    | inl first ↦ absurd (omega (arith, first, least))
    | inr other ↦ other
  ];
}

parted : (a n : ℕ) (xs : List Block) (d : Block) → length xs ≡ suc n → Covers a (suc n) (stamps xs) → Parted a n xs
parted a n xs d long covers =
    let least = covers a (omega arith) (omega arith) in
    let i = least.0 in
    let low : i < length xs = omega (arith, least.1, length-map xs (λ (b : Block). b.stamp)) in
    let b = slice_index_or xs i d in
    parted_at a n xs b (remove xs i) long covers (IsPermutation-remove xs i b low (get_or_default xs i d b low)) (sym (get_or-map (λ (b : Block). b.stamp) xs i d a low) ∙ least.2)

-- blocks that have these stamps, in the order of their stamps
record Ordered (a n : ℕ) (xs : List Block) : Type 0 where
  history : List Block
  same : IsPermutation xs history
  order : stamps history ≡ range_with_len a n

ordered : (a n : ℕ) (xs : List Block) → length xs ≡ n → Covers a n (stamps xs) → Ordered a n xs
ordered a zero [] long covers = record { history = []; same = IsPermutation-refl []; order = refl }
ordered a zero (x ∷ xs) long covers = absurd (omega arith)
ordered a (suc n) [] long covers = absurd (omega arith)
ordered a (suc n) (x ∷ xs) long covers =
    let p = parted a n (x ∷ xs) x long covers in
    let rest = ordered (a + 1) n p.rest p.long p.covers in
    record {
      history = p.first ∷ rest.history;
      same = IsPermutation-trans (x ∷ xs) (p.first ∷ p.rest) (p.first ∷ rest.history) p.same (IsPermutation-cons p.first p.rest rest.history rest.same);
      order = ap (λ k. k ∷ stamps rest.history) p.least ∙ ap (λ ks. a ∷ ks) rest.order;
    }

-- the block stands at the place of its stamp
abbrev Stands : List Block → Block → Type 0
Stands history b = (b.stamp < length history) × ((d : Block) → slice_index_or history b.stamp d ≡ b)

stands : (history : List Block) (b : Block) → IsInOrder history → Contains history b → Stands history b
stands history b order has =
    let i = has.0 in
    let there : (slice_index_or history i b).stamp ≡ 0 + i = sym (get_or-map (λ (x : Block). x.stamp) history i b 0 has.1) ∙ (ap (λ ks. slice_index_or ks i 0) order ∙ get_or-range_with_len 0 (length history) i 0 has.1) in
    let at : b.stamp ≡ i = omega (arith, there, ap (λ (x : Block). x.stamp) has.2) in
    (omega (arith, at, has.1), λ d. ap (λ k. slice_index_or history k d) at ∙ (get_or_default history i d b has.1 ∙ has.2))

all_stand : (bs history : List Block) → IsPermutation bs history → IsInOrder history → All (Stands history) bs
all_stand bs history same order = λ k d low. stands history (slice_index_or bs k d) order (Contains-permutation bs history (slice_index_or bs k d) same (Contains-get_or bs k d low))

-- all blocks, in the order of their stamps
in_turn : (bs : List Block) → HasEachStamp bs → Ordered 0 (length bs) bs
in_turn bs each = ordered 0 (length bs) bs refl (λ k h small. each k (omega arith))

is_in_order : (bs : List Block) (o : Ordered 0 (length bs) bs) → IsInOrder o.history
is_in_order bs o = o.order ∙ ap (range_with_len 0) (sym (length_permutation bs o.history o.same))

-- each has a place
pub have_places : (bs : List Block) → HasEachStamp bs → All (λ b. b.stamp < length bs) bs
have_places bs each k d low =
    let o = in_turn bs each in
    omega (arith, (all_stand bs o.history o.same (is_in_order bs o) k d low).0, length_permutation bs o.history o.same)

-- more are put
pub placed_more : (h xs ys : List Block) → placed (placed h xs) ys ≡ placed h (xs ++ ys)
placed_more h [] ys = refl
placed_more h (x ∷ xs) ys = placed_more (slice_set h x.stamp x) xs ys

pub length_placed : (h bs : List Block) → length (placed h bs) ≡ length h
length_placed h [] = refl
length_placed h (b ∷ bs) = length_placed (slice_set h b.stamp b) bs ∙ length-set h b.stamp b

-- a place that has its block, or to which one is still to come, after one block was put
put_one : (history h : List Block) (b : Block) (bs : List Block) (k : ℕ) (d : Block) → length h ≡ length history → Stands history b → (slice_index_or h k d ≡ slice_index_or history k d) ⊎ Contains (stamps (b ∷ bs)) k → (slice_index_or (slice_set h b.stamp b) k d ≡ slice_index_or history k d) ⊎ Contains (stamps bs) k
put_one history h b bs k d long stand before = dite (ℕ_discrete k b.stamp)
    (λ same. inl (subst (λ i. slice_index_or (slice_set h b.stamp b) i d ≡ slice_index_or history i d) (sym same) (get_or-set_same h b.stamp b d (omega (arith, stand.0, long)) ∙ sym (stand.1 d))))
    (λ other. elim before [
      | inl there ↦ inl (get_or-set_other h b.stamp k b d other ∙ there)
      | inr coming ↦ elim (first_or_rest b.stamp (stamps bs) k coming) [
        | inl first ↦ absurd (other (sym first))
        | inr rest ↦ inr rest
      ]
    ])

put_all : (history h bs : List Block) (k : ℕ) (d : Block) → length h ≡ length history → All (Stands history) bs → (slice_index_or h k d ≡ slice_index_or history k d) ⊎ Contains (stamps bs) k → slice_index_or (placed h bs) k d ≡ slice_index_or history k d
put_all history h [] k d long stand (inl there) = there
put_all history h [] k d long stand (inr coming) = absurd (omega (arith, coming.1))
put_all history h (b ∷ bs) k d long stand before = put_all history (slice_set h b.stamp b) bs k d (length-set h b.stamp b ∙ long) (All-tail (Stands history) b bs stand) (put_one history h b bs k d long (All-head (Stands history) b bs stand) before)

placed_is : (h bs : List Block) (o : Ordered 0 (length bs) bs) → HasEachStamp bs → length h ≡ length bs → placed h bs ≡ o.history
placed_is h bs o each long =
    let many : length o.history ≡ length bs = length_permutation bs o.history o.same in
    same_lists (placed h bs) o.history (length_placed h bs ∙ (long ∙ sym many)) (λ k d low. put_all o.history h bs k d (long ∙ sym many) (all_stand bs o.history o.same (is_in_order bs o)) (inr (each k (omega (arith, low, length_placed h bs, long)))))

-- blocks that are put at their places are the same blocks, and in order
pub placed_all : (h bs : List Block) → HasEachStamp bs → length h ≡ length bs → IsPermutation bs (placed h bs) × IsInOrder (placed h bs)
placed_all h bs each long =
    let o = in_turn bs each in
    let is = sym (placed_is h bs o each long) in
    (subst (IsPermutation bs) is o.same, subst IsInOrder is (is_in_order bs o))

-- what is true of each block of all logs is true of those of one
pub All-in_log : {A X : Type 0} (P : X → Type 0) (f : A → List X) (logs : List A) (i : ℕ) (log : A) → i < length logs → log ≡ slice_index_or logs i log → All P (flat_map f logs) → All P (f log)
All-in_log P f logs i log low is all = λ j d has.
    let at : j < length (f (slice_index_or logs i log)) = subst (λ l. j < length (f l)) is has in
    subst P (get_or-flat_map f logs i j log d low at ∙ ap (λ l. slice_index_or (f l) j d) (sym is)) (all (length (flat_map f (take i logs)) + j) d (omega (arith, at, length-flat_map-take f logs i log low)))

-- logs where they stand have the blocks of the logs
pub same_blocks : (parts : List (Bor (List Block))) (logs : List (Vec Block Global)) → map (λ (log : Bor (List Block)). log.now) parts ≡ map (λ (log : Vec Block Global). log.items) logs → flat_map (λ (log : Bor (List Block)). log.now) parts ≡ all_blocks logs
same_blocks parts logs same =
    sym (flat_map-map (λ (l : List Block). l) (λ (log : Bor (List Block)). log.now) parts)
    ∙ ap (flat_map (λ (l : List Block). l)) same
    ∙ flat_map-map (λ (l : List Block). l) (λ (log : Vec Block Global). log.items) logs
