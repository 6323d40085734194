-- Registers that are packed, and noted one after another.
use Rattle.std.proofs.Common.{◌≡◌, ℕ, zero, suc, ◌+◌, ◌-◌, ◌*◌, ◌^◌, ◌/◌, ◌%◌, ◌<◌, ◌≤◌, min, inl, inr, Bool, true, false, ◌==◌, List, [], ◌∷◌, ◌++◌, length, get_or, take, drop, set, refl, ap, sym, subst, ◌∙◌, arith, append_assoc, append-nil, length-append, length-drop, not, slice_index, if◌then◌else◌}
use Rattle.tc_segment.proofs.Vocabulary.{Extends, IsPlace, IsRegisters, Registers, StandsAt, StandsLast, behind, bit_and, drop_at, mask_of, packed, unusual, usual, take-append-le, with_register, drop-append-le, get_or-drop, drop-drop, length-take, take-append-drop, take_all, take_more_set, Decides-eqb, cases_lt, spread, regs_at, ArePacked, and_step, and_self}
use Rattle.std.proofs.Math.Nat.{one-le-pow, pow-succ'}
use Rattle.std.proofs.Math.Seq.{take-append-add}
use Rattle.std.proofs.lemmas.List.{drop-set-lt, drop_all, take-take, take_more}
use Rattle.std.specs.Int.Count.{count_trailing_zeros, under}
use Rattle.std.specs.Simd.Lanes.{mask_l, zip2}
use Rattle.std.proofs.lemmas.Simd.{length-zip2, mask_l-mod}

pub usual_count : length usual ≡ 31
unfolding usual
usual_count = refl

-- what was packed comes out again, whatever stands behind it
spread_packed : (us xs rest : List ℕ) → length us ≡ length xs → spread us (mask_of us xs) (unusual us xs ++ rest) ≡ xs
unfolding spread
spread_packed [] [] rest same = refl
spread_packed [] (x ∷ xs) rest same = absurd (omega (arith, same))
spread_packed (u ∷ us) [] rest same = absurd (omega (arith, same))
spread_packed (u ∷ us) (x ∷ xs) rest same =
    let again = spread_packed us xs rest (omega (arith, same)) in
    (elim (x == u) as (λ b. (x == u) ≡ b → spread (u ∷ us) (if b then 2 * mask_of us xs else 2 * mask_of us xs + 1) ((if b then unusual us xs else x ∷ unusual us xs) ++ rest) ≡ x ∷ xs) [
      | true ↦ λ e.
          let none : x ≡ u = (Decides-eqb x u).0 e in
          let low : (2 * mask_of us xs) % 2 ≡ 0 = omega arith in
          let half : (2 * mask_of us xs) / 2 ≡ mask_of us xs = omega arith in
          rw low (rw half (λ i. sym none i ∷ again i))
      | false ↦ λ e.
          let low : (2 * mask_of us xs + 1) % 2 ≡ 1 = omega arith in
          let half : (2 * mask_of us xs + 1) / 2 ≡ mask_of us xs = omega arith in
          rw low (rw half (λ i. x ∷ again i))
    ]) refl

drop_two : (xs : List ℕ) (i : ℕ) (x y : ℕ) (ys : List ℕ) → drop i xs ≡ x ∷ y ∷ ys → (get_or xs i 0 ≡ x) × (get_or xs (i + 1) 0 ≡ y) × (drop (i + 2) xs ≡ ys)
drop_two xs i x y ys is = (
  ap (λ k. get_or xs k 0) (let e : i ≡ i + 0 = omega arith in e) ∙ sym (get_or-drop i xs 0 0) ∙ ap (λ zs. get_or zs 0 0) is,
  sym (get_or-drop i xs 1 0) ∙ ap (λ zs. get_or zs 1 0) is,
  sym (drop-drop 2 i xs) ∙ ap (drop 2) is,
)

-- register 0 is 0
zero_first : (xs : List ℕ) (n : ℕ) → length xs ≡ suc n → slice_index xs 0 ≡ 0 → (xs ≡ 0 ∷ drop 1 xs) × (length (drop 1 xs) ≡ n)
zero_first [] n len first = absurd (omega (arith, len))
zero_first (x ∷ xs) n len first = (λ i. first i ∷ xs, omega (arith, len))

pub stands_is : {edges : List ℕ} {i : ℕ} {r : Registers} → StandsAt edges i r → regs_at edges i ≡ r
unfolding regs_at
stands_is {edges} {i} {r} s =
    let xs = drop 1 r.words in
    let parts = drop_two edges i r.pc (mask_of usual xs) (unusual usual xs ++ s.rest) s.is in
    let first = zero_first r.words 31 s.whole.count s.whole.zero_stays in
    let words : spread usual (get_or edges (i + 1) 0) (drop (i + 2) edges) ≡ xs =
    (λ j. spread usual (parts.1 j) (parts.2 j)) ∙ spread_packed usual xs s.rest (usual_count ∙ sym first.1) in
    λ j. record { pc = parts.0 j; words = (ap (λ ys. 0 ∷ ys) words ∙ sym first.0) j }

-- words that begin with these registers
pub packed_is : (words : List ℕ) (end : ℕ) (r : Registers) → ArePacked words end r → regs_at words 0 ≡ r
packed_is words end r h = stands_is {edges = words} {i = 0} (record {
  inside = (let two : 2 ≤ length (packed r) = omega arith in omega (arith, ap length h.is, length-take end words));
  rest = drop end words;
  is = sym (take-append-drop end words) ∙ ap (λ xs. xs ++ drop end words) h.is;
  whole = h.whole;
})

pub are_packed : (words : List ℕ) (end : ℕ) (r : Registers) → ArePacked words end r → ArePacked words end (regs_at words 0)
are_packed words end r h = subst (λ x. ArePacked words end x) (sym (packed_is words end r h)) h

pub stands_more : {edges : List ℕ} {i : ℕ} {r : Registers} (more : List ℕ) → StandsAt edges i r → StandsAt (edges ++ more) i r
stands_more {edges} {i} {r} more s = record {
  inside = (let h = s.inside in omega (arith, length-append edges more));
  rest = s.rest ++ more;
  is = drop-append-le i edges more (let h = s.inside in omega (arith, h)) ∙ ap (λ xs. xs ++ more) s.is ∙ append_assoc (packed r) s.rest more;
  whole = s.whole;
}

pub place_of-stands : {edges : List ℕ} {i : ℕ} {r : Registers} → StandsAt edges i r → IsPlace edges i
place_of-stands {edges} {i} {r} s = subst (λ x. StandsAt edges i x) (sym (stands_is s)) s

pub extends_same : (edges : List ℕ) → Extends edges edges
extends_same edges = record { places = λ i there. there; same = λ i there. refl }

pub extends_more : (edges more : List ℕ) → Extends edges (edges ++ more)
extends_more edges more = record {
  places = λ i there. place_of-stands (stands_more more there);
  same = λ i there. stands_is (stands_more more there);
}

pub behind_same : {old new : List ℕ} (i : ℕ) → Extends old new → IsPlace old i → behind new i ≡ behind old i
behind_same i more there = ap (λ (r : Registers). i + length (packed r)) (more.same i there)

-- registers that are written behind the old ones, at the front of a row, stand there beside them
pub stands_beside : {r : Registers} {was front row : List ℕ} {at n len : ℕ} (rest more : List ℕ) → ArePacked row n r → front ≡ was → length front ≡ at → n ≤ length row → at + n ≤ len
    → let all : List ℕ = take (at + n) (take len ((front ++ (row ++ rest)) ++ more)) in StandsLast all at r × Extends was all
stands_beside {r} {was} {front} {row} {at} {n} {len} rest more packs same count le fits =
    let is = take-take (at + n) len ((front ++ (row ++ rest)) ++ more) fits ∙ take-append-le (at + n) (front ++ (row ++ rest)) more (omega (arith, count, le, length-append front (row ++ rest), length-append row rest))
    ∙ ap (λ k. take (k + n) (front ++ (row ++ rest))) (sym count) ∙ take-append-add front (row ++ rest) n ∙ (λ i. same i ++ (take-append-le n row rest le ∙ packs.is) i) in
    let inside : at < length (take (at + n) (take len ((front ++ (row ++ rest)) ++ more))) = (let two : 2 ≤ length (packed r) = omega arith in omega (arith, ap length is, length-append was (packed r), ap length same, count)) in (
      record {
        stands = record { inside = inside; rest = []; is = ap (drop at) is ∙ drop_at was (packed r) at (ap length (sym same) ∙ count) ∙ sym (append-nil (packed r)); whole = packs.whole };
        last = omega (arith, ap length is, length-append was (packed r), ap length same, count);
      },
      subst (λ ws. Extends was ws) (sym is) (extends_more was (packed r)),
    )

-- words that begin as others do are the same registers
pub packed_same : {xs ys : List ℕ} {end : ℕ} {r s : Registers} (n : ℕ) → r ≡ s → ArePacked xs end r → end ≤ n → take n ys ≡ take n xs → ArePacked ys end s
packed_same {xs} {ys} {end} n view packs le same = subst (λ r. ArePacked ys end r) view (record { few = packs.few; is = sym (take-take end n ys le) ∙ ap (take end) same ∙ take-take end n xs le ∙ packs.is; whole = packs.whole })

-- ---- packing

pub mask_lanes : (us xs : List ℕ) → mask_of us xs ≡ mask_l (zip2 (λ a b. not (a == b)) xs us)
mask_lanes [] [] = refl
mask_lanes [] (x ∷ xs) = refl
mask_lanes (u ∷ us) [] = refl
mask_lanes (u ∷ us) (x ∷ xs) =
    let e = mask_lanes us xs in
    (elim (x == u) as (λ b. (if b then 2 * mask_of us xs else 2 * mask_of us xs + 1) ≡ mask_l (not b ∷ zip2 (λ a b. not (a == b)) xs us)) [ true ↦ omega (arith, e) | false ↦ omega (arith, e) ])

-- what is read of the lanes that are compared
pub mask_read : (us xs : List ℕ) (ms : List Bool) → length xs ≡ length us → length us ≤ 64 → ms ≡ zip2 (λ a b. not (a == b)) xs us → mask_l ms % 2 ^ 64 ≡ mask_of us xs
mask_read us xs ms same few is =
    ap (λ bs. mask_l bs % 2 ^ 64) is
    ∙ mask_l-mod (zip2 (λ a b. not (a == b)) xs us) 64 (omega (arith, few, length-zip2 (λ a b. not (a == b)) xs us same, same))
    ∙ sym (mask_lanes us xs)

-- without the first, which is 0
pub mask_first : (us xs : List ℕ) (n : ℕ) → length xs ≡ suc n → slice_index xs 0 ≡ 0 → mask_of (0 ∷ us) xs / 2 ≡ mask_of us (drop 1 xs)
mask_first us xs n len first =
    let half : (2 * mask_of us (drop 1 xs)) / 2 ≡ mask_of us (drop 1 xs) = omega arith in
    ap (λ ys. mask_of (0 ∷ us) ys / 2) (zero_first xs n len first).0 ∙ half

pub mask_less : (us xs : List ℕ) (n : ℕ) → length xs ≤ n → mask_of us xs < 2 ^ n
mask_less [] xs n le = (let h = one-le-pow n 2 (omega arith) in omega (arith, h))
mask_less (u ∷ us) [] n le = (let h = one-le-pow n 2 (omega arith) in omega (arith, h))
mask_less (u ∷ us) (x ∷ xs) zero le = absurd (omega (arith, le))
mask_less (u ∷ us) (x ∷ xs) (suc n) le =
    let h = mask_less us xs n (omega (arith, le)) in
    let two = pow-succ' 2 n in
    (elim (x == u) as (λ b. (if b then 2 * mask_of us xs else 2 * mask_of us xs + 1) < 2 ^ suc n) [ true ↦ omega (arith, h, two) | false ↦ omega (arith, h, two) ])

pub two_front : (xs : List ℕ) (a b : ℕ) → 2 ≤ length xs → take 2 (set (set xs 0 a) 1 b) ≡ a ∷ b ∷ []
two_front (x ∷ y ∷ xs) a b le = refl
two_front _ a b le = absurd (omega arith)

-- the numbers where the mask has 1
abbrev pub picked : ℕ → List ℕ → List ℕ
picked mask [] = []
picked mask (x ∷ xs) = if mask % 2 == 1 then x ∷ picked (mask / 2) xs else picked (mask / 2) xs

pub picked_none : (xs : List ℕ) → picked 0 xs ≡ []
picked_none [] = refl
picked_none (x ∷ xs) = picked_none xs

pub picked_all : (us xs : List ℕ) → picked (mask_of us xs) xs ≡ unusual us xs
picked_all [] xs = picked_none xs
picked_all (u ∷ us) [] = refl
picked_all (u ∷ us) (x ∷ xs) =
    let again = picked_all us xs in
    (elim (x == u) as (λ b. picked (if b then 2 * mask_of us xs else 2 * mask_of us xs + 1) (x ∷ xs) ≡ (if b then unusual us xs else x ∷ unusual us xs)) [
      | true ↦
          let low : (2 * mask_of us xs) % 2 ≡ 0 = omega arith in
          let half : (2 * mask_of us xs) / 2 ≡ mask_of us xs = omega arith in
          rw low (rw half again)
      | false ↦
          let low : (2 * mask_of us xs + 1) % 2 ≡ 1 = omega arith in
          let half : (2 * mask_of us xs + 1) / 2 ≡ mask_of us xs = omega arith in
          rw low (rw half (λ i. x ∷ again i))
    ])

-- the first of them, and those behind it
pub record FirstPicked (k mask : ℕ) (xs : List ℕ) : Type 0 where
  pub there : count_trailing_zeros k mask < length xs
  pub is : picked mask xs ≡ slice_index xs (count_trailing_zeros k mask) ∷ picked (bit_and mask (mask - 1)) xs

abbrev picking : ℕ → List ℕ → ℕ → ℕ → List ℕ
picking x xs bit rest = if bit == 1 then x ∷ picked rest xs else picked rest xs

first_odd : (x : ℕ) (xs : List ℕ) (k mask : ℕ) → mask % 2 ≡ 1 → FirstPicked (suc k) mask (x ∷ xs)
unfolding count_trailing_zeros
first_odd x xs k mask odd =
    let zeros : count_trailing_zeros (suc k) mask ≡ 0 = ap (λ r. under r (count_trailing_zeros k (mask / 2))) odd in
    let half : (mask - 1) / 2 ≡ mask / 2 = omega arith in
    let low : min (mask % 2) ((mask - 1) % 2) ≡ 0 = omega arith in
    let less : bit_and mask (mask - 1) ≡ mask / 2 * 2 + 0 = and_step mask (mask - 1) ∙ (λ i. (ap (bit_and (mask / 2)) half ∙ and_self (mask / 2)) i * 2 + low i) in
    let bit : bit_and mask (mask - 1) % 2 ≡ 0 = omega arith in
    let rest : bit_and mask (mask - 1) / 2 ≡ mask / 2 = omega arith in
    record {
      there = omega (arith, zeros);
      is = ap (λ r. picking x xs r (mask / 2)) odd ∙ (λ i. slice_index (x ∷ xs) (sym zeros i) ∷ picking x xs (sym bit i) (sym rest i));
    }

first_even : (x : ℕ) (xs : List ℕ) (k mask : ℕ) → mask % 2 ≡ 0 → 0 < mask → FirstPicked k (mask / 2) xs → FirstPicked (suc k) mask (x ∷ xs)
unfolding count_trailing_zeros
first_even x xs k mask even some first =
    let z = count_trailing_zeros k (mask / 2) in
    let zeros : count_trailing_zeros (suc k) mask ≡ suc z = ap (λ r. under r z) even in
    let half : (mask - 1) / 2 ≡ mask / 2 - 1 = omega arith in
    let low : min (mask % 2) ((mask - 1) % 2) ≡ 0 = omega arith in
    let less : bit_and mask (mask - 1) ≡ bit_and (mask / 2) (mask / 2 - 1) * 2 + 0 = and_step mask (mask - 1) ∙ (λ i. bit_and (mask / 2) (half i) * 2 + low i) in
    let bit : bit_and mask (mask - 1) % 2 ≡ 0 = omega arith in
    let rest : bit_and mask (mask - 1) / 2 ≡ bit_and (mask / 2) (mask / 2 - 1) = omega arith in
    record {
      there = (let there = first.there in omega (arith, zeros, there));
      is = ap (λ r. picking x xs r (mask / 2)) even ∙ first.is ∙ (λ i. slice_index (x ∷ xs) (sym zeros i) ∷ picking x xs (sym bit i) (sym rest i));
    }

pub first_picked : (xs : List ℕ) (k mask : ℕ) → 0 < mask → mask < 2 ^ length xs → length xs ≤ k → FirstPicked k mask xs
first_picked [] k mask some less le = absurd (omega (arith, some, less))
first_picked (x ∷ xs) zero mask some less le = absurd (omega (arith, le))
first_picked (x ∷ xs) (suc k) mask some less le =
    let two = pow-succ' 2 (length xs) in
    (elim (cases_lt 0 (mask % 2)) [
      | inl odd ↦ first_odd x xs k mask (omega arith)
      | inr even ↦ first_even x xs k mask (omega arith) some (first_picked xs k (mask / 2) (omega arith) (omega (arith, two, less)) (omega (arith, le)))
    ])

unusual_less : (us xs : List ℕ) → length (unusual us xs) ≤ length xs
unusual_less [] xs = omega arith
unusual_less (u ∷ us) [] = omega arith
unusual_less (u ∷ us) (x ∷ xs) =
    let less = unusual_less us xs in
    (elim (x == u) as (λ b. length (if b then unusual us xs else x ∷ unusual us xs) ≤ suc (length xs)) [ true ↦ omega arith | false ↦ omega arith ])

pub packed_few : (r : Registers) → IsRegisters r → length (packed r) ≤ 33
packed_few r whole = (let numbers = unusual_less usual (drop 1 r.words) in omega (arith, numbers, length-drop 1 r.words, whole.count))

-- where one more is to come, there is room for it
pub next_fits : (buffer rest : List ℕ) (end value : ℕ) (r : Registers) → IsRegisters r → length buffer ≡ 33 → end ≤ 33 → take end buffer ++ value ∷ rest ≡ packed r → end < 33
next_fits buffer rest end value r whole count le is = omega (arith, ap length is, length-append (take end buffer) (value ∷ rest), length-take end buffer, packed_few r whole)

-- ---- unpacking

eq_test : (a b : ℕ) → (a ≡ b → ⊥) → (a == b) ≡ false
eq_test a b other = (elim (a == b) as (λ t. (a == b) ≡ t → t ≡ false) [ true ↦ λ e. absurd (other ((Decides-eqb a b).0 e)) | false ↦ λ e. refl ]) refl

-- the next number, and those behind it
pub spread_some : (us : List ℕ) (mask at : ℕ) (xs : List ℕ) → 0 < length us → mask % 2 ≡ 1 → spread us mask (drop at xs) ≡ slice_index xs at ∷ spread (drop 1 us) (mask / 2) (drop (at + 1) xs)
unfolding spread
spread_some [] mask at xs some one = absurd (omega (arith, some))
spread_some (u ∷ us) mask at xs some one =
    let value : get_or (drop at xs) 0 0 ≡ get_or xs at 0 = get_or-drop at xs 0 0 ∙ ap (λ i. get_or xs i 0) (let e : at + 0 ≡ at = omega arith in e) in
    let rest : drop 1 (drop at xs) ≡ drop (at + 1) xs = drop-drop 1 at xs in
    rw one (λ i. value i ∷ spread us (mask / 2) (rest i))

pub spread_none : (us : List ℕ) (mask : ℕ) (ys : List ℕ) → 0 < length us → (mask % 2 ≡ 1 → ⊥) → spread us mask ys ≡ slice_index us 0 ∷ spread (drop 1 us) (mask / 2) ys
unfolding spread
spread_none [] mask ys some other = absurd (omega (arith, some))
spread_none (u ∷ us) mask ys some other =
    ap (λ b. if b then slice_index ys 0 ∷ spread us (mask / 2) (drop 1 ys) else u ∷ spread us (mask / 2) ys) (eq_test (mask % 2) 1 other)

-- one number more is there
pub stored : (ws : List ℕ) (n value : ℕ) (rest all : List ℕ) → n < length ws → take n ws ++ value ∷ rest ≡ all → take (n + 1) (set ws n value) ++ rest ≡ all
stored ws n value rest all lt is = ap (λ xs. xs ++ rest) (take_more_set ws n value lt) ∙ append_assoc (take n ws) (value ∷ []) rest ∙ is

pub put_words : (r : Registers) (n value : ℕ) → 0 < n → with_register r n value ≡ record { pc = r.pc; words = set r.words n value }
put_words r n value some = ap (λ b. if b then r else record { pc = r.pc; words = set r.words n value }) (eq_test n 0 (λ e. omega (arith, e, some)))

-- registers that are usual from a number on become those that are packed
abbrev pub Becomes : List ℕ → ℕ → ℕ → List ℕ → List ℕ → Type 0
Becomes ws n mask ys all = take n ws ++ spread (drop n ws) mask ys ≡ all

pub put_next : (ws : List ℕ) (n mask at : ℕ) (xs all : List ℕ) → n < length ws → mask % 2 ≡ 1 → Becomes ws n mask (drop at xs) all → Becomes (set ws n (slice_index xs at)) (n + 1) (mask / 2) (drop (at + 1) xs) all
put_next ws n mask at xs all lt one is =
    let value = slice_index xs at in
    let behind : drop 1 (drop n ws) ≡ drop (n + 1) (set ws n value) = drop-drop 1 n ws ∙ sym (drop-set-lt (n + 1) ws n value (omega arith)) in
    stored ws n value (spread (drop (n + 1) (set ws n value)) (mask / 2) (drop (at + 1) xs)) all lt (
    (λ i. take n ws ++ value ∷ spread (sym behind i) (mask / 2) (drop (at + 1) xs))
    ∙ ap (λ ys. take n ws ++ ys) (sym (spread_some (drop n ws) mask at xs (omega (arith, lt, length-drop n ws)) one)) ∙ is)

pub leave_next : (ws : List ℕ) (n mask : ℕ) (ys all : List ℕ) → n < length ws → (mask % 2 ≡ 1 → ⊥) → Becomes ws n mask ys all → Becomes ws (n + 1) (mask / 2) ys all
leave_next ws n mask ys all lt other is =
    let here : slice_index (drop n ws) 0 ≡ slice_index ws n = get_or-drop n ws 0 0 ∙ ap (slice_index ws) (let e : n + 0 ≡ n = omega arith in e) in
    ap (λ zs. zs ++ spread (drop (n + 1) ws) (mask / 2) ys) (take_more ws n 0 lt)
    ∙ append_assoc (take n ws) (slice_index ws n ∷ []) (spread (drop (n + 1) ws) (mask / 2) ys)
    ∙ (λ i. take n ws ++ sym here i ∷ spread (sym (drop-drop 1 n ws) i) (mask / 2) ys)
    ∙ ap (λ zs. take n ws ++ zs) (sym (spread_none (drop n ws) mask ys (omega (arith, lt, length-drop n ws)) other)) ∙ is

-- all of them
pub became : (ws : List ℕ) (n mask : ℕ) (ys all : List ℕ) → length ws ≤ n → Becomes ws n mask ys all → ws ≡ all
unfolding spread
became ws n mask ys all le is = sym (append-nil ws) ∙ (λ i. sym (take_all n ws le) i ++ spread (sym (drop_all n ws le) i) mask ys) ∙ is
