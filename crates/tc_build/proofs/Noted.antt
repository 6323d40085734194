-- The note of a built file is found, and gives the threads and the guards.
use Rattle.std.proofs.Common.{drop-drop, ◌≡◌, ℕ, zero, suc, ◌+◌, ◌*◌, ◌^◌, ◌<◌, ◌≤◌, ◌==◌, nat_lt, nat_le, ◌&&◌, ◌||◌, not, Bool, true, false, if◌then◌else◌, List, [], ◌∷◌, ◌++◌, length, drop, take, map, All, Some, get_or, eq-eqb, filter, refl, sym, ap, ◌∙◌, subst, arith}
use Rattle.std.specs.List.{flat_map, range_with_len}
use Rattle.std.specs.Option.{option_map}
use Rattle.std.proofs.lemmas.Bool.{le-ltb, or_from}
use Rattle.std.proofs.lemmas.Bool.Decides.{nat_tests}
use Rattle.std.proofs.lemmas.List.{append-nil, ext_get_or, get_or-map, length-map, length-append}
use Rattle.std.proofs.lemmas.List.FromFn.{length-map-range_with_len, get_or-map-range_with_len}
use Rattle.std.proofs.Math.Seq.{take-length, drop-append-add}
use Rattle.std.proofs.Math.ListN.{drop_of_length-le}
use Rattle.tc_elf.specs.declared.limits.TheConstants.{MAX_THREADS, MAX_GUARDS}
use Rattle.tc_elf.specs.Elf.{word_at}
use Rattle.tc_elf.specs.Shown.{Entry, Guard}
use Rattle.tc_elf.specs.Notes.{Note, is_tclocks, notes_in, first_note, descriptor_end, next_at, descriptors_of, is_bad_descriptor, has_room, described_layout, entries_from, guards_from}
use Rattle.tc_build.specs.Build.{AreWords, word_bytes, pair_words, note_words, note_version}
use Rattle.tc_build.specs.Described.{entry_of, guard_of}
use Rattle.tc_build.proofs.Reading.{word_here, drop-words, length-words}

-- a segment of one note
one_note : (n : ℕ) (b : List ℕ) → 12 ≤ length b → descriptor_end b ≤ length b → length b ≤ next_at b → notes_in (suc (suc n)) b ≡ Some (first_note b ∷ [])
unfolding notes_in
one_note n b long inside last =
    let first : nat_lt (length b) 12 ≡ false = le-ltb (length b) 12 long in
    let second : nat_lt (length b) (descriptor_end b) ≡ false = le-ltb (length b) (descriptor_end b) inside in
    let none : drop (next_at b) b ≡ [] = drop_of_length-le b last in
    rw (first, second, none) refl

-- ---- pairs of words

-- what stands from a pair on
from_pair : (pairs : List (ℕ × ℕ)) (rest : List ℕ) (i : ℕ) → i < length pairs
    → drop (2 * i) (flat_map pair_words pairs ++ rest) ≡ pair_words (get_or pairs i (0, 0)) ++ drop (2 * i + 2) (flat_map pair_words pairs ++ rest)
from_pair [] rest i below = absurd (omega arith)
from_pair (pair ∷ pairs) rest zero below = refl
from_pair (pair ∷ pairs) rest (suc i) below =
    let here : 2 * suc i ≡ suc (suc (2 * i)) = omega arith in
    let next : 2 * suc i + 2 ≡ suc (suc (2 * i + 2)) = omega arith in
    ap (λ n. drop n (flat_map pair_words (pair ∷ pairs) ++ rest)) here
    ∙ (from_pair pairs rest i (omega arith)
    ∙ ap (λ n. pair_words (get_or pairs i (0, 0)) ++ drop n (flat_map pair_words (pair ∷ pairs) ++ rest)) (sym next))

pub length-pairs : (pairs : List (ℕ × ℕ)) → length (flat_map pair_words pairs) ≡ 2 * length pairs
length-pairs [] = refl
length-pairs (pair ∷ pairs) = let more = length-pairs pairs in omega arith

-- the two words of a pair behind other words
pair_at : (head : List ℕ) (pairs : List (ℕ × ℕ)) (rest : List ℕ) (at i : ℕ) → at ≡ 4 * length head + 8 * i → i < length pairs → AreWords (get_or pairs i (0, 0))
    → (word_at (flat_map word_bytes (head ++ (flat_map pair_words pairs ++ rest))) at ≡ (get_or pairs i (0, 0)).0)
    × (word_at (flat_map word_bytes (head ++ (flat_map pair_words pairs ++ rest))) (at + 4) ≡ (get_or pairs i (0, 0)).1)
pair_at head pairs rest at i is below small =
    let p : ℕ × ℕ = get_or pairs i (0, 0) in
    let tail : List ℕ = drop (2 * i + 2) (flat_map pair_words pairs ++ rest) in
    let all : List ℕ = head ++ (flat_map pair_words pairs ++ rest) in
    let count : length all ≡ length head + (2 * length pairs + length rest) = (let a = length-append head (flat_map pair_words pairs ++ rest) in let b = length-append (flat_map pair_words pairs) rest in let c = length-pairs pairs in omega arith) in
    let words : drop (length head + 2 * i) all ≡ pair_words p ++ tail = drop-append-add head (flat_map pair_words pairs ++ rest) (2 * i) ∙ from_pair pairs rest i below in
    let place : at ≡ 4 * (length head + 2 * i) = omega arith in
    let here : drop at (flat_map word_bytes all) ≡ flat_map word_bytes (pair_words p ++ tail) =
    ap (λ n. drop n (flat_map word_bytes all)) place
    ∙ (ap (λ b. drop (4 * (length head + 2 * i)) b) (sym (append-nil (flat_map word_bytes all)))
    ∙ (drop-words (length head + 2 * i) all [] (omega arith)
    ∙ (append-nil (flat_map word_bytes (drop (length head + 2 * i) all)) ∙ ap (λ ws. flat_map word_bytes ws) words))) in
    let next : drop (at + 4) (flat_map word_bytes all) ≡ flat_map word_bytes (p.1 ∷ tail) =
    sym (drop-drop 4 at (flat_map word_bytes all)) ∙ ap (λ b. drop 4 b) here in (
      word_here (flat_map word_bytes all) at p.0 (flat_map word_bytes (p.1 ∷ tail)) here small.first,
      word_here (flat_map word_bytes all) (at + 4) p.1 (flat_map word_bytes tail) next small.second,
    )

-- what is made of each pair of words is what is made of each pair
pairs_read : {A : Type 0} (make : ℕ → ℕ → A) (b : List ℕ) (at : ℕ) (pairs : List (ℕ × ℕ)) (d : A)
    → ((i : ℕ) → i < length pairs → (word_at b (at + 8 * i) ≡ (get_or pairs i (0, 0)).0) × (word_at b (at + 8 * i + 4) ≡ (get_or pairs i (0, 0)).1))
    → map (λ i. make (word_at b (at + 8 * i)) (word_at b (at + 8 * i + 4))) (range_with_len 0 (length pairs)) ≡ map (λ (p : ℕ × ℕ). make p.0 p.1) pairs
pairs_read make b at pairs d reads =
    let one = λ (i : ℕ). make (word_at b (at + 8 * i)) (word_at b (at + 8 * i + 4)) in
    let many : length (map one (range_with_len 0 (length pairs))) ≡ length pairs = length-map-range_with_len one 0 (length pairs) in
    ext_get_or d (map one (range_with_len 0 (length pairs))) (map (λ (p : ℕ × ℕ). make p.0 p.1) pairs) (many ∙ sym (length-map pairs (λ (p : ℕ × ℕ). make p.0 p.1)))
    (λ i below. (
    let low : i < length pairs = omega arith in
    let r = reads i low in
    get_or-map-range_with_len one 0 (length pairs) i i d low (omega arith)
    ∙ (ap (λ x. make x (word_at b (at + 8 * i + 4))) r.0 ∙ (ap (λ y. make (get_or pairs i (0, 0)).0 y) r.1
    ∙ sym (get_or-map (λ (p : ℕ × ℕ). make p.0 p.1) pairs i (0, 0) d low)))))

-- ---- the note on threads and guards

abbrev pub descriptor_words : List (ℕ × ℕ) → List (ℕ × ℕ) → List ℕ
descriptor_words entries guards =
    note_version (length entries) (length guards) ∷ length entries ∷ length guards ∷ (flat_map pair_words entries ++ flat_map pair_words guards)

abbrev pub descriptor : List (ℕ × ℕ) → List (ℕ × ℕ) → List ℕ
descriptor entries guards = flat_map word_bytes (descriptor_words entries guards)

length-descriptor : (entries guards : List (ℕ × ℕ)) → length (descriptor entries guards) ≡ 12 + 8 * length entries + 8 * length guards
length-descriptor entries guards =
    let a = length-words (descriptor_words entries guards) in
    let b = length-append (flat_map pair_words entries) (flat_map pair_words guards) in
    let c = length-pairs entries in
    let d = length-pairs guards in
    omega arith

room_by : (n m : ℕ) (few : Bool) → (nat_le n 16 && nat_le m 16) ≡ few → n ≤ MAX_THREADS → m ≤ MAX_GUARDS → has_room (if few then 1 else 2) n m ≡ true
room_by n m true is threads guards = rw (is) refl
room_by n m false is threads guards =
    let a : nat_le n MAX_THREADS ≡ true = grind (arith, nat_tests) in
    let b : nat_le m MAX_GUARDS ≡ true = grind (arith, nat_tests) in
    rw (a, b) refl

small_version : (few : Bool) → (if few then 1 else 2) < 2 ^ 32
small_version true = omega arith
small_version false = omega arith

pub descriptor_sound : (entries guards : List (ℕ × ℕ)) → 1 ≤ length entries → length entries ≤ MAX_THREADS → length guards ≤ MAX_GUARDS → is_bad_descriptor (descriptor entries guards) ≡ false
descriptor_sound entries guards some threads locks =
    let n : ℕ = length entries in
    let m : ℕ = length guards in
    let d : List ℕ = descriptor entries guards in
    let v : word_at d 0 ≡ note_version n m = word_here d 0 (note_version n m) (drop 4 d) refl (small_version (nat_le n 16 && nat_le m 16)) in
    let t : word_at d 4 ≡ n = word_here d 4 n (drop 8 d) refl (omega arith) in
    let g : word_at d 8 ≡ m = word_here d 8 m (drop 12 d) refl (omega arith) in
    let long = length-descriptor entries guards in
    let short : nat_lt (length d) 12 ≡ false = le-ltb (length d) 12 (omega arith) in
    let several : (word_at d 4 == 0) ≡ false = grind (arith, nat_tests) in
    let room : has_room (word_at d 0) (word_at d 4) (word_at d 8) ≡ true =
    ap (λ x. has_room x (word_at d 4) (word_at d 8)) v ∙ (ap (λ x. has_room (note_version n m) x (word_at d 8)) t
    ∙ (ap (λ x. has_room (note_version n m) n x) g ∙ room_by n m (nat_le n 16 && nat_le m 16) refl threads locks)) in
    let whole : (length d == 12 + 8 * word_at d 4 + 8 * word_at d 8) ≡ true = eq-eqb (length d) (12 + 8 * word_at d 4 + 8 * word_at d 8) (omega arith) in
    or_from (nat_lt (length d) 12 || (word_at d 4 == 0) || not (has_room (word_at d 0) (word_at d 4) (word_at d 8))) (not (length d == 12 + 8 * word_at d 4 + 8 * word_at d 8))
    (or_from (nat_lt (length d) 12 || (word_at d 4 == 0)) (not (has_room (word_at d 0) (word_at d 4) (word_at d 8)))
    (or_from (nat_lt (length d) 12) (word_at d 4 == 0) short several) (ap not room))
    (ap not whole)

pub found : (entries guards : List (ℕ × ℕ)) → length entries ≤ MAX_THREADS → length guards ≤ MAX_GUARDS → descriptors_of (flat_map word_bytes (note_words entries guards)) ≡ Some (descriptor entries guards ∷ [])
found entries guards threads locks =
    let n : ℕ = length entries in
    let m : ℕ = length guards in
    let b : List ℕ = flat_map word_bytes (note_words entries guards) in
    let d : List ℕ = descriptor entries guards in
    let long = length-descriptor entries guards in
    let all : length b ≡ suc (suc (30 + 8 * n + 8 * m)) = omega arith in
    let size : word_at b 4 ≡ 12 + 8 * n + 8 * m = word_here b 4 (12 + 8 * n + 8 * m) (drop 8 b) refl (omega arith) in
    let notes : notes_in (length b) b ≡ Some (first_note b ∷ []) =
    ap (λ k. notes_in k b) all ∙ one_note (30 + 8 * n + 8 * m) b (omega arith) (omega arith) (omega arith) in
    let one : take (word_at b 4) d ≡ d = ap (λ k. take k d) (size ∙ sym long) ∙ take-length d in
    ap (λ o. option_map (λ ns. map (λ (note : Note). note.descriptor) (filter is_tclocks ns)) o) notes
    ∙ ap (λ (x : List ℕ). Some (x ∷ [])) one

pub layout_is : (entries guards : List (ℕ × ℕ)) → length entries ≤ MAX_THREADS → length guards ≤ MAX_GUARDS → All AreWords entries → All AreWords guards
    → described_layout (descriptor entries guards) ≡ record { entries = map entry_of entries; guards = map guard_of guards }
layout_is entries guards threads locks small_entries small_guards =
    let n : ℕ = length entries in
    let m : ℕ = length guards in
    let v : ℕ = note_version n m in
    let d : List ℕ = descriptor entries guards in
    let t : word_at d 4 ≡ n = word_here d 4 n (drop 8 d) refl (omega arith) in
    let g : word_at d 8 ≡ m = word_here d 8 m (drop 12 d) refl (omega arith) in
    let before : List ℕ = v ∷ n ∷ m ∷ flat_map pair_words entries in
    let three : length before ≡ 3 + 2 * n = (let a = length-pairs entries in omega arith) in
    let same : flat_map word_bytes (before ++ (flat_map pair_words guards ++ [])) ≡ d = ap (λ x. flat_map word_bytes (before ++ x)) (append-nil (flat_map pair_words guards)) in
    let first : entries_from d 12 n ≡ map entry_of entries =
    pairs_read (λ a x. record { address = a; argument = x }) d 12 entries (record { address = 0; argument = 0 })
    (λ i below. pair_at (v ∷ n ∷ m ∷ []) entries (flat_map pair_words guards) (12 + 8 * i) i refl below (small_entries i (0, 0) below)) in
    let second : guards_from d (12 + 8 * n) m ≡ map guard_of guards =
    pairs_read (λ a x. record { start = a; length = x }) d (12 + 8 * n) guards (record { start = 0; length = 0 })
    (λ i below. subst (λ (b : List ℕ). (word_at b (12 + 8 * n + 8 * i) ≡ (get_or guards i (0, 0)).0) × (word_at b (12 + 8 * n + 8 * i + 4) ≡ (get_or guards i (0, 0)).1)) same
    (pair_at before guards [] (12 + 8 * n + 8 * i) i (omega arith) below (small_guards i (0, 0) below))) in
    ap (λ (k : ℕ). record { entries = entries_from d 12 k; guards = guards_from d (12 + 8 * k) (word_at d 8) }) t
    ∙ (ap (λ (k : ℕ). record { entries = entries_from d 12 n; guards = guards_from d (12 + 8 * n) k }) g
    ∙ (ap (λ (es : List Entry). record { entries = es; guards = guards_from d (12 + 8 * n) m }) first
    ∙ ap (λ (gs : List Guard). record { entries = map entry_of entries; guards = gs }) second))
