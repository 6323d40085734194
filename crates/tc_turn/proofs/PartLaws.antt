-- A thread's own memory: an access whose bytes one part has is read and written in that part.
use Rattle.std.proofs.Common.{◌≡◌, ◌≢◌, ◌⊎◌, ℕ, zero, suc, ◌+◌, ◌-◌, ◌/◌, ◌%◌, ◌<◌, ◌≤◌, true, List, [], ◌∷◌, length, map, set, refl, sym, ap, ◌∙◌, arith, inl, inr, Option, None, Vec, unwrap_or}
use Rattle.std.specs.Vec.{with_items}
use Rattle.tc_turn.proofs.Vocabulary.{leb_tells, nat_tests, slice_get_past, length-set, length-map, set_past, get_or-map, with_items_is, Part, number_at, byte_from, put_byte, put_number, part_with, own_of, and_parts, option_or, no_part, part_at, part_has, AreApart}
use Rattle.tc_turn.proofs.Numbers.{number_same}

-- parts that have none of some addresses
abbrev pub IsAway : ℕ → ℕ → Part → Type 0
IsAway addr n p = (addr + n ≤ p.start) ⊎ (p.start + length p.bytes ≤ addr)

pub byte_away : (p : Part) (at : ℕ) → IsAway at 1 p → byte_from p.start p.bytes at ≡ None
byte_away p at away = grind (arith, slice_get_past)

pub none_has : (parts : List Part) (at : ℕ) → ((j : ℕ) → j < length parts → IsAway at 1 (part_at parts j)) → own_of parts at ≡ None
none_has [] at away = refl
none_has (p ∷ parts) at away = rw (byte_away p at (away 0 (omega arith))) (none_has parts at (λ j below. away (suc j) (omega arith)))

pub or_none : (o : Option ℕ) → option_or o None ≡ o
or_none o = grind arith

one_has : (parts : List Part) (i at : ℕ) → ((j : ℕ) → j < length parts → j ≢ i → IsAway at 1 (part_at parts j)) → own_of parts at ≡ byte_from (part_at parts i).start (part_at parts i).bytes at
one_has [] i at away = sym (byte_away no_part at (inr (omega arith)))
one_has (p ∷ parts) zero at away =
    ap (option_or (byte_from p.start p.bytes at)) (none_has parts at (λ j below. away (suc j) (omega arith) (omega arith)))
    ∙ or_none (byte_from p.start p.bytes at)
one_has (p ∷ parts) (suc i) at away =
    rw (byte_away p at (away 0 (omega arith) (omega arith)))
    (one_has parts i at (λ j below ne. away (suc j) (omega arith) (omega arith)))

-- beside the part that has all of some addresses, the others have none of them
others_away : (parts : List Part) (i addr n j : ℕ) → AreApart parts → i < length parts → part_has addr n (part_at parts i) ≡ true
    → j < length parts → j ≢ i → IsAway addr n (part_at parts j)
others_away parts i addr n j apart known has below ne =
    let ends : ((part_at parts i).start ≤ addr) × (addr + n ≤ (part_at parts i).start + length (part_at parts i).bytes) = (grind (arith, nat_tests, and_parts), grind (arith, nat_tests, and_parts)) in
    elim (leb_tells i j) [
      | inl low ↦ inl (let before = apart i j no_part (let l = low.1 in omega arith) below in omega arith)
      | inr high ↦ inr (let after = apart j i no_part (let h = high.1 in omega arith) known in omega arith)
    ]

own_there : (parts : List Part) (i addr n at : ℕ) → AreApart parts → i < length parts → part_has addr n (part_at parts i) ≡ true → addr ≤ at → at < addr + n
    → own_of parts at ≡ byte_from (part_at parts i).start (part_at parts i).bytes at
own_there parts i addr n at apart known has low high = grind (arith, one_has, others_away)

pub number_there : (parts : List Part) (i addr n : ℕ) → AreApart parts → i < length parts → part_has addr n (part_at parts i) ≡ true
    → number_at (λ at. unwrap_or (byte_from (part_at parts i).start (part_at parts i).bytes at) 0) addr n ≡ number_at (λ at. unwrap_or (own_of parts at) 0) addr n
number_there parts i addr n apart known has = number_same _ _ addr n (λ at low high. ap (λ o. unwrap_or o 0) (sym (own_there parts i addr n at apart known has low high)))

-- a store at another place changes no byte
put_away : (start : ℕ) (bytes : List ℕ) (at value : ℕ) → (at < start) ⊎ (start + length bytes ≤ at) → put_byte start bytes at value ≡ bytes
put_away start bytes at value away = grind (arith, set_past)

number_away : (start : ℕ) (bytes : List ℕ) (addr n value : ℕ) → (addr + n ≤ start) ⊎ (start + length bytes ≤ addr) → put_number start bytes addr n value ≡ bytes
number_away start bytes addr zero value away = refl
number_away start bytes addr (suc n) value away =
    ap (λ bs. put_number start bs (addr + 1) n (value / 256)) (put_away start bytes addr (value % 256) (elim away [ inl below ↦ inl (omega arith) | inr above ↦ inr above ]))
    ∙ number_away start bytes (addr + 1) n (value / 256) (elim away [ inl below ↦ inl (omega arith) | inr above ↦ inr (omega arith) ])

part_away : (p : Part) (addr n value : ℕ) → IsAway addr n p → part_with addr n value p ≡ p
part_away p addr n value away = ap (λ bs. record { start = p.start; bytes = bs }) (number_away p.start p.bytes addr n value away)

map_fixed : (f : Part → Part) (ps : List Part) → ((j : ℕ) → j < length ps → f (part_at ps j) ≡ part_at ps j) → map f ps ≡ ps
map_fixed f [] same = refl
map_fixed f (p ∷ ps) same =
    let rest = map_fixed f ps (λ j below. same (suc j) (omega arith)) in
    λ k. (same 0 (omega arith)) k ∷ rest k

map_one : (f : Part → Part) (ps : List Part) (i : ℕ) → ((j : ℕ) → j < length ps → j ≢ i → f (part_at ps j) ≡ part_at ps j) → set ps i (f (part_at ps i)) ≡ map f ps
map_one f [] i same = refl
map_one f (p ∷ ps) zero same =
    ap (λ qs. f p ∷ qs) (sym (map_fixed f ps (λ j below. same (suc j) (omega arith) (omega arith))))
map_one f (p ∷ ps) (suc i) same =
    let here : p ≡ f p = sym (same 0 (omega arith) (omega arith)) in
    λ k. here k ∷ (map_one f ps i (λ j below ne. same (suc j) (omega arith) (omega arith))) k

-- a store in the part that has its bytes is one in every part
pub put_there : (parts : List Part) (i addr n value : ℕ) → AreApart parts → i < length parts → part_has addr n (part_at parts i) ≡ true
    → set parts i (part_with addr n value (part_at parts i)) ≡ map (part_with addr n value) parts
put_there parts i addr n value apart known has =
    map_one (part_with addr n value) parts i (λ j below ne. part_away (part_at parts j) addr n value (others_away parts i addr n j apart known has below ne))

-- a store leaves how many bytes there are
length_byte : (start : ℕ) (bytes : List ℕ) (at value : ℕ) → length (put_byte start bytes at value) ≡ length bytes
length_byte start bytes at value = elim (leb_tells start at) [ inl low ↦ rw (low.0) (length-set bytes (at - start) value) | inr high ↦ rw (high.0) refl ]

length_number : (start : ℕ) (bytes : List ℕ) (addr n value : ℕ) → length (put_number start bytes addr n value) ≡ length bytes
length_number start bytes addr zero value = refl
length_number start bytes addr (suc n) value =
    length_number start (put_byte start bytes addr (value % 256)) (addr + 1) n (value / 256) ∙ length_byte start bytes addr (value % 256)

pub apart_kept : (ps : List Part) (addr n value : ℕ) → AreApart ps → AreApart (map (part_with addr n value) ps)
apart_kept ps addr n value apart = λ i j d before below.
    let f : Part → Part = part_with addr n value in
    let high : j < length ps = (let e = length-map ps f in omega arith) in
    let p = part_at ps i in
    let was = apart i j no_part before high in
    let long = length_number p.start p.bytes addr n value in
    let had : (f p).start + length (f p).bytes ≤ (f (part_at ps j)).start = omega arith in
    rw (get_or-map f ps i no_part d (omega arith), get_or-map f ps j no_part d high) had

-- a part whose bytes were written in place
pub part_written : {Z : Type 0} (start : ℕ) (bytes : Vec ℕ Z) (new : List ℕ) (addr n value : ℕ) → length new ≡ bytes.len → new ≡ put_number start bytes.items addr n value
    → record { start = start; bytes = (with_items bytes new).items } ≡ part_with addr n value (record { start = start; bytes = bytes.items })
part_written start bytes new addr n value long is = λ i. record { start = start; bytes = (with_items_is bytes new long ∙ is) i }
