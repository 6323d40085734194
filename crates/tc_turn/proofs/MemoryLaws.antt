-- A thread's own memory, kept in parts, is a map from addresses to bytes.
use Rattle.tc_turn.proofs.Vocabulary.{◌≡◌, ◌≢◌, ℕ, zero, suc, ◌+◌, ◌-◌, ◌/◌, ◌%◌, ◌<◌, ◌≤◌, ◌==◌, true, false, All, List, [], ◌∷◌, ◌++◌, length, map, set, get_or, refl, sym, ap, subst, ◌∙◌, arith, inl, inr, if◌then◌else◌, slice_get, Option, Some, None, unwrap_or, leb_tells, slice_get-get_or, get_or-replicate, length-replicate, ext_get_or, Shown}
use Rattle.tc_turn.proofs.Vocabulary.{byte_of, own_region, with_byte, with_number, byte_from, put_byte, part_with, Part, own_of, own_bytes, starting_byte, starting_bytes, own_at_start, Region, option_map, option_or, no_part, with_piece, AreApart, length-map-range_with_len, get_or-map-range_with_len}
use Rattle.std.proofs.lemmas.List.Elements.{All-push}
use Rattle.std.proofs.lemmas.List.Quantifiers.{all_pairs_push}
use Rattle.tc_elf.specs.declared.image.Region.TheVariants as region
use Rattle.tc_turn.proofs.PartLaws.{none_has, or_none}

-- one byte in a list of bytes
get_same : (bytes : List ℕ) (i value : ℕ) → slice_get (set bytes i value) i ≡ option_map (λ old. value) (slice_get bytes i)
get_same [] i value = refl
get_same (b ∷ bytes) zero value = refl
get_same (b ∷ bytes) (suc i) value = get_same bytes i value

get_other : (bytes : List ℕ) (i k value : ℕ) → k ≢ i → slice_get (set bytes i value) k ≡ slice_get bytes k
get_other [] i k value ne = refl
get_other (b ∷ bytes) zero zero value ne = absurd (ne refl)
get_other (b ∷ bytes) zero (suc k) value ne = refl
get_other (b ∷ bytes) (suc i) zero value ne = refl
get_other (b ∷ bytes) (suc i) (suc k) value ne = get_other bytes i k value (λ e. ne (ap suc e))

-- a byte that is put among the bytes from a start on
pub byte_from-put : (start : ℕ) (bytes : List ℕ) (at value k : ℕ) → byte_from start (put_byte start bytes at value) k ≡ with_byte (byte_from start bytes) at value k
byte_from-put start bytes at value k = grind (arith, get_same, get_other)

-- one byte is put in a part
abbrev byte_part : ℕ → ℕ → Part → Part
byte_part at value p = record { start = p.start; bytes = put_byte p.start p.bytes at value }

-- a byte that is put into each of two memories is put into both
or_with_byte : (a b : ℕ → Option ℕ) (at value k : ℕ) → option_or (with_byte a at value k) (with_byte b at value k) ≡ with_byte (λ k. option_or (a k) (b k)) at value k
or_with_byte a b at value k = grind arith

own_of-put : (parts : List Part) (at value k : ℕ) → own_of (map (byte_part at value) parts) k ≡ with_byte (own_of parts) at value k
own_of-put [] at value k = elim (k == at) as (λ b. None ≡ (if b then option_map {T = ℕ} (λ old. value) None else None)) [ true ↦ refl | false ↦ refl ]
own_of-put (p ∷ parts) at value k =
    ap (λ o. option_or o (own_of (map (byte_part at value) parts) k)) (byte_from-put p.start p.bytes at value k)
    ∙ ap (option_or (with_byte (byte_from p.start p.bytes) at value k)) (own_of-put parts at value k)
    ∙ or_with_byte (byte_from p.start p.bytes) (own_of parts) at value k

-- a number of no bytes changes no part
map_same : (parts : List Part) (at value : ℕ) → map (part_with at 0 value) parts ≡ parts
map_same [] at value = refl
map_same (p ∷ parts) at value = ap (λ ps. p ∷ ps) (map_same parts at value)

map_twice : (parts : List Part) (at n value : ℕ) → map (part_with at (suc n) value) parts ≡ map (part_with (at + 1) n (value / 256)) (map (byte_part at (value % 256)) parts)
map_twice [] at n value = refl
map_twice (p ∷ parts) at n value = ap (λ ps. part_with at (suc n) value p ∷ ps) (map_twice parts at n value)

-- to write in every part is to write in the map
pub parts_put : (parts : List Part) (at n value : ℕ) → own_of (map (part_with at n value) parts) ≡ with_number (own_of parts) at n value
parts_put parts at zero value = ap own_of (map_same parts at value)
parts_put parts at (suc n) value =
    ap own_of (map_twice parts at n value)
    ∙ parts_put (map (byte_part at (value % 256)) parts) (at + 1) n (value / 256)
    ∙ ap (λ m. with_number m (at + 1) n (value / 256)) (λ i k. own_of-put parts at (value % 256) k i)

-- how many bytes there are at the start
length_starting : (image : Shown) (start n : ℕ) → length (starting_bytes image start n) ≡ n
length_starting image start n = length-map-range_with_len (starting_byte image) start n

-- the bytes of addresses of which each has one
pub bytes_each : (image : Shown) (start n : ℕ) (bytes : List ℕ) → length bytes ≡ n → ((i : ℕ) → i < n → byte_of image (start + i) ≡ Some (get_or bytes i 0)) → bytes ≡ starting_bytes image start n
bytes_each image start n bytes long each =
    ext_get_or 0 bytes (starting_bytes image start n) (long ∙ sym (length_starting image start n))
    (λ i below.
    let within : i < n = omega (arith, long) in
    sym (get_or-map-range_with_len (starting_byte image) start n i (start + i) 0 within refl ∙ ap (λ o. unwrap_or o 0) (each i within)))

-- the byte at an address of this place in a thread's own memory
abbrev own_byte : Shown → Region → ℕ → Option ℕ
own_byte image region.Private at = Some (starting_byte image at)
own_byte image region.Stack at = Some 0
own_byte image _ at = None

own_at_start_is : (image : Shown) (at : ℕ) → own_at_start image at ≡ own_byte image (own_region image at) at
unfolding own_at_start
own_at_start_is image at = grind arith

-- bytes that stand from a start on, if there are any
abbrev byte_by : ℕ → Option (List ℕ) → ℕ → Option ℕ
byte_by start None at = None
byte_by start (Some bytes) at = byte_from start bytes at

abbrev AreFew : ℕ → Option (List ℕ) → Type 0
AreFew n None = Unit {0}
AreFew n (Some bytes) = length bytes ≤ n

byte_there : (start : ℕ) (bytes : List ℕ) (at value : ℕ) → start ≤ at → at < start + length bytes → get_or bytes (at - start) 0 ≡ value → byte_from start bytes at ≡ Some value
byte_there start bytes at value low high is = grind (arith, slice_get-get_or)

bytes_are : (image : Shown) (r : Region) (start n at : ℕ) → start ≤ at → at < start + n → byte_by start (own_bytes image r start n) at ≡ own_byte image r at
bytes_are image r start n at low high = grind (arith, byte_there, length_starting, get_or-map-range_with_len, length-replicate, get_or-replicate)

are_few : (image : Shown) (r : Region) (start n : ℕ) → AreFew n (own_bytes image r start n)
are_few image r start n = grind (arith, length_starting, length-replicate)

own_of-append : (parts : List Part) (p : Part) (at : ℕ) → own_of (parts ++ p ∷ []) at ≡ option_or (own_of parts at) (byte_from p.start p.bytes at)
own_of-append [] p at = or_none (byte_from p.start p.bytes at)
own_of-append (q ∷ parts) p at =
    ap (option_or (byte_from q.start q.bytes at)) (own_of-append parts p at)
    ∙ sym (assoc (byte_from q.start q.bytes at) (own_of parts at) (byte_from p.start p.bytes at))
  where
    assoc : (a b c : Option ℕ) → option_or (option_or a b) c ≡ option_or a (option_or b c)
    assoc None b c = refl
    assoc (Some x) b c = refl

own_of-with : (parts : List Part) (start : ℕ) (o : Option (List ℕ)) (at : ℕ) → own_of (with_piece parts start o) at ≡ option_or (own_of parts at) (byte_by start o at)
own_of-with parts start o at = grind (arith, own_of-append)

before : (start : ℕ) (o : Option (List ℕ)) (at : ℕ) → at < start → byte_by start o at ≡ None
before start o at low = grind arith

-- the parts of the addresses before one
pub record AreMade (image : Shown) (parts : List Part) (end : ℕ) : Type 0 where
  pub own : (at : ℕ) → at < end → own_of parts at ≡ own_at_start image at
  pub low : All (λ p. p.start + length p.bytes ≤ end) parts
  pub apart : AreApart parts

none_yet : (image : Shown) (parts : List Part) (end at : ℕ) → AreMade image parts end → end ≤ at → own_of parts at ≡ None
none_yet image parts end at made past = none_has parts at (λ j known. inr (let low = made.low j no_part known in omega arith))

low_more : (parts : List Part) (start n : ℕ) (o : Option (List ℕ)) → All (λ p. p.start + length p.bytes ≤ start) parts → AreFew n o → All (λ p. p.start + length p.bytes ≤ start + n) (with_piece parts start o)
low_more parts start n None low few = λ k d below. (let was = low k d below in omega arith)
low_more parts start n (Some bytes) low few = All-push (λ p. p.start + length p.bytes ≤ start + n) parts (record { start = start; bytes = bytes }) (λ k d below. (let was = low k d below in omega arith)) (omega arith)

apart_more : (parts : List Part) (start : ℕ) (o : Option (List ℕ)) → All (λ p. p.start + length p.bytes ≤ start) parts → AreApart parts → AreApart (with_piece parts start o)
apart_more parts start None low apart = apart
apart_more parts start (Some bytes) low apart = all_pairs_push (λ p q. p.start + length p.bytes ≤ q.start) parts (record { start = start; bytes = bytes }) apart low

pub piece_more : (image : Shown) (parts : List Part) (start n : ℕ) (r : Region) (o : Option (List ℕ)) → AreMade image parts start
    → ((at : ℕ) → start ≤ at → at < start + n → own_region image at ≡ r) → o ≡ own_bytes image r start n → AreMade image (with_piece parts start o) (start + n)
piece_more image parts start n r o made each is = record {
  own = λ at below. own_of-with parts start o at ∙ elim (leb_tells start at) [
    | inl from ↦
        ap (λ x. option_or x (byte_by start o at)) (none_yet image parts start at made from.1)
        ∙ ap (λ o. byte_by start o at) is ∙ bytes_are image r start n at from.1 below
        ∙ ap (λ r. own_byte image r at) (sym (each at from.1 below)) ∙ sym (own_at_start_is image at)
    | inr low ↦
        let first : at < start = (let l = low.1 in omega arith) in
        ap (option_or (own_of parts at)) (before start o at first) ∙ or_none (own_of parts at) ∙ made.own at first
  ];
  low = low_more parts start n o made.low (subst (AreFew n) (sym is) (are_few image r start n));
  apart = apart_more parts start o made.low made.apart;
}

-- when all pieces are there
pub own_made : (image : Shown) (parts : List Part) (end : ℕ) → AreMade image parts end → ((at : ℕ) → end ≤ at → own_region image at ≡ region.Nothing) → own_of parts ≡ own_at_start image
own_made image parts end made past = λ i at. by at i
  where
    by : (at : ℕ) → own_of parts at ≡ own_at_start image at
    by at = elim (leb_tells end at) [
      | inl high ↦ none_yet image parts end at made high.1 ∙ ap (λ r. own_byte image r at) (sym (past at high.1)) ∙ sym (own_at_start_is image at)
      | inr low ↦ made.own at (let l = low.1 in omega arith)
    ]
