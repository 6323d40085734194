-- Notes one after another, and what a search in them finds.
use Rattle.std.proofs.Common.{◌≡◌, ℕ, zero, suc, ◌-◌, ◌<◌, ◌≤◌, Bool, true, false, nat_lt, if◌then◌else◌, List, [], ◌∷◌, length, drop, map, filter, Option, Some, None, Result, Ok, Err, IsErr, refl, sym, ap, ◌∙◌, arith, length-drop}
use Rattle.std.specs.Option.{option_map, option_to_list}
use Rattle.std.specs.Result.{result_ok}
use Rattle.std.proofs.lemmas.Bool.Decides.{nat_tests}
use Rattle.tc_elf.specs.Notes.{Note, notes_in, notes_of, first_note, descriptor_end, next_at, is_tclocks, descriptors_of, both, single}
use Rattle.tc_elf.specs.Search.{first_descriptor, only_one}

-- ---- the list of notes

notes_in_by : (n m : ℕ) (b : List ℕ) → ((c : List ℕ) → length c ≤ n → length c ≤ m → notes_in n c ≡ notes_in m c) → (short : Bool) → nat_lt (length b) 12 ≡ short → length b ≤ suc n → length b ≤ suc m → notes_in (suc n) b ≡ notes_in (suc m) b
unfolding notes_in
notes_in_by n m b fewer true is in_n in_m = rw (is) refl
notes_in_by n m b fewer false is in_n in_m =
    let long : 12 ≤ length b = grind (arith, nat_tests) in
    let shorter : length (drop (next_at b) b) ≡ length b - next_at b = length-drop (next_at b) b in
    rw (is) (ap (λ found. if nat_lt (length b) (descriptor_end b) then None else option_map (λ notes. first_note b ∷ notes) found)
    (fewer (drop (next_at b) b) (omega arith) (omega arith)))

-- a greater number than that of the bytes changes nothing
notes_in_same : (n m : ℕ) (b : List ℕ) → length b ≤ n → length b ≤ m → notes_in n b ≡ notes_in m b
unfolding notes_in
notes_in_same zero zero b in_n in_m = refl
notes_in_same zero (suc m) b in_n in_m = let short : nat_lt (length b) 12 ≡ true = grind (arith, nat_tests) in rw (short) refl
notes_in_same (suc n) zero b in_n in_m = let short : nat_lt (length b) 12 ≡ true = grind (arith, nat_tests) in rw (short) refl
notes_in_same (suc n) (suc m) b in_n in_m = notes_in_by n m b (notes_in_same n m) (nat_lt (length b) 12) refl in_n in_m

no_notes_in : (n : ℕ) (b : List ℕ) → length b < 12 → notes_in n b ≡ Some []
unfolding notes_in
no_notes_in zero b few = refl
no_notes_in (suc n) b few = let short : nat_lt (length b) 12 ≡ true = grind (arith, nat_tests) in rw (short) refl

cut_notes_in : (n : ℕ) (b : List ℕ) → 12 ≤ length b → length b < descriptor_end b → notes_in (suc n) b ≡ None
unfolding notes_in
cut_notes_in n b header cut =
    let long : nat_lt (length b) 12 ≡ false = grind (arith, nat_tests) in
    let over : nat_lt (length b) (descriptor_end b) ≡ true = grind (arith, nat_tests) in
    rw (long, over) refl

more_notes_in : (n : ℕ) (b : List ℕ) → 12 ≤ length b → descriptor_end b ≤ length b → notes_in (suc n) b ≡ option_map (λ notes. first_note b ∷ notes) (notes_in n (drop (next_at b) b))
unfolding notes_in
more_notes_in n b header whole =
    let long : nat_lt (length b) 12 ≡ false = grind (arith, nat_tests) in
    let within : nat_lt (length b) (descriptor_end b) ≡ false = grind (arith, nat_tests) in
    rw (long, within) refl

-- ---- the search

abbrev found_in : Option (List Note) → Option (List (List ℕ))
found_in notes = option_map (λ notes. map (λ (note : Note). note.descriptor) (filter is_tclocks notes)) notes

found_before : (note : Note) (notes : Option (List Note)) → found_in (option_map (λ more. note ∷ more) notes) ≡ both (Some (option_to_list (if is_tclocks note then Some note.descriptor else None))) (found_in notes)
found_before note None = refl
found_before note (Some notes) = elim (is_tclocks note) as (λ b. Some (map (λ (n : Note). n.descriptor) (if b then note ∷ filter is_tclocks notes else filter is_tclocks notes)) ≡ both (Some (option_to_list (if b then Some note.descriptor else None))) (found_in (Some notes))) [ true ↦ refl | false ↦ refl ]

pub single_both : (xs ys : Option (List (List ℕ))) → single (both xs ys) ≡ only_one (single xs) (single ys)
single_both None ys = refl
single_both (Some []) None = refl
single_both (Some []) (Some ys) = refl
single_both (Some (d ∷ [])) None = refl
single_both (Some (d ∷ [])) (Some []) = refl
single_both (Some (d ∷ [])) (Some (e ∷ [])) = refl
single_both (Some (d ∷ [])) (Some (e ∷ f ∷ ds)) = refl
single_both (Some (d ∷ e ∷ ds)) None = refl
single_both (Some (d ∷ e ∷ ds)) (Some ys) = refl

single_of : (o : Option (List ℕ)) → single (Some (option_to_list o)) ≡ Some o
single_of None = refl
single_of (Some d) = refl

pub only_one_assoc : (x y z : Option (Option (List ℕ))) → only_one (only_one x y) z ≡ only_one x (only_one y z)
only_one_assoc None y z = refl
only_one_assoc (Some None) y z = refl
only_one_assoc (Some (Some d)) None z = refl
only_one_assoc (Some (Some d)) (Some None) z = refl
only_one_assoc (Some (Some d)) (Some (Some e)) None = refl
only_one_assoc (Some (Some d)) (Some (Some e)) (Some None) = refl
only_one_assoc (Some (Some d)) (Some (Some e)) (Some (Some f)) = refl

only_one_nothing : (found : Option (List ℕ)) → only_one (Some found) (Some None) ≡ Some found
only_one_nothing None = refl
only_one_nothing (Some d) = refl

only_one_cut : (found : Option (List ℕ)) → only_one (Some found) None ≡ None
only_one_cut None = refl
only_one_cut (Some d) = refl

-- with fewer bytes than a note's header the search is done
pub search_ends : (found : Option (List ℕ)) (b : List ℕ) → length b < 12 → only_one (Some found) (single (descriptors_of b)) ≡ Some found
search_ends found b few = rw (no_notes_in (length b) b few) (only_one_nothing found)

-- at a note that is cut it finds nothing sound
pub search_fails : (found : Option (List ℕ)) (b : List ℕ) → 12 ≤ length b → length b < descriptor_end b → only_one (Some found) (single (descriptors_of b)) ≡ None
search_fails found b header cut =
    let count : length b ≡ suc (length b - 1) = omega arith in
    let none : notes_of b ≡ None = ap (λ n. notes_in n b) count ∙ cut_notes_in (length b - 1) b header cut in
    rw (none) (only_one_cut found)

-- else it goes on behind the first note
pub search_goes_on : (b : List ℕ) → 12 ≤ length b → descriptor_end b ≤ length b → single (descriptors_of b) ≡ only_one (Some (first_descriptor b)) (single (descriptors_of (drop (next_at b) b)))
search_goes_on b header whole =
    let rest : List ℕ = drop (next_at b) b in
    let count : length b ≡ suc (length b - 1) = omega arith in
    let shorter : length rest ≡ length b - next_at b = length-drop (next_at b) b in
    let notes : notes_of b ≡ option_map (λ notes. first_note b ∷ notes) (notes_of rest) =
    ap (λ n. notes_in n b) count
    ∙ more_notes_in (length b - 1) b header whole
    ∙ ap (λ found. option_map (λ notes. first_note b ∷ notes) found) (notes_in_same (length b - 1) (length rest) rest (omega arith) (omega arith)) in
    ap (λ found. single (found_in found)) notes
    ∙ ap (λ found. single found) (found_before (first_note b) (notes_of rest))
    ∙ single_both (Some (option_to_list (first_descriptor b))) (descriptors_of rest)
    ∙ ap (λ found. only_one found (single (descriptors_of rest))) (single_of (first_descriptor b))

-- a step of the search, with what was found before
pub search_step : (found : Option (List ℕ)) (b : List ℕ) → 12 ≤ length b → descriptor_end b ≤ length b → only_one (only_one (Some found) (Some (first_descriptor b))) (single (descriptors_of (drop (next_at b) b))) ≡ only_one (Some found) (single (descriptors_of b))
search_step found b header whole =
    only_one_assoc (Some found) (Some (first_descriptor b)) (single (descriptors_of (drop (next_at b) b)))
    ∙ ap (λ other. only_one (Some found) other) (sym (search_goes_on b header whole))

-- nothing is told after an error
pub error_none : {T U E : Type 0} (f : T → U) → (r : Result T E) → IsErr r → option_map f (result_ok r) ≡ None
error_none f (Ok x) error = grind arith
error_none f (Err e) error = refl
