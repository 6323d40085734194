-- Nothing is wrong with the generator's entries and guards, so that nothing refuses its file.
use Rattle.std.proofs.Common.{◌≡◌, ℕ, ◌+◌, ◌*◌, ◌%◌, ◌≤◌, ◌<◌, ◌==◌, nat_lt, nat_le, if◌then◌else◌, true, false, List, [], ◌∷◌, length, map, Some, None, refl, ap, ◌∙◌, arith, eq-eqb}
use Rattle.std.specs.List.{list_any}
use Rattle.std.proofs.lemmas.Bool.{lt-ltb, or_from}
use Rattle.std.proofs.lemmas.Bool.Decides.{nat_tests}
use Rattle.tc_elf.specs.declared.refusal.Refusal.TheVariants as refused
use Rattle.tc_elf.specs.Shown.{Range, Entry}
use Rattle.tc_elf.specs.Refusals.{is_bad_entry, layout_refusal}
use Rattle.tc_build.specs.Described.{described_ranges, code_range, data_range, entry_of, guard_of, place_refusal}
use Rattle.tc_build.specs.Generator.{code_of, entries, fill, guards, generated}
use Rattle.tc_build.proofs.Sizes.{all_begin}

abbrev two_ranges : List ℕ → List Range
two_ranges code = code_range code ∷ data_range fill ∷ []

ranges_are : (code : List ℕ) → 1 ≤ length code → described_ranges code fill ≡ two_ranges code
ranges_are code some = let there : nat_lt 0 (4 * length code) ≡ true = lt-ltb 0 (4 * length code) (omega arith) in rw (there) refl

-- an entry at a word of the code
entry_sound : (code : List ℕ) (k : ℕ) → k < length code → is_bad_entry (two_ranges code) (entry_of (0x00100000 + 4 * k, 0)) ≡ false
entry_sound code k below =
    let even : ((0x00100000 + 4 * k) % 4 == 0) ≡ true = eq-eqb ((0x00100000 + 4 * k) % 4) 0 (omega arith) in
    let low : nat_le 0x00100000 (0x00100000 + 4 * k) ≡ true = grind (arith, nat_tests) in
    let high : nat_le (0x00100000 + 4 * k + 4) (0x00100000 + 4 * length code) ≡ true = grind (arith, nat_tests) in
    rw (even, low, high) refl

pub nothing_refuses : (rounds : ℕ) → place_refusal (generated rounds) ≡ None
nothing_refuses rounds =
    let code : List ℕ = code_of rounds 4 in
    let es : List Entry = map entry_of (entries rounds) in
    let begin = all_begin rounds in
    let some : 1 ≤ length code = omega arith in
    let sound = λ (t : ℕ) (inside : length (code_of rounds t) < length code). entry_sound code (length (code_of rounds t)) inside in
    let all : list_any (is_bad_entry (two_ranges code)) es ≡ false =
    or_from _ _ (sound 0 begin.first) (or_from _ _ (sound 1 begin.second) (or_from _ _ (sound 2 begin.third) (or_from _ _ (sound 3 begin.fourth) refl))) in
    ap (λ rs. layout_refusal rs (Some (record { entries = es; guards = map guard_of guards }))) (ranges_are code some)
    ∙ ap (λ bad. if bad then Some refused.BadEntry else None) all
