-- The file of a described guest stands for the image that was described.
use Rattle.std.proofs.Common.{◌≡◌, ℕ, ◌+◌, ◌*◌, ◌≤◌, nat_lt, false, if◌then◌else◌, List, [], ◌∷◌, ◌++◌, length, drop, take, map, All, Some, None, unwrap_or, refl, sym, ap, ◌∙◌, arith, append_assoc}
use Rattle.std.specs.List.{flat_map}
use Rattle.std.specs.Option.{option_or}
use Rattle.std.proofs.lemmas.Bool.{le-ltb}
use Rattle.std.proofs.lemmas.List.{append-nil, length-append}
use Rattle.tc_elf.specs.declared.segment.Segment.{Segment}
use Rattle.tc_elf.specs.declared.limits.TheConstants.{MAX_THREADS, MAX_GUARDS}
use Rattle.tc_elf.specs.Elf.{segments, ranges, ranges_of}
use Rattle.tc_elf.specs.Notes.{Layout, layout, layout_over, layout_by, header_layout, single, both, descriptors_of, descriptors_over, segment_descriptors, described_layout}
use Rattle.tc_elf.specs.Refusals.{header_refusal, segment_refusal, layout_refusal}
use Rattle.tc_elf.specs.Loading.{refusal, shown_of, image_of}
use Rattle.tc_build.specs.declared.build.TheConstants.{MAX_CODE_WORDS, MAX_FILL}
use Rattle.tc_build.specs.Build.{AreWords, word_bytes, note_words, note_length, first_entry, built, pair_words}
use Rattle.tc_build.specs.Described.{described, described_ranges, entry_of, guard_of, StandsFor}
use Rattle.tc_build.proofs.Reading.{length-words}
use Rattle.tc_build.proofs.Headers.{front, whole_segment, header_sound, segments_are}
use Rattle.tc_build.proofs.Segments.{segments_sound}
use Rattle.tc_build.proofs.Parts.{middle, ranges_are}
use Rattle.tc_build.proofs.Noted.{descriptor, descriptor_sound, found, layout_is, length-pairs}

length-front : (entry note code fill : ℕ) → length (front entry note code fill) ≡ 148
length-front entry note code fill = refl

length-note : (entries guards : List (ℕ × ℕ)) → length (flat_map word_bytes (note_words entries guards)) ≡ note_length (length entries) (length guards)
length-note entries guards =
    let a = length-words (note_words entries guards) in
    let b = length-append (flat_map pair_words entries) (flat_map pair_words guards) in
    let c = length-pairs entries in
    let d = length-pairs guards in
    omega arith

-- a file with the parts of a built one, as far as its segments
module _ (b : List ℕ) (entry : ℕ) (code : List ℕ) (entries : List (ℕ × ℕ)) (fill : List ℕ) (guards : List (ℕ × ℕ))
    (is : b ≡ front entry (note_length (length entries) (length guards)) (4 * length code) (length fill) ++ (flat_map word_bytes (note_words entries guards) ++ (flat_map word_bytes code ++ fill))) where
  abbrev note : ℕ
  note = note_length (length entries) (length guards)

  abbrev head : List ℕ
  head = front entry note (4 * length code) (length fill)

  abbrev notes : List ℕ
  notes = flat_map word_bytes (note_words entries guards)

  abbrev words : List ℕ
  words = flat_map word_bytes code

  abbrev one : Segment
  one = whole_segment 4 148 0 note 4

  abbrev two : Segment
  two = whole_segment 1 (148 + note) 0x00100000 (4 * length code) 5

  abbrev three : Segment
  three = whole_segment 1 (148 + note + 4 * length code) 0x00020000 (length fill) 6

  abbrev wanted : Layout
  wanted = record { entries = map entry_of entries; guards = map guard_of guards }

  length-file : length b ≡ 148 + note + 4 * length code + length fill
  length-file =
      let a = length-append head (notes ++ (words ++ fill)) in
      let c = length-append notes (words ++ fill) in
      let d = length-append words fill in
      let e = length-words code in
      let f = length-note entries guards in
      let g = length-front entry note (4 * length code) (length fill) in
      ap length is ∙ omega arith

  module _ (some : 1 ≤ length entries) (threads : length entries ≤ MAX_THREADS) (locks : length guards ≤ MAX_GUARDS) (few : length code ≤ MAX_CODE_WORDS) (little : length fill ≤ MAX_FILL)
      (small_entries : All AreWords entries) (small_guards : All AreWords guards) where
    header_none : header_refusal b ≡ None
    header_none = ap header_refusal is ∙ header_sound entry note (4 * length code) (length fill) (notes ++ (words ++ fill))

    all_segments : segments b ≡ one ∷ two ∷ three ∷ []
    all_segments = ap segments is ∙ segments_are entry note (4 * length code) (length fill) (notes ++ (words ++ fill)) (omega arith) (omega arith)

    segments_none : segment_refusal b (segments b) ≡ None
    segments_none = ap (λ ss. segment_refusal b ss) all_segments ∙ segments_sound b note (4 * length code) (length fill) (let a = length-file in omega arith) (omega arith) little

    note_part : take note (drop 148 b) ≡ notes
    note_part = middle b head notes (words ++ fill) 148 note is (sym (length-front entry note (4 * length code) (length fill))) (sym (length-note entries guards))

    code_part : take (4 * length code) (drop (148 + note) b) ≡ words
    code_part = middle b (head ++ notes) words fill (148 + note) (4 * length code) (is ∙ sym (append_assoc head notes (words ++ fill)))
        (let a = length-append head notes in let f = length-note entries guards in let g = length-front entry note (4 * length code) (length fill) in omega arith)
        (sym (length-words code))

    data_part : take (length fill) (drop (148 + note + 4 * length code) b) ≡ fill
    data_part = middle b (head ++ notes ++ words) fill [] (148 + note + 4 * length code) (length fill)
        (is ∙ (sym (append_assoc head notes (words ++ fill)) ∙ (sym (append_assoc (head ++ notes) words fill) ∙ ap (λ x. head ++ notes ++ words ++ x) (sym (append-nil fill)))))
        (let a = length-append head notes in let c = length-append (head ++ notes) words in let e = length-words code in let f = length-note entries guards in let g = length-front entry note (4 * length code) (length fill) in omega arith)
        refl

    all_ranges : ranges b ≡ described_ranges code fill
    all_ranges = ap (λ ss. ranges_of b ss) all_segments ∙ ranges_are b code fill note code_part data_part

    note_found : segment_descriptors b one ≡ Some (descriptor entries guards ∷ [])
    note_found =
        let past : nat_lt (length b) (148 + note) ≡ false = le-ltb (length b) (148 + note) (let a = length-file in omega arith) in
        rw (past) (ap descriptors_of note_part ∙ found entries guards threads locks)

    descriptors_are : descriptors_over b (one ∷ two ∷ three ∷ []) ≡ Some (descriptor entries guards ∷ [])
    unfolding descriptors_over
    descriptors_are = ap (λ o. both o (Some [])) note_found

    whole_layout : layout b ≡ Some wanted
    whole_layout =
        ap (λ ss. layout_over b ss) all_segments
        ∙ (ap (λ o. layout_by b (single o)) descriptors_are
        ∙ (ap (λ bad. if bad then None else Some (described_layout (descriptor entries guards))) (descriptor_sound entries guards some threads locks)
        ∙ ap (λ l. Some l) (layout_is entries guards threads locks small_entries small_guards)))

    stands_by : StandsFor b (described code entries fill guards)
    unfolding refusal shown_of
    stands_by =
        let reason : refusal b ≡ layout_refusal (described_ranges code fill) (Some wanted) =
        ap (λ h. option_or h (option_or (segment_refusal b (segments b)) (layout_refusal (ranges b) (layout b)))) header_none
        ∙ (ap (λ h. option_or h (layout_refusal (ranges b) (layout b))) segments_none
        ∙ (ap (λ rs. layout_refusal rs (layout b)) all_ranges ∙ ap (λ l. layout_refusal (described_ranges code fill) l) whole_layout)) in
        record {
          refused = reason;
          loaded = λ none. (
            reason ∙ none,
            sym (ap (λ rs. image_of rs (unwrap_or (layout b) (header_layout b))) all_ranges ∙ ap (λ l. image_of (described_ranges code fill) (unwrap_or l (header_layout b))) whole_layout),
          );
        }

-- ---- the built file

-- its parts, one after another
parts_are : (code : List ℕ) (entries : List (ℕ × ℕ)) (fill : List ℕ) (guards : List (ℕ × ℕ))
    → built code entries fill guards ≡ front (first_entry entries) (note_length (length entries) (length guards)) (4 * length code) (length fill) ++ (flat_map word_bytes (note_words entries guards) ++ (flat_map word_bytes code ++ fill))
unfolding built
parts_are code entries fill guards =
    let head : List ℕ = front (first_entry entries) (note_length (length entries) (length guards)) (4 * length code) (length fill) in
    let notes : List ℕ = flat_map word_bytes (note_words entries guards) in
    let words : List ℕ = flat_map word_bytes code in
    append_assoc (head ++ notes) words fill ∙ append_assoc head notes (words ++ fill)

pub length-built : (code : List ℕ) (entries : List (ℕ × ℕ)) (fill : List ℕ) (guards : List (ℕ × ℕ))
    → length (built code entries fill guards) ≡ 148 + note_length (length entries) (length guards) + 4 * length code + length fill
length-built code entries fill guards = length-file (built code entries fill guards) (first_entry entries) code entries fill guards (parts_are code entries fill guards)

pub stands : (code : List ℕ) (entries : List (ℕ × ℕ)) (fill : List ℕ) (guards : List (ℕ × ℕ))
    → 1 ≤ length entries → length entries ≤ MAX_THREADS → length guards ≤ MAX_GUARDS → length code ≤ MAX_CODE_WORDS → length fill ≤ MAX_FILL → All AreWords entries → All AreWords guards
    → StandsFor (built code entries fill guards) (described code entries fill guards)
stands code entries fill guards some threads locks few little small_entries small_guards =
    stands_by (built code entries fill guards) (first_entry entries) code entries fill guards (parts_are code entries fill guards) some threads locks few little small_entries small_guards
