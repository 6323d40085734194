use Rattle.std.proofs.Common.{◌≡◌, ◌++◌, ◌*◌, ℕ, List, [], ◌∷◌, length, get_or, ◌≤◌, refl, sym, ap, ◌∙◌, subst, arith}
use Rattle.tc_elf.specs.declared.limits.TheConstants.{MAX_FILE}
use Rattle.tc_build.specs.Described.{described, StandsFor}
use Rattle.tc_build.proofs.Standing.{length-built, stands}
use Rattle.std.specs.List.{flat_map}
use Rattle.tc_build.specs.Build.{word_bytes, header_words, segments_words, note_length, note_words, first_entry, built}
use Rattle.tc_build.proofs.Files.{five_more}
use Rattle.tc_build.proofs.build.build.Goals as goal

first_is : (entries : List (ℕ × ℕ)) → (get_or entries 0 (0, 0)).0 ≡ first_entry entries
first_is [] = refl
first_is (entry ∷ entries) = refl

is_built : (c : goal.In_ok-extend_from_slice) → c.extend_from_slice.new.self.items ≡ built c.args.code.now c.args.entries.now c.args.fill.now c.args.guards.now
unfolding built
is_built c =
    let entries = c.args.entries.now in
    let guards = c.args.guards.now in
    let code = c.args.code.now in
    let fill = c.args.fill.now in
    let first = ap (λ entry. c.new-file.result.items ++ flat_map word_bytes (header_words entry)) (first_is entries) in
    five_more c.new-file.result.items c.push_header.new.file.items c.push_segments.new.file.items c.push_note.new.file.items c.push_words.new.file.items c.extend_from_slice.new.self.items
    (flat_map word_bytes (header_words (first_entry entries)))
    (flat_map word_bytes (segments_words (note_length (length entries) (length guards)) (4 * length code) (length fill)))
    (flat_map word_bytes (note_words entries guards))
    (flat_map word_bytes code)
    fill
    c.new-file.ensures.items (c.in_ok-push_header.ensures ∙ first) c.in_ok-push_segments.ensures c.in_ok-push_note.ensures.written c.in_ok-push_words.ensures.written c.in_ok-extend_from_slice.ensures.items

pub returns-clause-bytes : goal.returns-clause-bytes
returns-clause-bytes c = is_built c

pub returns-clause-size : goal.returns-clause-size
returns-clause-size c = subst (λ (b : List ℕ). length b ≤ MAX_FILE) (sym (is_built c)) (omega (arith, length-built c.args.code.now c.args.entries.now c.args.fill.now c.args.guards.now))

pub returns-clause-image : goal.returns-clause-image
returns-clause-image c =
    let code = c.args.code.now in
    let entries = c.args.entries.now in
    let fill = c.args.fill.now in
    let guards = c.args.guards.now in
    subst (λ (b : List ℕ). StandsFor b (described code entries fill guards)) (sym (is_built c))
    (stands code entries fill guards c.requires.some c.requires.entries c.requires.guards c.requires.code c.requires.fill c.in_ok-push_note.ensures.entries c.in_ok-push_note.ensures.guards)
