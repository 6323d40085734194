-- What the image of a file has that nothing refuses.
use Rattle.std.proofs.Common.{◌≡◌, ℕ, ◌+◌, ◌*◌, ◌%◌, ◌^◌, ◌≤◌, Bool, true, false, if◌then◌else◌, List, [], ◌∷◌, length, filter, All, AllPairs, Option, Some, None, unwrap_or, slice_index_or, refl, sym, ap, ◌∙◌, subst, arith}
use Rattle.std.specs.List.{list_any}
use Rattle.std.specs.Option.{option_or}
use Rattle.std.proofs.lemmas.Bool.{or_parts, and_parts}
use Rattle.std.proofs.lemmas.Bool.Decides.{nat_tests}
use Rattle.std.proofs.lemmas.Grind.{common_steps}
use Rattle.std.proofs.lemmas.List.{length-map}
use Rattle.std.proofs.lemmas.List.FromFn.{length-map-range_with_len}
use Rattle.std.proofs.lemmas.List.Sums.{length-filter, count_by-le-length}
use Rattle.std.proofs.lemmas.List.Elements.{All-nil, All-cons}
use Rattle.std.proofs.lemmas.List.Folds.{Any-from_list_any}
use Rattle.std.proofs.lemmas.List.Kept.{AllPairs-cons}
use Rattle.tc_elf.specs.declared.limits.TheConstants.{MAX_HEADERS, MAX_THREADS, MAX_GUARDS}
use Rattle.tc_elf.specs.declared.segment.Segment.{Segment}
use Rattle.tc_elf.specs.Elf.{is_range, range_of, ranges_of, ranges, segments, content, e_phnum, e_phoff, segment_at}
use Rattle.tc_elf.specs.Notes.{Layout, layout, layout_over, layout_by, header_layout, described_layout, is_bad_descriptor, thread_count, guard_count, entry_in, guard_in, single, descriptors_over}
use Rattle.tc_elf.specs.Refusals.{header_refusal, is_bad_header, segment_refusal, layout_refusal, is_bad_load, is_bad_entry, is_bad_guard, guards_meet, any_pair}
use Rattle.tc_elf.specs.Places.{in_writable}
use Rattle.tc_elf.specs.Kept.{IsRange, IsGuard, IsImage}
use Rattle.tc_elf.specs.Loading.{image_of, refusal, shown_of, subset}
use Rattle.tc_elf.specs.declared.refusal.Refusal.{Refusal}
use Rattle.tc_elf.specs.Shown.{Shown, Range, Entry, Guard}

-- ---- tests that no element passes

tests_false : {X : Type 0} (p : X → Bool) → (xs : List X) → list_any p xs ≡ false → All (λ x. p x ≡ false) xs
tests_false p [] none = All-nil (λ x. p x ≡ false)
tests_false p (x ∷ xs) none =
    let parts = or_parts (p x) (list_any p xs) none in
    All-cons (λ x. p x ≡ false) x xs parts.0 (tests_false p xs parts.1)

pairs_false : {X : Type 0} (test : X → X → Bool) → (xs : List X) → any_pair test xs ≡ false → AllPairs (λ x y. test x y ≡ false) xs
pairs_false test [] none = λ i j d before below. absurd (omega arith)
pairs_false test (x ∷ xs) none =
    let parts = or_parts (list_any (test x) xs) (any_pair test xs) none in
    AllPairs-cons (λ x y. test x y ≡ false) x xs (tests_false (test x) xs parts.0) (pairs_false test xs parts.1)

-- ---- ranges

few_ranges : (b : List ℕ) (ss : List Segment) → length (ranges_of b ss) ≤ length ss
few_ranges b ss = rw (length-map (filter is_range ss) (range_of b), length-filter is_range ss) (count_by-le-length is_range ss)

length-content : (b : List ℕ) (s : Segment) → is_range s ≡ true → is_bad_load b s ≡ false → length (content b s) ≡ s.memory_size
length-content b s range fits = grind (arith, common_steps, nat_tests, and_parts, or_parts)

range_fits : (b : List ℕ) (s : Segment) → is_range s ≡ true → is_bad_load b s ≡ false → s.address + s.memory_size ≤ 2 ^ 32
range_fits b s range fits = grind (arith, nat_tests, and_parts, or_parts)

IsRange-by : (b : List ℕ) (s : Segment) (ss : List Segment) → (range : Bool) → is_range s ≡ range → is_bad_load b s ≡ false → All IsRange (ranges_of b ss) → All IsRange (ranges_of b (s ∷ ss))
IsRange-by b s ss true is fits others =
    rw (is) (All-cons IsRange (range_of b s) (ranges_of b ss) (record { fits = range_fits b s is fits; whole = length-content b s is fits }) others)
IsRange-by b s ss false is fits others = rw (is) others

IsRange-all : (b : List ℕ) (ss : List Segment) → list_any (is_bad_load b) ss ≡ false → All IsRange (ranges_of b ss)
IsRange-all b [] fit = All-nil IsRange
IsRange-all b (s ∷ ss) fit =
    let parts = or_parts (is_bad_load b s) (list_any (is_bad_load b) ss) fit in
    IsRange-by b s ss (is_range s) refl parts.0 (IsRange-all b ss parts.1)

-- ---- guards

guard_fits : (rs : List Range) (g : Guard) → All IsRange rs → list_any (in_writable g.start g.length) rs ≡ true → g.start + g.length ≤ 2 ^ 32
guard_fits rs g kept inside =
    let one = Any-from_list_any (in_writable g.start g.length) rs inside in
    let k : ℕ = one.0 in
    let r : Range = one.1 in
    let range : IsRange r = subst IsRange one.3 (kept k r one.2) in
    let within : in_writable g.start g.length r ≡ true = one.4 in
    let ends = range.fits in
    grind (arith, nat_tests, and_parts)

IsGuard-checked : (rs : List Range) (l : Layout) (g : Guard) → All IsRange rs → is_bad_guard rs g ≡ false → IsGuard (image_of rs l) g
IsGuard-checked rs l g kept good =
    let inside : list_any (in_writable g.start g.length) rs ≡ true = grind (arith, nat_tests, or_parts) in
    record {
      aligned = grind (arith, nat_tests, or_parts);
      whole = grind (arith, nat_tests, or_parts);
      least = grind (arith, nat_tests, or_parts);
      most = grind (arith, nat_tests, or_parts);
      fits = guard_fits rs g kept inside;
      inside = inside;
    }

-- ---- what no refusal tells

-- where the first test of a list of refusals holds nothing else is asked
passed : (wrong : Bool) (r : Refusal) (o : Option Refusal) → (if wrong then Some r else o) ≡ None → (wrong ≡ false) × (o ≡ None)
passed true r o none = grind arith
passed false r o none = (refl, none)

header_sound : (b : List ℕ) → header_refusal b ≡ None → is_bad_header b ≡ false
header_sound b sound = grind (arith, passed)

pub few_segments : (b : List ℕ) → header_refusal b ≡ None → length (segments b) ≤ MAX_HEADERS
few_segments b sound =
    let good = header_sound b sound in
    let few : e_phnum b ≤ MAX_HEADERS = grind (arith, nat_tests, or_parts) in
    rw (length-map-range_with_len (λ i. segment_at b (e_phoff b + 32 * i)) 0 (e_phnum b)) few

segments_fit : (b : List ℕ) (ss : List Segment) → segment_refusal b ss ≡ None → list_any (is_bad_load b) ss ≡ false
segments_fit b ss sound = grind (arith, or_parts)

entries_good : (rs : List Range) (l : Layout) → layout_refusal rs (Some l) ≡ None → list_any (is_bad_entry rs) l.entries ≡ false
entries_good rs l sound = grind (arith, or_parts)

guards_good : (rs : List Range) (l : Layout) → layout_refusal rs (Some l) ≡ None → list_any (is_bad_guard rs) l.guards ≡ false
guards_good rs l sound = grind (arith, or_parts)

guards_apart : (rs : List Range) (l : Layout) → layout_refusal rs (Some l) ≡ None → any_pair guards_meet l.guards ≡ false
guards_apart rs l sound = grind (arith, or_parts)

entry_aligned : (rs : List Range) (e : Entry) → is_bad_entry rs e ≡ false → e.address % 4 ≡ 0
entry_aligned rs e good = grind (arith, nat_tests, or_parts)

some_same : (l m : Layout) → Some l ≡ Some m → l ≡ m
some_same l m same = grind arith

-- the numbers of threads and guards are within their limits
pub record IsSmall (l : Layout) : Type 0 where
  pub some_thread : 1 ≤ length l.entries
  pub few_threads : length l.entries ≤ MAX_THREADS
  pub few_guards : length l.guards ≤ MAX_GUARDS

IsSmall-described : (d : List ℕ) → is_bad_descriptor d ≡ false → IsSmall (described_layout d)
IsSmall-described d good =
    let threads = length-map-range_with_len (λ i. entry_in d (12 + 8 * i)) 0 (thread_count d) in
    let guards = length-map-range_with_len (λ i. guard_in d (12 + 8 * thread_count d + 8 * i)) 0 (guard_count d) in
    record {
      some_thread = grind (arith, nat_tests, or_parts);
      few_threads = grind (arith, nat_tests, or_parts);
      few_guards = grind (arith, nat_tests, or_parts);
    }

IsSmall-header : (b : List ℕ) → IsSmall (header_layout b)
IsSmall-header b = record { some_thread = omega arith; few_threads = omega arith; few_guards = omega arith }

IsSmall-test : (b d : List ℕ) (bad : Bool) (l : Layout) → is_bad_descriptor d ≡ bad → (if bad then None else Some (described_layout d)) ≡ Some l → IsSmall l
IsSmall-test b d true l is same = grind arith
IsSmall-test b d false l is same = subst IsSmall (some_same (described_layout d) l same) (IsSmall-described d is)

IsSmall-by : (b : List ℕ) (o : Option (Option (List ℕ))) (l : Layout) → layout_by b o ≡ Some l → IsSmall l
IsSmall-by b None l same = grind arith
IsSmall-by b (Some None) l same = subst IsSmall (some_same (header_layout b) l same) (IsSmall-header b)
IsSmall-by b (Some (Some d)) l same = IsSmall-test b d (is_bad_descriptor d) l refl same

IsImage-sound : (b : List ℕ) (l : Layout) → header_refusal b ≡ None → segment_refusal b (segments b) ≡ None → layout b ≡ Some l → layout_refusal (ranges b) (Some l) ≡ None → IsImage (image_of (ranges b) l)
IsImage-sound b l header segment notes sound =
    let small : IsSmall l = IsSmall-by b (single (descriptors_over b (segments b))) l notes in
    let kept : All IsRange (ranges b) = IsRange-all b (segments b) (segments_fit b (segments b) segment) in
    let aligned : All (λ e. is_bad_entry (ranges b) e ≡ false) l.entries = tests_false (is_bad_entry (ranges b)) l.entries (entries_good (ranges b) l sound) in
    let good : All (λ g. is_bad_guard (ranges b) g ≡ false) l.guards = tests_false (is_bad_guard (ranges b)) l.guards (guards_good (ranges b) l sound) in
    record {
      few_ranges = omega (arith, few_ranges b (segments b), few_segments b header);
      some_thread = small.some_thread;
      few_threads = small.few_threads;
      few_guards = small.few_guards;
      ranges = kept;
      entries = λ k d below. entry_aligned (ranges b) (slice_index_or l.entries k d) (aligned k d below);
      guards = λ k d below. IsGuard-checked (ranges b) l (slice_index_or l.guards k d) kept (good k d below);
      apart = pairs_false guards_meet l.guards (guards_apart (ranges b) l sound);
    }

IsImage-by : (b : List ℕ) (o : Option Layout) → layout b ≡ o → header_refusal b ≡ None → segment_refusal b (segments b) ≡ None → layout_refusal (ranges b) o ≡ None → IsImage (image_of (ranges b) (unwrap_or o (header_layout b)))
IsImage-by b None notes header segment sound = grind arith
IsImage-by b (Some l) notes header segment sound = IsImage-sound b l header segment notes sound

option_or_none : {T : Type 0} (x y : Option T) → option_or x y ≡ None → (x ≡ None) × (y ≡ None)
option_or_none None y none = (refl, none)
option_or_none (Some x) y none = grind arith

-- what a file of the subset stands for is an image
IsImage-subset : (b : List ℕ) (image : Shown) → subset b image → IsImage image
unfolding refusal shown_of
IsImage-subset b image loaded =
    let first = option_or_none (header_refusal b) (option_or (segment_refusal b (segments b)) (layout_refusal (ranges b) (layout b))) loaded.0 in
    let second = option_or_none (segment_refusal b (segments b)) (layout_refusal (ranges b) (layout b)) first.1 in
    rw (loaded.1) (IsImage-by b (layout b) refl first.0 second.0 second.1)

pub IsImage-parts : (b : List ℕ) (rs : List Range) (l m : Layout) → m ≡ l → subset b (image_of rs l) → IsImage (image_of rs m)
IsImage-parts b rs l m same loaded = rw (same) (IsImage-subset b (image_of rs l) loaded)

-- the steps of loading make an image of the subset
pub subset-from : (b : List ℕ) (ss : List Segment) (rs : List Range) (l : Layout) → ss ≡ segments b → header_refusal b ≡ None → segment_refusal b ss ≡ None → layout_over b ss ≡ Some l → rs ≡ ranges_of b ss → layout_refusal rs (Some l) ≡ None → subset b (image_of rs l)
unfolding refusal shown_of
subset-from b ss rs l all header segment notes made sound =
    let whole : rs ≡ ranges b = made ∙ ap (λ ss. ranges_of b ss) all in
    let segment_none : segment_refusal b (segments b) ≡ None = ap (λ ss. segment_refusal b ss) (sym all) ∙ segment in
    let has : layout b ≡ Some l = ap (λ ss. layout_over b ss) (sym all) ∙ notes in
    let layout_none : layout_refusal (ranges b) (Some l) ≡ None = ap (λ rs. layout_refusal rs (Some l)) (sym whole) ∙ sound in
    (rw (header, segment_none, has) layout_none, rw (whole, has) refl)
