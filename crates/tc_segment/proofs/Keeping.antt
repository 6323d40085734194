-- What a lock state keeps through its calls.
use Rattle.std.proofs.Common.{◌≡◌, ℕ, zero, suc, ◌+◌, ◌-◌, Bool, true, false, ◌||◌, List, [], ◌∷◌, ◌++◌, map, length, take, drop, refl, sym, ap, subst, ◌∙◌, ◌<◌, ◌≤◌, arith, length-drop, length-append, inl, inr, Option, Some, None, option_map, is_some, slice_get, if◌then◌else◌}
use Rattle.tc_segment.proofs.Vocabulary.{AllFit, AreParts, AreReplayed, Block, Closes, Entry, Extends, Fits, IsSoundLock, LockView, Mutex, OpenFits, Opened, Opening, Record, Registers, Replays, Shown, closed_with, entries, fresh_state, guard_at, lock_of, more_words, mutex_at_start, noted, opened_at, regs_at, replay_entry, replayed, shown, shown_journal, shown_open, with_closed}
use Rattle.tc_segment.proofs.Vocabulary.{End, IsPlace, StandsAt, behind, block_of, start_of, map-append, ends_thread, grounds, IsStrict, Obeys, PassesOn, block_in, take_all, drop_all, take-append-le, drop-append-le, slice_get-get_or, slice_get_cases, slice_get_within, replay_in, entry_from, strict_as, starting_byte, with_journal}
use Rattle.std.proofs.Math.Seq.{get_or-append_seam}
use Rattle.std.proofs.lemmas.List.FromFn.{length-map-range_with_len}
use Rattle.tc_isa.specs.declared.limits.TheConstants.{MAX_BATCH}
use Rattle.tc_elf.specs.Kept.{IsGuard}
use Rattle.std.proofs.lemmas.List.Elements.{All-get_or, All-head, All-tail, All-weaker}
use Rattle.std.proofs.lemmas.Option.{get_or_from_slice_get}
use Rattle.std.proofs.lemmas.List.Sums.{sum_by-cons}
use Rattle.tc_segment.specs.Draft.{block_from, drafted}
use Rattle.tc_segment.specs.Kept.{IsRecordOf, sum_of}
use Rattle.tc_segment.proofs.Packing.{behind_same, extends_same, place_of-stands, stands_is}
use Rattle.tc_segment.proofs.Journals.{replayed-more, are_replayed-more}

-- registers and words that were there still are
pub record Grows (edges more : List ℕ) (words longer : List ℕ) : Type 0 where
  pub regs : Extends edges more
  pub count : length words ≤ length longer
  pub same : (from n : ℕ) → from + n ≤ length words → take n (drop from longer) ≡ take n (drop from words)

pub word_more : (edges : List ℕ) (words ws : List ℕ) → Grows edges edges words (words ++ ws)
word_more edges words ws = record {
  regs = extends_same edges;
  count = omega (arith, length-append words ws);
  same = λ from n le. ap (take n) (drop-append-le from words ws (omega (arith, le))) ∙ take-append-le n (drop from words) ws (omega (arith, length-drop from words, le));
}

pub edges_more : (edges more : List ℕ) (words : List ℕ) → Extends edges more → Grows edges more words words
edges_more edges more words e = record { regs = e; count = omega arith; same = λ from n le. refl }

-- so nothing changes that is shown of what was there

fits_one : {edges more : List ℕ} {words longer : List ℕ} → Grows edges more words longer → (r : Record) → Fits edges words r → Fits more longer r
fits_one {more = more} grows r fits = record {
  start = grows.regs.places (start_of r) fits.start;
  finish = subst (IsPlace more) (sym (behind_same (start_of r) grows.regs fits.start)) (grows.regs.places _ fits.finish);
  small = fits.small;
  inside = omega (arith, fits.inside, grows.count);
}

pub fits_grown : {edges more : List ℕ} {words longer : List ℕ} → Grows edges more words longer → (rs : List Record) → AllFit edges words rs → AllFit more longer rs
fits_grown grows rs fit = All-weaker _ _ (fits_one grows) rs fit

shown_one : {edges more : List ℕ} {words longer : List ℕ} → Grows edges more words longer → (r : Record) → Fits edges words r → shown more longer r ≡ shown edges words r
shown_one {more = more} grows r fits =
    let finish = ap (regs_at more) (behind_same (start_of r) grows.regs fits.start) ∙ grows.regs.same _ fits.finish in
    λ i. record { block = block_of r; start = (grows.regs.same (start_of r) fits.start) i; fuel = r.fuel; finish = finish i; foreign = (grows.same r.from.value r.words fits.inside) i }

pub shown_grown : {edges more : List ℕ} {words longer : List ℕ} → Grows edges more words longer → (rs : List Record) → AllFit edges words rs → map (shown more longer) rs ≡ map (shown edges words) rs
shown_grown grows [] fit = refl
shown_grown {edges} {words = words} grows (r ∷ rs) fit =
    λ i. (shown_one grows r (All-head (Fits edges words) r rs fit)) i ∷ (shown_grown grows rs (All-tail (Fits edges words) r rs fit)) i

-- an open entry has the words that come
open_more : (from : Mutex) (edges : List ℕ) (words ws : List ℕ) (o : Option Opening) → OpenFits edges words o → option_map (shown_open from edges (words ++ ws)) o ≡ option_map (more_words ws) (option_map (shown_open from edges words) o)
open_more from edges words ws None fit = refl
open_more from edges words ws (Some o) fit =
    λ i. Some (record { start = regs_at edges o.start; fuel = o.fuel; from = from; foreign = (drop-append-le o.from words ws fit.1) i })

pub open_fits-more : (edges : List ℕ) (words ws : List ℕ) (o : Option Opening) → OpenFits edges words o → OpenFits edges (words ++ ws) o
open_fits-more edges words ws None fit = tt
open_fits-more edges words ws (Some o) fit = (fit.0, (let h = fit.1 in omega (arith, length-append words ws)))

-- all entries: those that are sealed, and the closed one
pub entries_are : (n : ℕ) (es : List Entry) → length es ≤ n + 1 → with_closed (take n es) (slice_get es n) ≡ es
entries_are zero [] le = refl
entries_are zero (e ∷ []) le = refl
entries_are zero (e ∷ f ∷ es) le = absurd (omega arith)
entries_are (suc n) [] le = refl
entries_are (suc n) (e ∷ es) le = closed_behind e (take n es) (slice_get es n) ∙ ap (λ x. e ∷ x) (entries_are n es (omega (arith, le)))
  where
    closed_behind : (e : Entry) (xs : List Entry) (o : Option Entry) → with_closed (e ∷ xs) o ≡ e ∷ with_closed xs o
    closed_behind e xs None = refl
    closed_behind e xs (Some x) = refl

room_is : (b : Bool) (n : ℕ) → b ≡ true → n - 1 ≡ (if b then n - 1 else n)
room_is true n e = refl
room_is false n e = absurd (cc)

-- a word more
pub noted_journal : (image : Shown) (number limit : ℕ) (strict : Bool) (old new : List Entry) (sealed : ℕ) (edges : List ℕ) (words : List ℕ) (opened : Option Opening) (er wr value : ℕ)
    → new ≡ old → OpenFits edges words opened → is_some (shown_journal (grounds image number limit strict edges words) old sealed opened er wr).opened ≡ true
    → shown_journal (grounds image number limit strict edges (words ++ value ∷ [])) new sealed opened er (wr - 1) ≡ noted (value ∷ []) (shown_journal (grounds image number limit strict edges words) old sealed opened er wr)
noted_journal image number limit strict old new sealed edges words opened er wr value same fits was =
    let os = ap (λ es. option_map (shown_open (replayed image number (mutex_at_start image number) es) edges (words ++ value ∷ [])) opened) same ∙ open_more _ edges words (value ∷ []) opened fits in
    λ i. record { image = image; limit = limit; strict = strict; sealed = take sealed (same i); closed = slice_get (same i) sealed; opened = os i; entry_room = er; word_room = (room_is _ wr was) i }

noted_from : (ws : List ℕ) (at : Mutex) (p : Option Opened) → ((o : Opened) → p ≡ Some o → o.from ≡ at) → (o : Opened) → option_map (more_words ws) p ≡ Some o → o.from ≡ at
noted_from ws at None from o e = absurd (cc)
noted_from ws at (Some p) from o e = (let same : more_words ws p ≡ o = cc in ap (λ (x : Opened). x.from) (sym same) ∙ from p refl)

not_none : (ws : List ℕ) (p : Option Opened) → is_some p ≡ true → option_map (more_words ws) p ≡ None → ⊥
not_none ws None was e = cc
not_none ws (Some p) was e = cc

-- what a lock state keeps, with another journal of the lock whose entries are as they have to be
pub sound_with : (l : LockView) (sealed : List Entry) (closed : Option Entry) (opened : Option Opened) (entry_room word_room : ℕ) → IsSoundLock l → AreReplayed l.journal.image l.number (mutex_at_start l.journal.image l.number) (with_closed sealed closed)
    → (opened ≡ None → lock_of l ≡ replayed l.journal.image l.number (mutex_at_start l.journal.image l.number) (with_closed sealed closed)) → ((o : Opened) → opened ≡ Some o → o.from ≡ replayed l.journal.image l.number (mutex_at_start l.journal.image l.number) (with_closed sealed closed))
    → (is_some opened ≡ true → closed ≡ None) → Obeys l.number l.journal.limit (map block_in sealed) → (IsStrict l → PassesOn l.number (map block_in sealed))
    → IsSoundLock (record l { journal = record l.journal { sealed = sealed; closed = closed; opened = opened; entry_room = entry_room; word_room = word_room } })
sound_with l sealed closed opened entry_room word_room sound replays rest from alone obeys passes =
    record { bytes = sound.bytes; known = sound.known; small = sound.small; guard = sound.guard; limit = sound.limit; replays = replays; rest = rest; from = from; alone = alone; obeys = obeys; passes = passes }

pub sound_noted : (ws : List ℕ) (l : LockView) → IsSoundLock l → is_some l.journal.opened ≡ true → IsSoundLock (with_journal (noted ws) l)
sound_noted ws l sound was =
    sound_with l l.journal.sealed l.journal.closed (noted ws l.journal).opened l.journal.entry_room (noted ws l.journal).word_room sound sound.replays (λ e. absurd (not_none ws l.journal.opened was e))
    (noted_from ws (replay_in l.number l.journal) l.journal.opened sound.from) (λ h. sound.alone was) sound.obeys sound.passes

pub last_at : (es : List Entry) (e : Entry) (n : ℕ) → n ≡ length es → slice_get (es ++ e ∷ []) n ≡ Some e
last_at es e n is = ap (slice_get (es ++ e ∷ [])) is ∙ slice_get-get_or (es ++ e ∷ []) (length es) e (omega (arith, length-append es (e ∷ []))) ∙ ap Some (get_or-append_seam es e [] e)

pub not_open : (f : Opening → Opened) (o : Option Opening) → option_map f o ≡ None → o ≡ None
not_open f None e = refl
not_open f (Some o) e = absurd (cc)

-- where no entry is closed, each is sealed
pub none_closed : (n : ℕ) (es : List Entry) → n ≤ length es → slice_get es n ≡ None → n ≡ length es
none_closed n es le none = elim (slice_get_cases es n).1 [ inl x ↦ absurd (let e : None ≡ Some x.0 = sym none ∙ x.2 in cc) | inr y ↦ omega (arith, y.0, le) ]

-- an entry is opened
pub opened_journal : (image : Shown) (number limit : ℕ) (strict : Bool) (old new : List Entry) (sealed : ℕ) (edges more : List ℕ) (words : List ℕ) (er wr place from before : ℕ) (start : Registers) (fuel : ℕ) (at : Mutex)
    → new ≡ old → regs_at more place ≡ start → from ≡ length words → replayed image number (mutex_at_start image number) old ≡ at
    → shown_journal (grounds image number limit strict more words) new sealed (Some (record { fuel = fuel; start = place; from = from; before = before })) (er - 1) wr ≡ opened_at at start fuel (shown_journal (grounds image number limit strict edges words) old sealed None er wr)
opened_journal image number limit strict old new sealed edges more words er wr place from before start fuel at same is len lock =
    let none = drop_all from words (omega (arith, len)) in
    let at_new = ap (replayed image number (mutex_at_start image number)) same ∙ lock in
    λ i. record { image = image; limit = limit; strict = strict; sealed = take sealed (same i); closed = slice_get (same i) sealed; opened = Some (record { start = is i; fuel = fuel; from = at_new i; foreign = none i }); entry_room = er - 1; word_room = wr }

opened_from : (at m : Mutex) (start : Registers) (fuel : ℕ) (o : Opened) → at ≡ m → Some (record { start = start; fuel = fuel; from = at; foreign = [] }) ≡ Some o → o.from ≡ m
opened_from at m start fuel o is e = (let same : record { start = start; fuel = fuel; from = at; foreign = [] } ≡ o = cc in ap (λ (x : Opened). x.from) (sym same) ∙ is)

pub sound_opened : (start : Registers) (fuel : ℕ) (l : LockView) → IsSoundLock l → l.journal.opened ≡ None → l.journal.closed ≡ None → IsSoundLock (with_journal (opened_at (lock_of l) start fuel) l)
sound_opened start fuel l sound none closed =
    let j = opened_at (lock_of l) start fuel l.journal in
    sound_with l j.sealed j.closed j.opened j.entry_room j.word_room sound sound.replays (λ e. absurd (cc)) (λ o e. opened_from (lock_of l) (replay_in l.number l.journal) start fuel o (sound.rest none) e) (λ h. closed) sound.obeys sound.passes

-- the record of an open entry shows it, once its block is drafted and its words are counted
pub record_shown : (edges more words : List ℕ) (o : Opening) (block : Block) (finish : Registers) (step noted : ℕ) (from : Mutex) (r : Record) → IsRecordOf (drafted block) o step noted r → block_from (drafted block) ≡ block → Extends edges more → OpenFits edges words (Some o)
    → start_of r ≡ o.start → StandsAt more (behind more o.start) finish → noted ≡ length words - o.from → shown more words r ≡ entry_from block finish (shown_open from edges words o)
record_shown edges more words o block finish step noted from r of exact extends fits at there count =
    let start = ap (regs_at more) at ∙ extends.same o.start (place_of-stands fits.0.stands) in
    let end = (λ i. regs_at more (behind more (at i))) ∙ stands_is there in
    let all = (λ i. take (of.words i) (drop (of.from i) words)) ∙ take_all noted (drop o.from words) (omega (arith, length-drop o.from words, count)) in
    λ i. record { block = (of.block ∙ exact) i; start = start i; fuel = of.fuel i; finish = end i; foreign = all i }

-- the entry closed
pub closed_journal : (image : Shown) (number limit : ℕ) (strict : Bool) (old new : List Entry) (sealed : ℕ) (edges more : List ℕ) (words : List ℕ) (opened : Option Opening) (er wr : ℕ) (o : Opening) (block : Block) (finish : Registers) (e : Entry)
    → opened ≡ Some o → e ≡ entry_from block finish (shown_open (replayed image number (mutex_at_start image number) old) edges words o) → sealed ≡ length old → new ≡ old ++ e ∷ []
    → shown_journal (grounds image number limit strict more words) new sealed None er wr ≡ closed_with block finish (shown_journal (grounds image number limit strict edges words) old sealed opened er wr)
closed_journal image number limit strict old new sealed edges more words opened er wr o block finish e is entry count made =
    let before : take sealed new ≡ take sealed old = ap (take sealed) made ∙ take-append-le sealed old (e ∷ []) (omega (arith, count)) in
    let last : slice_get new sealed ≡ Some e = ap (λ es. slice_get es sealed) made ∙ last_at old e sealed count in
    let was = ap (λ y. option_map (entry_from block finish) (option_map (shown_open (replayed image number (mutex_at_start image number) old) edges words) y)) (sym is) in
    λ i. record { image = image; limit = limit; strict = strict; sealed = before i; closed = (last ∙ ap Some entry ∙ was) i; opened = None; entry_room = er; word_room = wr }

-- the end of a thread breaks a lock that is broken no more
pub ended_broken : (end : End) (broken : Bool) → (ends_thread end ≡ true → broken ≡ true) → (ends_thread end || broken) ≡ broken
ended_broken end broken h = (elim (ends_thread end) as (λ b. ends_thread end ≡ b → (b || broken) ≡ broken) [ true ↦ λ e. sym (h e) | false ↦ λ e. refl ]) refl

pub sound_closed : (block : Block) (finish : Registers) (l : LockView) (o : Opened) → IsSoundLock l → l.journal.opened ≡ Some o → (ends_thread block.end ≡ true → l.broken ≡ true) → Closes l block finish o → IsSoundLock (with_journal (closed_with block finish) l)
sound_closed block finish l o sound is broken closes =
    let j = l.journal in
    let none : j.closed ≡ None = sound.alone (ap (λ x. is_some x) is) in
    let f : Opened → Entry = entry_from block finish in
    let new : with_closed j.sealed (option_map f j.opened) ≡ j.sealed ++ f o ∷ [] = ap (λ x. with_closed j.sealed (option_map f x)) is in
    let old : entries j ≡ j.sealed = ap (with_closed j.sealed) none in
    let before : replayed j.image l.number (mutex_at_start j.image l.number) j.sealed ≡ o.from = ap (replayed j.image l.number (mutex_at_start j.image l.number)) (sym old) ∙ sym (sound.from o is) in
    sound_with l j.sealed (option_map f j.opened) None j.entry_room j.word_room sound
    (subst (λ es. AreReplayed j.image l.number (mutex_at_start j.image l.number) es) (sym new)
    (are_replayed-more j.image l.number (mutex_at_start j.image l.number) j.sealed (f o) (subst (λ es. AreReplayed j.image l.number (mutex_at_start j.image l.number) es) old sound.replays)
    (subst (λ m. Replays j.image l.number (f o) m) (sym before) closes.replays)))
    (λ e. sym (ap (replayed j.image l.number (mutex_at_start j.image l.number)) new ∙ replayed-more j.image l.number (mutex_at_start j.image l.number) j.sealed (f o) ∙ ap (replay_entry j.image l.number (f o)) before ∙ closes.lock ∙ (let b = ended_broken block.end l.broken broken in λ i. record { bytes = l.bytes; broken = b i; sections = l.sections; owner = None })))
    (λ p e. absurd (cc)) (λ h. absurd (cc)) sound.obeys sound.passes

-- ---- a new lock state

pub fresh_view : (of image : Shown) (number limit : ℕ) (strict : Bool) (bytes words : List ℕ) (edges : List ℕ) (records : List Record) (entries room : ℕ) → of ≡ image → bytes ≡ (mutex_at_start image number).bytes → records ≡ [] → entries ≡ 0 → room ≡ 0
    → record { number = number; bytes = bytes; broken = false; sections = 0; journal = shown_journal (grounds of number limit strict edges words) (map (shown edges words) records) 0 None entries room } ≡ with_journal (strict_as strict) (fresh_state image number limit)
fresh_view of image number limit strict bytes words edges records entries room o b r er none = λ i. record { number = number; bytes = b i; broken = false; sections = 0; journal = shown_journal (grounds (o i) number limit strict edges words) (map (shown edges words) (r i)) 0 None (er i) (none i) }

pub sound_fresh : (image : Shown) (number limit : ℕ) (strict : Bool) → number < length image.guards → number < 32 → IsGuard image (guard_at image number) → limit ≤ MAX_BATCH → IsSoundLock (with_journal (strict_as strict) (fresh_state image number limit))
sound_fresh image number limit strict known small guard most =
    let bytes = length-map-range_with_len (starting_byte image) (guard_at image number).start (guard_at image number).length in
    record { known = known; small = small; guard = guard; bytes = bytes; limit = most; replays = tt; rest = λ e. refl; from = λ o e. absurd (cc); alone = λ h. absurd (cc); obeys = tt; passes = λ h. tt }

-- ---- the entries

-- the record at a place has its registers and words
pub fits_at : (edges : List ℕ) (words : List ℕ) (rs : List Record) (i : ℕ) (r : Record) → AllFit edges words rs → slice_get rs i ≡ Some r → Fits edges words r
fits_at edges words rs i r all is = subst (λ (y : Record). Fits edges words y) (get_or_from_slice_get rs i r r is) (All-get_or (Fits edges words) rs i r (slice_get_within rs i r is) all)

parts_end : (from : ℕ) (ps : List (ℕ × ℕ)) (p : ℕ × ℕ) (to : ℕ) → AreParts from ps p.0 → p.0 + p.1 ≡ to → AreParts from (ps ++ p ∷ []) to
parts_end from [] p to are sum = (sym are, omega (arith, are, sum))
parts_end from (q ∷ ps) p to are sum = (are.0, parts_end (from + q.1) ps p to are.1 sum)

-- one part more
pub parts_more : (part : Record → ℕ × ℕ) (rs new : List Record) (r : Record) (to : ℕ) → new ≡ rs ++ r ∷ [] → AreParts 0 (map part rs) (part r).0 → (part r).0 + (part r).1 ≡ to → AreParts 0 (map part new) to
parts_more part rs new r to made are sum = subst (λ ps. AreParts 0 ps to) (sym (ap (map part) made ∙ map-append part rs (r ∷ []))) (parts_end 0 (map part rs) (part r) to are sum)

-- a part begins behind all those before
pub parts_before : (part : Record → ℕ × ℕ) (from : ℕ) (rs : List Record) (to i : ℕ) (r : Record) → AreParts from (map part rs) to → slice_get rs i ≡ Some r → from + sum_of part (take i rs) ≡ (part r).0
parts_before part from [] to i r are is = absurd (cc)
parts_before part from (x ∷ rs) to zero r are is = (let same : x ≡ r = cc in omega (arith, are.0, ap (λ (y : Record). (part y).0) same))
parts_before part from (x ∷ rs) to (suc i) r are is = (let more : sum_of part (take (suc i) (x ∷ rs)) ≡ (part x).1 + sum_of part (take i rs) = sum_by-cons (λ (y : Record). (part y).1) x (take i rs) in omega (arith, more, parts_before part (from + (part x).1) rs to i r are.1 is))
