-- An entry that is sealed.
use Rattle.std.proofs.Common.{◌≡◌, ℕ, ◌+◌, ◌-◌, ◌*◌, ◌≤◌, Bool, true, false, ◌&&◌, ◌<◌, List, [], ◌∷◌, ◌++◌, map, set, take, length, length-append, refl, sym, ap, subst, ◌∙◌, arith, ◌==◌, Option, Some, None, option_map, nat_lt, slice_get, if◌then◌else◌}
use Rattle.tc_segment.proofs.Vocabulary.{AreReplayed, Block, Closes, Entry, Opened, IsSoundLock, IsStrict, LockView, Mutex, Opening, Record, Replays, Shown, block_in, block_of, blocks_of, entries, entry_from, finish_in, last_finish, last_of, may_begin, mutex_at_start, replayed, run_after, run_of, sealed_as, sealed_block, sealed_entry, sealed_list, shown, shown_journal, shown_open}
use Rattle.tc_segment.proofs.Vocabulary.{with_closed, with_journal, grounds, map-append, length-set, take-map, take_all, take_more_set, slice_get_past, slice_get_within, begins, unlocks, is_only, may_adopt, is_adopted, allows_of, may_follow, Obeys, passes_on, PassesOn, Registers, nat_tests, and_parts, obeys-more, passes-more, Adopted}
use Rattle.tc_segment.proofs.Vocabulary.{AllFit, AreParts, Fits, Contents, Global, steps_of, words_of, KeptLock, MayFollow, MayPass, Vec, count, entry_room_in, inl, inr, is_some, length-map, map-set, open_in, room_in, run_from-more, sealed_record, slice_get-map, slice_get_cases, vec_capacity, vec_len, view_of}
use Rattle.std.proofs.lemmas.Simd.{map-map}
use Rattle.std.proofs.Math.Seq.{map-set_same}
use Rattle.std.proofs.lemmas.List.Elements.{All-set}
use Rattle.std.proofs.lemmas.Option.{get_or_from_slice_get}
use Rattle.tc_segment.specs.declared.packed.TheConstants.{MOST_WORDS}
use Rattle.tc_turn.specs.Replay.{replay_entry}
use Rattle.tc_journal.specs.declared.block.Kind.{Kind}
use Rattle.tc_segment.proofs.Journals.{replayed-more}
use Rattle.tc_segment.proofs.Keeping.{entries_are, fits_at, last_at, sound_with}

-- the blocks of the first so many
pub blocks_shown : (edges : List ℕ) (words : List ℕ) (n : ℕ) (rs : List Record) → map block_in (take n (map (shown edges words) rs)) ≡ map block_of (take n rs)
blocks_shown edges words n rs = ap (map block_in) (take-map (shown edges words) n rs) ∙ map-map block_in (shown edges words) (take n rs)

-- stamp and worker don't count in a replay
replays_sealed : (image : Shown) (lock stamp worker : ℕ) (e : Entry) (old : Mutex) → Replays image lock e old → Replays image lock (sealed_entry stamp worker e) old
replays_sealed image lock stamp worker e old r = record { some = r.some; ok = r.ok; before = r.before; ends = r.ends; finish = r.finish; used = r.used }

entry_sealed : (image : Shown) (lock stamp worker : ℕ) (e : Entry) (old : Mutex) → replay_entry image lock (sealed_entry stamp worker e) old ≡ replay_entry image lock e old
unfolding replay_entry
entry_sealed image lock stamp worker e old = refl

are_sealed : (image : Shown) (lock stamp worker : ℕ) (old : Mutex) (es : List Entry) (e : Entry) → AreReplayed image lock old (es ++ e ∷ []) → AreReplayed image lock old (es ++ sealed_entry stamp worker e ∷ [])
are_sealed image lock stamp worker old [] e all = (replays_sealed image lock stamp worker e old all.0, tt)
are_sealed image lock stamp worker old (x ∷ es) e all = (all.0, are_sealed image lock stamp worker (replay_entry image lock x old) es e all.1)

replayed_sealed : (image : Shown) (lock stamp worker : ℕ) (old : Mutex) (es : List Entry) (e : Entry) → replayed image lock old (es ++ sealed_entry stamp worker e ∷ []) ≡ replayed image lock old (es ++ e ∷ [])
replayed_sealed image lock stamp worker old es e =
    replayed-more image lock old es (sealed_entry stamp worker e) ∙ entry_sealed image lock stamp worker e (replayed image lock old es) ∙ sym (replayed-more image lock old es e)

adopted_short : (lock limit : ℕ) (last : Option Block) (run : ℕ) (kind : Kind) (worker : ℕ) → may_begin lock limit last run kind worker ≡ true → (if is_adopted kind then run + 1 else 0) ≤ limit
adopted_short lock limit None run Adopted worker e = absurd (cc)
adopted_short lock limit (Some b) run Adopted worker e =
    (let lt : nat_lt run limit ≡ true = (and_parts (unlocks lock b.end && is_only b.held lock) (nat_lt run limit) ((and_parts (may_adopt b lock run limit) (b.worker == worker) e).0)).1 in grind (arith, nat_tests))
adopted_short lock limit last run _ worker e = omega arith

pub run_short : (lock limit : ℕ) (before : List Block) (b : Block) → run_of lock before ≤ limit → may_follow lock limit before b ≡ true → run_after lock (run_of lock before) b ≤ limit
unfolding may_follow allows_of
run_short lock limit before b short follows =
    (elim (begins lock b) as (λ v. begins lock b ≡ v → (if v then (if is_adopted b.kind then run_of lock before + 1 else 0) else run_of lock before) ≤ limit) [
      | true ↦ λ e. adopted_short lock limit (last_of before) (run_of lock before) b.kind b.worker (rw e at follows)
      | false ↦ λ e. short
    ]) refl

pub sealed_journal : (image : Shown) (number limit : ℕ) (strict : Bool) (old new : List Entry) (sealed : ℕ) (edges : List ℕ) (words : List ℕ) (opened : Option Opening) (er wr stamp worker : ℕ) (e : Entry)
    → slice_get old sealed ≡ Some e → length old ≤ sealed + 1 → new ≡ set old sealed (sealed_entry stamp worker e)
    → shown_journal (grounds image number limit strict edges words) new (sealed + 1) opened er wr ≡ sealed_as stamp worker (shown_journal (grounds image number limit strict edges words) old sealed opened er wr)
sealed_journal image number limit strict old new sealed edges words opened er wr stamp worker e is short made =
    let there : sealed < length old = slice_get_within old sealed e is in
    let s = sealed_entry stamp worker e in
    let start = mutex_at_start image number in
    let first : take (sealed + 1) new ≡ take sealed old ++ s ∷ [] = ap (take (sealed + 1)) made ∙ take_more_set old sealed s there in
    let list : take (sealed + 1) new ≡ sealed_list stamp worker (take sealed old) (slice_get old sealed) = first ∙ ap (sealed_list stamp worker (take sealed old)) (sym is) in
    let count : length new ≡ length old = ap length made ∙ length-set old sealed s in
    let none : slice_get new (sealed + 1) ≡ None = slice_get_past new (sealed + 1) (omega (arith, count)) in
    let all : new ≡ take sealed old ++ s ∷ [] = sym (take_all (sealed + 1) new (omega (arith, count))) ∙ first in
    let was : old ≡ take sealed old ++ e ∷ [] = sym (entries_are sealed old short) ∙ ap (with_closed (take sealed old)) is in
    let from : replayed image number start new ≡ replayed image number start old =
    ap (replayed image number start) all ∙ replayed_sealed image number stamp worker start (take sealed old) e ∙ ap (replayed image number start) (sym was) in
    λ i. record { image = image; limit = limit; strict = strict; sealed = list i; closed = none i; opened = option_map (shown_open (from i) edges words) opened; entry_room = er; word_room = wr }

stamped_passes : (lock stamp worker : ℕ) (bs : List Block) (b : Block) → passes_on lock bs b ≡ true → passes_on lock bs (sealed_block stamp worker b) ≡ true
unfolding passes_on
stamped_passes lock stamp worker bs b passes = passes

pub sound_sealed : (stamp worker : ℕ) (l : LockView) (e : Entry) → IsSoundLock l → l.journal.closed ≡ Some e → may_follow l.number l.journal.limit (blocks_of l) (sealed_block stamp worker e.block) ≡ true → (IsStrict l → passes_on l.number (blocks_of l) e.block ≡ true) → IsSoundLock (with_journal (sealed_as stamp worker) l)
sound_sealed stamp worker l e sound is follows passes =
    let j = l.journal in
    let new : sealed_list stamp worker j.sealed j.closed ≡ j.sealed ++ sealed_entry stamp worker e ∷ [] = ap (sealed_list stamp worker j.sealed) is in
    let old : entries j ≡ j.sealed ++ e ∷ [] = ap (with_closed j.sealed) is in
    let same : replayed j.image l.number (mutex_at_start j.image l.number) (sealed_list stamp worker j.sealed j.closed) ≡ replayed j.image l.number (mutex_at_start j.image l.number) (entries j) =
    ap (replayed j.image l.number (mutex_at_start j.image l.number)) new ∙ replayed_sealed j.image l.number stamp worker (mutex_at_start j.image l.number) j.sealed e ∙ ap (replayed j.image l.number (mutex_at_start j.image l.number)) (sym old) in
    let blocks : map block_in (j.sealed ++ sealed_entry stamp worker e ∷ []) ≡ map block_in j.sealed ++ sealed_block stamp worker e.block ∷ [] = map-append block_in j.sealed (sealed_entry stamp worker e ∷ []) in
    sound_with l (sealed_list stamp worker j.sealed j.closed) None j.opened j.entry_room j.word_room sound
    (subst (λ es. AreReplayed j.image l.number (mutex_at_start j.image l.number) es) (sym new) (are_sealed j.image l.number stamp worker (mutex_at_start j.image l.number) j.sealed e (subst (λ es. AreReplayed j.image l.number (mutex_at_start j.image l.number) es) old sound.replays)))
    (λ h. sound.rest h ∙ sym same) (λ o h. sound.from o h ∙ sym same) (λ h. refl)
    (subst (λ bs. Obeys l.number j.limit bs) (sym (ap (map block_in) new ∙ blocks)) (obeys-more l.number j.limit [] (map block_in j.sealed) (sealed_block stamp worker e.block) sound.obeys follows))
    (λ h. subst (λ bs. PassesOn l.number bs) (sym (ap (map block_in) new ∙ blocks)) (passes-more l.number [] (map block_in j.sealed) (sealed_block stamp worker e.block) (sound.passes h) (stamped_passes l.number stamp worker (map block_in j.sealed) e.block (passes h))))

-- nor in what closes an entry
pub closes_sealed : (stamp worker : ℕ) (l : LockView) (b : Block) (finish : Registers) (o : Opened) → Closes l b finish o → Closes l (sealed_block stamp worker b) finish o
closes_sealed stamp worker l b finish o c = record {
  replays = replays_sealed l.journal.image l.number stamp worker (entry_from b finish o) o.from c.replays;
  lock = entry_sealed l.journal.image l.number stamp worker (entry_from b finish o) o.from ∙ c.lock;
}

-- nor is the last entry another one
pub sealed_last : (stamp worker : ℕ) (sealed : List Entry) (closed : Option Entry) → last_finish (sealed_list stamp worker sealed closed) None ≡ last_finish sealed closed
sealed_last stamp worker sealed None = refl
sealed_last stamp worker sealed (Some e) =
    let x = sealed_entry stamp worker e in
    ap (option_map finish_in) (last_at sealed x (length (sealed ++ x ∷ []) - 1) (omega (arith, length-append sealed (x ∷ []))))

-- ---- the lock with its closed entry sealed

-- the closed entry is that of the record behind the sealed ones
pub closed_at : (a : Contents) (r : Record) → slice_get a.records.items a.sealed ≡ Some r → (view_of a).journal.closed ≡ Some (shown a.edges.words a.words.items r)
closed_at a r is = slice_get-map (shown a.edges.words a.words.items) a.records.items a.sealed ∙ ap (option_map (shown a.edges.words a.words.items)) is

-- there is one
pub some_closed : (a : Contents) → is_some (view_of a).journal.closed ≡ true → a.sealed < length a.records.items
some_closed a some = elim (slice_get_cases a.records.items a.sealed).1 [
  | inl x ↦ x.1
  | inr y ↦ absurd (let e = ap is_some (sym (slice_get-map (shown a.edges.words a.words.items) a.records.items a.sealed ∙ ap (option_map (shown a.edges.words a.words.items)) y.1)) ∙ some in cc)
]

abbrev pub with_sealed : Contents → Vec Record Global → ℕ → Contents
with_sealed a records run = record a { records = records; sealed = a.sealed + 1; run = run }

-- these records are the old ones, but for the stamp and the worker of the closed entry's block
pub record AreStamped (a : Contents) (stamp worker : ℕ) (r : Record) (records : Vec Record Global) : Type 0 where
  pub is : slice_get a.records.items a.sealed ≡ Some r
  pub items : records.items ≡ set a.records.items a.sealed (sealed_record stamp worker r)
  pub capacity : vec_capacity records ≡ vec_capacity a.records

same_count : (a : Contents) (stamp worker : ℕ) (r : Record) (records : Vec Record Global) → AreStamped a stamp worker r records → vec_len records ≡ vec_len a.records
same_count a stamp worker r records new = omega (arith, records.ok.0, a.records.ok.0, ap length new.items, length-set a.records.items a.sealed (sealed_record stamp worker r))

same_parts : (part : Record → ℕ × ℕ) (a : Contents) (stamp worker : ℕ) (r : Record) (records : Vec Record Global) (to : ℕ) → AreStamped a stamp worker r records → part (sealed_record stamp worker r) ≡ part r → AreParts 0 (map part a.records.items) to → AreParts 0 (map part records.items) to
same_parts part a stamp worker r records to new same are =
    subst (λ ps. AreParts 0 ps to) (sym (ap (map part) new.items ∙ map-set_same part a.records.items a.sealed (sealed_record stamp worker r) r (same ∙ ap part (sym (get_or_from_slice_get a.records.items a.sealed r r new.is))))) are

pub sealed_view : (a : Contents) (records : Vec Record Global) (run stamp worker : ℕ) (r : Record) → KeptLock a → AreStamped a stamp worker r records → view_of (with_sealed a records run) ≡ with_journal (sealed_as stamp worker) (view_of a)
sealed_view a records run stamp worker r k new =
    let f = shown a.edges.words a.words.items in
    let made = ap (map f) new.items ∙ map-set f a.records.items a.sealed (sealed_record stamp worker r) in
    let j = ap (λ n. shown_journal (grounds a.of.value a.number a.limit a.strict a.edges.words a.words.items) (map f records.items) (a.sealed + 1) (open_in a.opened a.next) (a.most - n - count a.opened) (room_in a.words)) (same_count a stamp worker r records new)
    ∙ sealed_journal a.of.value a.number a.limit a.strict (map f a.records.items) _ a.sealed a.edges.words a.words.items (open_in a.opened a.next) (entry_room_in a) (room_in a.words) stamp worker (f r) (closed_at a r new.is) (omega (arith, k.closed, length-map a.records.items f)) made in
    λ i. record { number = a.number; bytes = a.bytes.items; broken = a.broken; sections = a.sections; journal = j i }

pub sealed_kept : (a : Contents) (records : Vec Record Global) (run stamp worker : ℕ) (r : Record) → KeptLock a → AreStamped a stamp worker r records → MayFollow stamp worker (view_of a) → MayPass (view_of a)
    → run ≡ run_after a.number a.run (sealed_block stamp worker (block_of r)) → KeptLock (with_sealed a records run)
sealed_kept a records run stamp worker r k new may pass ran =
    let old = view_of a in
    let e = shown a.edges.words a.words.items r in
    let was : old.journal.closed ≡ Some e = closed_at a r new.is in
    let view = sealed_view a records run stamp worker r k new in
    let b = sealed_block stamp worker (block_of r) in
    let there : a.sealed < length a.records.items = slice_get_within a.records.items a.sealed r new.is in
    let len = same_count a stamp worker r records new in
    let blocks : blocks_of (view_of (with_sealed a records run)) ≡ blocks_of old ++ b ∷ [] =
    ap blocks_of view ∙ ap (λ x. map block_in (sealed_list stamp worker old.journal.sealed x)) was ∙ map-append block_in old.journal.sealed (sealed_entry stamp worker e ∷ []) in
    let streak : run ≡ run_after a.number (run_of a.number (blocks_of old)) b = ran ∙ ap (λ n. run_after a.number n b) k.run in
    let fits = fits_at a.edges.words a.words.items a.records.items a.sealed r k.records new.is in
    record {
      sound = subst (λ (l : LockView). IsSoundLock l) (sym view) (sound_sealed stamp worker old e k.sound was (may e was) (pass e was));
      start = k.start;
      records = subst (λ rs. AllFit a.edges.words a.words.items rs) (sym new.items) (All-set (Fits a.edges.words a.words.items) a.records.items a.sealed _ (record { start = fits.start; finish = fits.finish; small = fits.small; inside = fits.inside }) k.records);
      sealed = omega (arith, there, len, records.ok.0, a.records.ok.0);
      closed = omega (arith, k.closed, len, records.ok.0, a.records.ok.0);
      opened = k.opened;
      from = k.from;
      ends = λ no regs on. k.ends no regs (sym (sealed_last stamp worker old.journal.sealed old.journal.closed) ∙ ap (λ (l : LockView). last_finish l.journal.sealed l.journal.closed) (sym view) ∙ on);
      parts = (same_parts words_of a stamp worker r records a.next.from new refl k.parts.0, same_parts steps_of a stamp worker r records a.next.before new refl k.parts.1);
      near = k.near;
      few = k.few;
      run = streak ∙ sym (run_from-more a.number 0 (blocks_of old) b) ∙ ap (run_of a.number) (sym blocks);
      short = subst (λ n. n ≤ a.limit) (sym streak) (run_short a.number a.limit (blocks_of old) b (subst (λ n. n ≤ a.limit) k.run k.short) (may e was));
      rooms = (let edges = subst (λ n. MOST_WORDS * (2 * (a.most - n - count a.opened) + count a.opened) ≤ a.edges.room) (sym len) k.rooms.edges in record { entries = omega (arith, k.rooms.entries, len); most = omega (arith, k.rooms.most, new.capacity); edges = edges; words = k.rooms.words });
    }
