-- An entry that is opened.
use Rattle.std.proofs.Common.{◌≡◌, ℕ, ◌+◌, ◌-◌, ◌<◌, ◌≤◌, Bool, true, false, map, refl, sym, ap, subst, ◌∙◌, arith, Some, None, is_some}
use Rattle.tc_segment.proofs.Vocabulary.{Contents, Edges, IsSoundLock, KeptLock, LockView, Opening, Registers, StandsBeside, StandsLast, blocks_of, length, count, entry_room_in, lock_of, mutex_at_start, open_in, Opened, opened_at, option_map, replayed, run_of, shown, shown_journal, view_of, with_journal, grounds, length-map, room_in}
use Rattle.tc_segment.specs.Packed.{Extends}
use Rattle.tc_segment.specs.declared.packed.TheConstants.{MOST_WORDS}
use Rattle.tc_segment.proofs.Packing.{packed_few, stands_is}
use Rattle.tc_segment.proofs.Keeping.{edges_more, shown_grown, fits_grown, entries_are, not_open, opened_journal, sound_opened}

-- these registers are the last ones, beside all that stood there, and there may be so many words more
pub record OpensAt (a : Contents) (regs : Registers) (new : Edges) (at : ℕ) : Type 0 where
  pub last : StandsLast new.words at regs
  pub more : Extends a.edges.words new.words
  pub room : a.edges.room ≤ new.room + MOST_WORDS
  pub behind : a.next.start ≤ at
  pub few : length new.words ≤ length a.edges.words + MOST_WORDS

pub opens_noted : (a : Contents) (regs : Registers) (new : Edges) (at : ℕ) → KeptLock a → StandsBeside regs a.edges new at → OpensAt a regs new at
opens_noted a regs new at k s = (let few = packed_few regs s.place.stands.whole in record { last = s.place; more = s.more; room = s.room; behind = omega (arith, k.near.inside, s.behind); few = omega (arith, few, s.place.last, s.behind) })

-- with an entry that is open, whose registers stand at this place
abbrev pub with_opening : Contents → Edges → ℕ → ℕ → Contents
with_opening a edges place fuel = record a { opened = true; next = record { fuel = fuel; start = place; from = a.next.from; before = a.next.before }; edges = edges }

none_in : (b : Bool) (next : Opening) → open_in b next ≡ None → b ≡ false
none_in false next e = refl
none_in true next e = absurd (cc)

pub not_opened : (a : Contents) → (view_of a).journal.opened ≡ None → a.opened ≡ false
not_opened a none = none_in a.opened a.next (not_open _ (open_in a.opened a.next) none)

some_in : (f : Opening → Opened) (b : Bool) (next : Opening) → is_some (option_map f (open_in b next)) ≡ true → b ≡ true
some_in f true next e = refl
some_in f false next e = absurd (cc)

pub is_opened : (a : Contents) → is_some (view_of a).journal.opened ≡ true → a.opened ≡ true
is_opened a some = some_in _ a.opened a.next some

pub opened_view : (a : Contents) (edges : Edges) (place fuel : ℕ) (start : Registers) → KeptLock a → (view_of a).journal.opened ≡ None → OpensAt a start edges place
    → view_of (with_opening a edges place fuel) ≡ with_journal (opened_at (lock_of (view_of a)) start fuel) (view_of a)
opened_view a edges place fuel start k none stands =
    let old = map (shown a.edges.words a.words.items) a.records.items in
    let shut = not_opened a none in
    let all = entries_are a.sealed old (let h = k.closed in omega (arith, length-map a.records.items (shown a.edges.words a.words.items))) in
    let room : entry_room_in (with_opening a edges place fuel) ≡ entry_room_in a - 1 = (let none : count a.opened ≡ 0 = ap count shut in omega (arith, none)) in
    let j = ap (λ n. shown_journal (grounds a.of.value a.number a.limit a.strict edges.words a.words.items) (map (shown edges.words a.words.items) a.records.items) a.sealed (Some (record { fuel = fuel; start = place; from = a.next.from; before = a.next.before })) n (room_in a.words)) room
    ∙ opened_journal a.of.value a.number a.limit a.strict old _ a.sealed a.edges.words edges.words a.words.items (entry_room_in a) (room_in a.words) place a.next.from a.next.before start fuel (lock_of (view_of a))
    (shown_grown (edges_more a.edges.words edges.words a.words.items stands.more) a.records.items k.records) (stands_is stands.last.stands) (k.from shut) (ap (replayed a.of.value a.number (mutex_at_start a.of.value a.number)) (sym all) ∙ sym (k.sound.rest none))
    ∙ ap (λ o. opened_at (lock_of (view_of a)) start fuel (shown_journal (grounds a.of.value a.number a.limit a.strict a.edges.words a.words.items) old a.sealed o (entry_room_in a) (room_in a.words))) (sym (not_open _ (open_in a.opened a.next) none)) in
    λ i. record { number = a.number; bytes = a.bytes.items; broken = a.broken; sections = a.sections; journal = j i }

pub opened_kept : (a : Contents) (edges : Edges) (place fuel : ℕ) (start : Registers) → KeptLock a → (view_of a).journal.opened ≡ None → (view_of a).journal.closed ≡ None → 0 < entry_room_in a → OpensAt a start edges place
    → KeptLock (with_opening a edges place fuel)
opened_kept a edges place fuel start k none closed room stands =
    let view = opened_view a edges place fuel start k none stands in
    let shut = not_opened a none in
    let zero : count a.opened ≡ 0 = ap count shut in
    record {
      sound = subst (λ (l : LockView). IsSoundLock l) (sym view) (sound_opened start fuel (view_of a) k.sound none closed);
      start = k.start;
      records = fits_grown (edges_more a.edges.words edges.words a.words.items stands.more) a.records.items k.records;
      sealed = k.sealed;
      closed = k.closed;
      opened = (subst (λ (r : Registers). StandsLast edges.words place r) (sym (stands_is stands.last.stands)) stands.last, omega (arith, k.from shut));
      from = λ no. absurd (cc);
      ends = λ no. absurd (cc);
      parts = k.parts;
      near = (let old = k.near in let new = stands.last.last in record { behind = omega (arith, old.behind, stands.behind); inside = omega (arith, new); near = omega (arith, old.near, stands.few, zero); small = old.small });
      few = k.few;
      run = k.run ∙ ap (λ (l : LockView). run_of a.number (blocks_of l)) (sym view);
      short = k.short;
      rooms = (let h = k.rooms.edges in let less = stands.room in record { entries = omega (arith, room, zero); most = k.rooms.most; edges = omega (arith, room, zero, h); words = k.rooms.words });
    }
