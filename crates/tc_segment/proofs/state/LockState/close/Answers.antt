use Rattle.tc_segment.proofs.Vocabulary.{◌≡◌, ℕ, true, List, [], ◌∷◌, ◌++◌, ◌+◌, ◌-◌, map, length, sym, ap, subst, ◌∙◌, arith, length-append, length-drop, Option, Some, None, option_map, is_some, AllFit, Block, Closes, ClosesWith, Contents, Extends, IsSoundLock, Journal, KeptLock, LockView, OpenFits, Opened, Edges, IsPlace, Record, entry_from, Registers, StandsAt, StandsBeside}
use Rattle.tc_segment.proofs.Vocabulary.{AreParts, Fits, StandsLast, behind, block_in, closed_with, count, entry_room_in, regs_at, start_of, steps_of, words_of, last_finish, mutex_at_start, open_in, replayed, run_of, shown, shown_journal, shown_open, view_of, with_journal, grounds, length-map, map-append, room_in}
use Rattle.tc_segment.specs.declared.draft.Draft.{Draft}
use Rattle.tc_segment.specs.Draft.{drafted}
use Rattle.tc_segment.specs.Kept.{IsRecordOf}
use Rattle.tc_segment.proofs.Packing.{behind_same, packed_few, place_of-stands}
use Rattle.std.proofs.lemmas.List.Elements.{All-push}
use Rattle.tc_segment.proofs.Keeping.{edges_more, shown_grown, fits_grown, none_closed, record_shown, closed_journal, sound_closed, parts_more}
use Rattle.tc_segment.proofs.Opening.{is_opened}
use Rattle.tc_segment.proofs.Small.{IsSmall, small_entry, draft_exact}
use Rattle.tc_segment.proofs.state.LockState.close.Goals as goal

-- the block of the open entry runs beside no entry that isn't sealed
all_there : (a : Contents) → KeptLock a → is_some (view_of a).journal.opened ≡ true → a.sealed ≡ length (map (shown a.edges.words a.words.items) a.records.items)
all_there a k was = none_closed a.sealed (map (shown a.edges.words a.words.items) a.records.items) (let h = k.sealed in omega (arith, length-map a.records.items (shown a.edges.words a.words.items))) (k.sound.alone was)

abbrev open_of : Contents → Opened
open_of a = shown_open (replayed a.of.value a.number (mutex_at_start a.of.value a.number) (map (shown a.edges.words a.words.items) a.records.items)) a.edges.words a.words.items a.next

-- the open entry, and what it is closed with
record IsReady (a : Contents) (block : Block) (finish : Registers) : Type 0 where
  open_now : a.opened ≡ true
  some : is_some (view_of a).journal.opened ≡ true
  is : open_in a.opened a.next ≡ Some a.next
  was : (view_of a).journal.opened ≡ Some (open_of a)
  closes : Closes (view_of a) block finish (open_of a)
  small : IsSmall (entry_from block finish (open_of a))
  fits : OpenFits a.edges.words a.words.items (Some a.next)

is_ready : (a : Contents) (l : LockView) (block : Block) (finish : Registers) → KeptLock a → view_of a ≡ l → is_some l.journal.opened ≡ true → ClosesWith block finish l → IsReady a block finish
is_ready a l block finish k shows opened closes =
    let some = ap (λ (x : LockView). is_some x.journal.opened) shows ∙ opened in
    let now = is_opened a some in
    let is = ap (λ b. open_in b a.next) now in
    let was : (view_of a).journal.opened ≡ Some (open_of a) = ap (option_map (shown_open (open_of a).from a.edges.words a.words.items)) is in
    let does = subst (λ (x : LockView). ClosesWith block finish x) (sym shows) closes (open_of a) was in
    record { open_now = now; some = some; is = is; was = was; closes = does; small = small_entry a.of.value a.number (entry_from block finish (open_of a)) (open_of a).from k.few does.replays; fits = subst (λ x. OpenFits a.edges.words a.words.items x) is k.opened }

-- its record
record IsMade (a : Contents) (block : Block) (finish : Registers) (more : List ℕ) (r : Record) (step noted : ℕ) : Type 0 where
  of : IsRecordOf (drafted block) a.next step noted r
  start : start_of r ≡ a.next.start
  extends : Extends a.edges.words more
  there : StandsAt more (behind more a.next.start) finish
  words : noted ≡ length a.words.items - a.next.from

closed_view : (a : Contents) (block : Block) (finish : Registers) (more : List ℕ) (r : Record) (step noted : ℕ) (records : List Record) (room : ℕ) → KeptLock a → IsReady a block finish → IsMade a block finish more r step noted → records ≡ a.records.items ++ r ∷ [] → room ≡ entry_room_in a
    → shown_journal (grounds a.of.value a.number a.limit a.strict more a.words.items) (map (shown more a.words.items) records) a.sealed None room (room_in a.words) ≡ closed_with block finish (view_of a).journal
closed_view a block finish more r step noted records room k ready m made same =
    let new = ap (map (shown more a.words.items)) made ∙ map-append (shown more a.words.items) a.records.items (r ∷ [])
    ∙ ap (λ es. es ++ shown more a.words.items r ∷ []) (shown_grown (edges_more a.edges.words more a.words.items m.extends) a.records.items k.records) in
    let entry = record_shown a.edges.words more a.words.items a.next block finish step noted (open_of a).from r m.of (draft_exact block ready.small.turns ready.small.end) m.extends ready.fits m.start m.there m.words in
    ap (λ n. shown_journal (grounds a.of.value a.number a.limit a.strict more a.words.items) (map (shown more a.words.items) records) a.sealed None n (room_in a.words)) same
    ∙ closed_journal a.of.value a.number a.limit a.strict (map (shown a.edges.words a.words.items) a.records.items) _ a.sealed a.edges.words more a.words.items (open_in a.opened a.next) (entry_room_in a) (room_in a.words) a.next block finish (shown more a.words.items r) ready.is entry (all_there a k ready.some) new

pub overflow_cast-words : goal.overflow_cast-words
overflow_cast-words c =
    let a = c.deref_mut-contents.result.now in
    let ready = is_ready a c.args.self.now c.args.block.now c.args.end.now (subst KeptLock (sym c.deref_mut-contents.ensures.value) c.self.invariant) (ap view_of c.deref_mut-contents.ensures.value ∙ c.self.view_is) c.requires.opened c.requires.closes in
    omega (arith, ready.small.words, length-drop a.next.from a.words.items, c.len-to.ensures, a.words.ok.0)

-- what is noted of it
is_made : (a : Contents) (block : Block) (finish : Registers) (new : Edges) (at to : ℕ) (r : Record) (draft : Draft) → KeptLock a → IsReady a block finish → StandsBeside finish a.edges new at → to ≡ length a.words.items → draft ≡ drafted block → IsRecordOf draft a.next (a.next.start - a.next.before) (to - a.next.from) r
    → IsMade a block finish new.words r (a.next.start - a.next.before) (to - a.next.from)
is_made a block finish new at to r draft k ready noted len is of =
    let place = noted.behind ∙ ready.fits.0.last ∙ sym (behind_same a.next.start noted.more ready.fits.0.stands) in
    record { of = subst (λ d. IsRecordOf d a.next (a.next.start - a.next.before) (to - a.next.from) r) is of; start = omega (arith, of.before, of.step, k.near.behind); extends = noted.more; there = subst (λ n. StandsAt new.words n finish) place noted.place.stands; words = ap (λ n. n - a.next.from) len }

pub returns : goal.returns
returns c =
    let shows = ap view_of c.deref_mut-contents.ensures.value ∙ c.self.view_is in
    let k = subst KeptLock (sym c.deref_mut-contents.ensures.value) c.self.invariant in
    let a = c.deref_mut-contents.result.now in
    let block = c.args.block.now in
    let finish = c.args.end.now in
    let ready = is_ready a c.args.self.now block finish k shows c.requires.opened c.requires.closes in
    let made = is_made a block finish c.note-finish.new.self c.note-finish.result c.len-to.result c.of-record.result c.args.draft.now k ready c.note-finish.ensures (c.len-to.ensures ∙ a.words.ok.0) c.requires.draft c.of-record.ensures in
    let j = closed_view a block finish _ _ _ _ _ _ k ready made c.push_reserved.ensures.items (omega (arith, ap count ready.open_now, c.push_reserved.ensures.len)) in
    (λ i. record { number = a.number; bytes = a.bytes.items; broken = a.broken; sections = a.sections; journal = j i })
    ∙ ap (with_journal (closed_with block finish)) shows

pub invariant_of-self : goal.invariant_of-self
invariant_of-self c =
    let shows = ap view_of c.deref_mut-contents.ensures.value ∙ c.self.view_is in
    let k = subst KeptLock (sym c.deref_mut-contents.ensures.value) c.self.invariant in
    let a = c.deref_mut-contents.result.now in
    let block = c.args.block.now in
    let finish = c.args.end.now in
    let edges = c.note-finish.new.self in
    let place = c.note-finish.ensures in
    let r = c.of-record.result in
    let of = c.of-record.ensures in
    let to : c.len-to.result ≡ length a.words.items = c.len-to.ensures ∙ a.words.ok.0 in
    let ready = is_ready a c.args.self.now block finish k shows c.requires.opened c.requires.closes in
    let made = is_made a block finish edges c.note-finish.result c.len-to.result r c.args.draft.now k ready place to c.requires.draft of in
    let one : count a.opened ≡ 1 = ap count ready.open_now in
    let items = c.push_reserved.ensures.items in
    let more = c.push_reserved.ensures.len in
    let j = closed_view a block finish _ _ _ _ _ _ k ready made items (omega (arith, one, more)) in
    let len = length-map a.records.items (shown a.edges.words a.words.items) in
    let grown : length c.push_reserved.new.self.items ≡ length a.records.items + 1 = ap length items ∙ length-append a.records.items (r ∷ []) in
    let inside = ready.fits.0.stands.inside in
    let last : r.from.value + r.words ≡ c.len-to.result = omega (arith, of.from, of.words, to, ready.fits.1) in
    record {
      sound = subst (λ (l : LockView). IsSoundLock l) (λ i. record { number = a.number; bytes = a.bytes.items; broken = a.broken; sections = a.sections; journal = sym j i }) (sound_closed block finish (view_of a) (open_of a) k.sound ready.was (λ e. ap (λ (l : LockView). l.broken) shows ∙ c.requires.ended e) ready.closes);
      start = k.start;
      records = subst (λ rs. AllFit edges.words a.words.items rs) (sym items)
          (All-push (Fits edges.words a.words.items) a.records.items r (fits_grown (edges_more a.edges.words _ a.words.items place.more) a.records.items k.records)
          (record { start = subst (IsPlace edges.words) (sym made.start) (place.more.places a.next.start ready.fits.0.stands); finish = subst (λ n. IsPlace edges.words (behind edges.words n)) (sym made.start) (place_of-stands made.there); small = omega (arith, made.start, place.behind, inside); inside = omega (arith, last, to) }));
      sealed = (let h = k.sealed in omega (arith, grown));
      closed = omega (arith, grown, all_there a k ready.some, len);
      opened = tt;
      from = λ no. to;
      ends = λ no regs on. subst (λ x. StandsLast edges.words c.note-finish.result x) (let e : Some finish ≡ Some regs = ap (λ (o : Option Opened). last_finish (view_of a).journal.sealed (option_map (entry_from block finish) o)) (sym ready.was) ∙ ap (λ (x : Journal). last_finish x.sealed x.closed) (sym j) ∙ on in let f : finish ≡ regs = cc in f) place.place;
      parts = (parts_more words_of a.records.items _ r c.len-to.result items (subst (λ n. AreParts 0 (map words_of a.records.items) n) (sym of.from) k.parts.0) last, parts_more steps_of a.records.items _ r a.next.start items (subst (λ n. AreParts 0 (map steps_of a.records.items) n) (sym of.before) k.parts.1) made.start);
      near = record { behind = omega (arith, place.behind, inside); inside = omega (arith, place.place.last); near = omega (arith, place.place.last, place.behind, ready.fits.0.last, packed_few finish place.place.stands.whole, packed_few (regs_at a.edges.words a.next.start) ready.fits.0.stands.whole); small = omega (arith, place.behind, inside) };
      few = k.few;
      run = k.run ∙ ap (λ (x : Journal). run_of a.number (map block_in x.sealed)) (sym j);
      short = k.short;
      rooms = record { entries = omega (arith, one, k.rooms.entries, more); most = omega (arith, k.rooms.most, c.push_reserved.ensures.capacity); edges = omega (arith, one, k.rooms.edges, place.room, more); words = k.rooms.words };
    }
