use Rattle.tc_segment.proofs.Vocabulary.{◌≡◌, ℕ, [], List, ◌∷◌, ◌++◌, ◌-◌, ◌<◌, true, map, sym, ap, subst, ◌∙◌, arith, is_some, AllFit, Contents, IsSoundLock, KeptLock, LockView, OpenFits, blocks_of, entry_room_in, noted, open_in, run_of, shown, shown_journal, view_of, with_journal, grounds, room_in}
use Rattle.tc_segment.proofs.Keeping.{word_more, shown_grown, fits_grown, noted_journal, sound_noted, open_fits-more}
use Rattle.tc_segment.proofs.Opening.{is_opened}
use Rattle.tc_segment.proofs.state.LockState.note_foreign.Goals as goal

noted_view : (a : Contents) (words : List ℕ) (room value : ℕ) → KeptLock a → is_some (view_of a).journal.opened ≡ true → words ≡ a.words.items ++ value ∷ [] → room ≡ room_in a.words - 1
    → record { number = a.number; bytes = a.bytes.items; broken = a.broken; sections = a.sections; journal = shown_journal (grounds a.of.value a.number a.limit a.strict a.edges.words words) (map (shown a.edges.words words) a.records.items) a.sealed (open_in a.opened a.next) (entry_room_in a) room } ≡ with_journal (noted (value ∷ [])) (view_of a)
noted_view a words room value k was e less =
    let j = (λ i. shown_journal (grounds a.of.value a.number a.limit a.strict a.edges.words (e i)) (map (shown a.edges.words (e i)) a.records.items) a.sealed (open_in a.opened a.next) (entry_room_in a) (less i))
    ∙ noted_journal a.of.value a.number a.limit a.strict (map (shown a.edges.words a.words.items) a.records.items) _ a.sealed a.edges.words a.words.items (open_in a.opened a.next) (entry_room_in a) (room_in a.words) value
    (shown_grown (word_more a.edges.words a.words.items (value ∷ [])) a.records.items k.records) k.opened was in
    λ i. record { number = a.number; bytes = a.bytes.items; broken = a.broken; sections = a.sections; journal = j i }

pub returns : goal.returns
returns c =
    let shows = ap view_of c.deref_mut-contents.ensures.value ∙ c.self.view_is in
    let kept = subst KeptLock (sym c.deref_mut-contents.ensures.value) c.self.invariant in
    noted_view c.deref_mut-contents.result.now _ _ c.args.value kept (ap (λ (l : LockView). is_some l.journal.opened) shows ∙ c.requires.opened) c.push_reserved.ensures.items (omega (arith, c.push_reserved.ensures.len, c.push_reserved.ensures.capacity))
    ∙ ap (with_journal (noted (c.args.value ∷ []))) shows

pub invariant_of-self : goal.invariant_of-self
invariant_of-self c =
    let shows = ap view_of c.deref_mut-contents.ensures.value ∙ c.self.view_is in
    let a = c.deref_mut-contents.result.now in
    let k = (subst KeptLock (sym c.deref_mut-contents.ensures.value) c.self.invariant) in
    let items = c.push_reserved.ensures.items in
    let was = ap (λ (l : LockView). is_some l.journal.opened) shows ∙ c.requires.opened in
    let view = noted_view a c.push_reserved.new.self.items (room_in c.push_reserved.new.self) c.args.value k was items (omega (arith, c.push_reserved.ensures.len, c.push_reserved.ensures.capacity)) in
    let room : 0 < room_in a.words = subst (λ (l : LockView). 0 < l.journal.word_room) (sym shows) c.requires.room in
    record {
      sound = subst (λ (l : LockView). IsSoundLock l) (sym view) (sound_noted (c.args.value ∷ []) (view_of a) k.sound was);
      start = k.start;
      records = subst (λ ws. AllFit a.edges.words ws a.records.items) (sym items) (fits_grown (word_more a.edges.words a.words.items (c.args.value ∷ [])) a.records.items k.records);
      sealed = k.sealed;
      closed = k.closed;
      opened = subst (λ ws. OpenFits a.edges.words ws (open_in a.opened a.next)) (sym items) (open_fits-more a.edges.words a.words.items (c.args.value ∷ []) (open_in a.opened a.next) k.opened);
      from = λ no. absurd (let is = is_opened a was in cc);
      ends = λ no. absurd (let is = is_opened a was in cc);
      parts = k.parts;
      near = k.near;
      few = k.few;
      run = k.run ∙ ap (λ (l : LockView). run_of a.number (blocks_of l)) (sym view);
      short = k.short;
      rooms = record { entries = k.rooms.entries; most = k.rooms.most; edges = k.rooms.edges; words = omega (arith, room, c.push_reserved.ensures.len) };
    }
