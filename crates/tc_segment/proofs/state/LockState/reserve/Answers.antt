use Rattle.tc_segment.proofs.Vocabulary.{AreCounted, HasRooms, IsNear, StandsLast, ◌≡◌, ℕ, ◌+◌, ◌-◌, ◌*◌, ◌≤◌, Bool, true, false, List, map, take, length, refl, sym, ap, subst, ◌∙◌, arith, Vec, vec_len, vec_capacity, Global, AllFit, Contents, Edges, EndedAt, IsSoundLock, KeptLock, view_of, OpenFits, Record, Registers, block_in, count, grounds, open_in, room_in, run_of, shown, shown_journal}
use Rattle.tc_segment.specs.declared.packed.TheConstants.{MOST_WORDS}
use Rattle.tc_segment.proofs.Keeping.{sound_with}
use Rattle.tc_segment.proofs.state.LockState.reserve.Goals as goal

three : {rs qs : List Record} {es fs ws vs : List ℕ} (P : List Record → List ℕ → List ℕ → Type 0) → qs ≡ rs → fs ≡ es → vs ≡ ws → P rs es ws → P qs fs vs
three {rs} {qs} {es} {fs} {ws} {vs} P r e w p = subst (λ x. P x fs vs) (sym r) (subst (λ x. P rs x vs) (sym e) (subst (λ x. P rs es x) (sym w) p))

-- the same records, registers and words, with room for so many records
roomier : (a : Contents) (records : Vec Record Global) (edges : Edges) (words : Vec ℕ Global) (most : ℕ) → KeptLock a → records.items ≡ a.records.items → edges.words ≡ a.edges.words → words.items ≡ a.words.items
    → HasRooms (record a { records = records; edges = edges; words = words; most = most }) → KeptLock (record a { records = records; edges = edges; words = words; most = most })
roomier a records edges words most k r e w rooms =
    let er = most - vec_len records - count a.opened in
    record {
      sound = three (λ rs es ws. IsSoundLock (record { number = a.number; bytes = a.bytes.items; broken = a.broken; sections = a.sections; journal = shown_journal (grounds a.of.value a.number a.limit a.strict es ws) (map (shown es ws) rs) a.sealed (open_in a.opened a.next) er (room_in words) })) r e w
          (let v = view_of a in sound_with v v.journal.sealed v.journal.closed v.journal.opened er (room_in words) k.sound k.sound.replays k.sound.rest k.sound.from k.sound.alone k.sound.obeys k.sound.passes);
      start = k.start;
      records = three (λ rs es ws. AllFit es ws rs) r e w k.records;
      sealed = omega (arith, k.sealed, ap length r);
      closed = omega (arith, k.closed, ap length r);
      opened = three (λ rs es ws. OpenFits es ws (open_in a.opened a.next)) r e w k.opened;
      from = λ no. k.from no ∙ ap length (sym w);
      ends = three (λ rs es ws. a.opened ≡ false → (regs : Registers) → EndedAt regs (shown_journal (grounds a.of.value a.number a.limit a.strict es ws) (map (shown es ws) rs) a.sealed (open_in a.opened a.next) er (room_in words)) → StandsLast es a.next.start regs) r e w k.ends;
      parts = subst (λ rs. AreCounted rs a.next.from a.next.before) (sym r) k.parts;
      near = subst (λ ws. IsNear a.next (count a.opened) (length ws)) (sym e) k.near;
      few = k.few;
      run = three (λ rs es ws. a.run ≡ run_of a.number (map block_in (take a.sealed (map (shown es ws) rs)))) r e w k.run;
      short = k.short;
      rooms = rooms;
    }

at_most : (b : Bool) → count b ≤ 1
at_most false = omega arith
at_most true = omega arith

-- after a refusal nothing but capacities is another
refused : (a : Contents) (records : Vec Record Global) (edges : Edges) (words : Vec ℕ Global) → KeptLock a → records.items ≡ a.records.items → vec_capacity a.records ≤ vec_capacity records → edges.words ≡ a.edges.words → a.edges.room ≤ edges.room → words.items ≡ a.words.items
    → KeptLock (record a { records = records; edges = edges; words = words })
refused a records edges words k r more e room w =
    let len : vec_len records ≡ vec_len a.records = records.ok.0 ∙ ap length r ∙ sym a.records.ok.0 in
    let many : vec_len words ≡ vec_len a.words = words.ok.0 ∙ ap length w ∙ sym a.words.ok.0 in
    let places = subst (λ n. MOST_WORDS * (2 * (a.most - n - count a.opened) + count a.opened) ≤ edges.room) (sym len) (omega (arith, k.rooms.edges, room)) in
    roomier a records edges words a.most k r e w (record { entries = omega (arith, k.rooms.entries, len); most = omega (arith, k.rooms.most, more); edges = places; words = omega (arith, k.rooms.words, many) })

pub invariant_of-self : goal.invariant_of-self
invariant_of-self c =
    let a = c.deref_mut-contents.result.now in
    refused a c.make_records.new.records a.edges a.words (subst KeptLock (sym c.deref_mut-contents.ensures.value) c.self.invariant) c.make_records.ensures.items c.make_records.ensures.capacity refl (omega arith) refl

pub invariant_of-self-in_err-reserve : goal.invariant_of-self-in_err-reserve
invariant_of-self-in_err-reserve c =
    let a = c.deref_mut-contents.result.now in
    refused a c.make_records.new.records c.reserve.new.self a.words (subst KeptLock (sym c.deref_mut-contents.ensures.value) c.self.invariant) c.make_records.ensures.items c.make_records.ensures.capacity c.reserve.ensures.words c.reserve.ensures.room refl

pub invariant_of-self-in_err-make_words : goal.invariant_of-self-in_err-make_words
invariant_of-self-in_err-make_words c =
    let k = subst KeptLock (sym c.deref_mut-contents.ensures.value) c.self.invariant in
    refused c.deref_mut-contents.result.now c.make_records.new.records c.reserve.new.self c.make_words.new.words k c.make_records.ensures.items c.make_records.ensures.capacity c.reserve.ensures.words c.reserve.ensures.room c.make_words.ensures.made.items

pub invariant_of-self-2 : goal.invariant_of-self-2
invariant_of-self-2 c =
    let k = subst KeptLock (sym c.deref_mut-contents.ensures.value) c.self.invariant in
    let a = c.deref_mut-contents.result.now in
    let records = c.in_ok-make_records.ensures.ok in
    let edges = c.in_ok-reserve.ensures.ok in
    roomier a c.make_records.new.records c.reserve.new.self c.make_words.new.words _ k c.make_records.ensures.items c.reserve.ensures.words c.make_words.ensures.made.items
    (record { entries = omega (arith, c.len.ensures, at_most a.opened); most = omega (arith, c.len.ensures, records); edges = omega (arith, c.len.ensures, edges, at_most a.opened); words = omega (arith, c.in_ok-make_words.ensures.places) })
