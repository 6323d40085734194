use Rattle.tc_segment.proofs.Vocabulary.{◌≡◌, ℕ, ◌<◌, ◌∙◌, ap, subst, sym, map, length, refl, arith, slice_get, get_or, take, Some, Contents, Fits, KeptLock, LockView, Record, entries, option_map, shown, view_of, length-map, slice_get-map, slice_get_read, steps_of, words_of}
use Rattle.tc_segment.specs.Kept.{AreSmall, sum_of, sums_of}
use Rattle.tc_segment.specs.declared.record.Sums.{Sums}
use Rattle.tc_segment.proofs.Keeping.{fits_at, entries_are, parts_before}
use Rattle.tc_segment.proofs.state.LockState.entry.Goals as goal

-- an entry is that of a record
within : (a : Contents) (l : LockView) (i : ℕ) → KeptLock a → view_of a ≡ l → i < length (entries l.journal) → i < length a.records.items
within a l i k shows lt =
    let es = map (shown a.edges.words a.words.items) a.records.items in
    let count = length-map a.records.items (shown a.edges.words a.words.items) in
    omega (arith, lt, count, ap (λ (x : LockView). length (entries x.journal)) shows, ap length (entries_are a.sealed es (omega (arith, k.closed, count))))

-- which has its registers and words, behind those of the records before
record IsThere (a : Contents) (i : ℕ) (r : Record) : Type 0 where
  is : slice_get a.records.items i ≡ Some r
  fits : Fits a.edges.words a.words.items r
  steps : sum_of steps_of (take i a.records.items) ≡ r.before.value
  words : sum_of words_of (take i a.records.items) ≡ r.from.value

is_there : (a : Contents) (l : LockView) (i : ℕ) (r : Record) → KeptLock a → view_of a ≡ l → i < length (entries l.journal) → r ≡ get_or a.records.items i r → IsThere a i r
is_there a l i r k shows lt read =
    let is = slice_get_read a.records.items _ i r refl (within a l i k shows lt) read in
    record { is = is; fits = fits_at a.edges.words a.words.items a.records.items i r k.records is; steps = omega (arith, parts_before steps_of 0 a.records.items a.next.before i r k.parts.1 is); words = omega (arith, parts_before words_of 0 a.records.items a.next.from i r k.parts.0 is) }

pub index-record-requires : goal.index-record-requires
index-record-requires c =
    omega (arith, c.deref-contents.result.now.records.ok.0, within c.deref-contents.result.now c.args.self.now c.args.i (subst KeptLock (sym c.deref-contents.ensures) c.self.invariant) (ap view_of c.deref-contents.ensures ∙ c.self.view_is) c.requires)

pub sums_of-sums-requires : goal.sums_of-sums-requires
sums_of-sums-requires c =
    let k = subst KeptLock (sym c.deref-contents.ensures) c.self.invariant in
    let a = c.deref-contents.result.now in
    let there = is_there a c.args.self.now c.args.i c.index-record.result.now k (ap view_of c.deref-contents.ensures ∙ c.self.view_is) c.requires c.index-record.ensures in
    subst (λ rs. AreSmall (sums_of (take c.args.i rs))) (sym c.deref.ensures.value) (omega (arith, there.steps, there.fits.small), omega (arith, there.words, there.fits.inside, k.rooms.words, a.words.ok.0))

pub entry-requires : goal.entry-requires
entry-requires c =
    let there = is_there c.deref-contents.result.now c.args.self.now c.args.i c.index-record.result.now (subst KeptLock (sym c.deref-contents.ensures) c.self.invariant) (ap view_of c.deref-contents.ensures ∙ c.self.view_is) c.requires c.index-record.ensures in
    let sums = c.sums_of-sums.ensures ∙ ap (λ rs. sums_of (take c.args.i rs)) c.deref.ensures.value in
    record {
      before = ap (λ (s : Sums). s.steps) sums ∙ there.steps;
      from = ap (λ (s : Sums). s.words) sums ∙ there.words;
      fits = subst (λ ws. Fits c.deref-contents.result.now.edges.words ws c.index-record.result.now) (sym c.deref-2.ensures.value) there.fits;
    }

pub returns : goal.returns
returns c =
    let shows = ap view_of c.deref-contents.ensures ∙ c.self.view_is in
    let k = subst KeptLock (sym c.deref-contents.ensures) c.self.invariant in
    let a = c.deref-contents.result.now in
    let f = shown a.edges.words a.words.items in
    ap (λ (l : LockView). slice_get (entries l.journal) c.args.i) (sym shows)
    ∙ ap (λ es. slice_get es c.args.i) (entries_are a.sealed (map f a.records.items) (omega (arith, k.closed, length-map a.records.items f)))
    ∙ slice_get-map f a.records.items c.args.i ∙ ap (option_map f) (is_there a c.args.self.now c.args.i c.index-record.result.now k shows c.requires c.index-record.ensures).is
    ∙ sym (λ i. Some (shown a.edges.words (c.deref-2.ensures.value i) c.index-record.result.now))
    ∙ ap Some (sym c.entry.ensures)
