-- The events of a history go on until all is at rest.
use Rattle.std.proofs.Common.{◌≡◌, ◌≢◌, ℕ, zero, suc, ◌+◌, ◌<◌, ◌≤◌, Bool, true, false, not, ◌==◌, List, [], ◌∷◌, ◌++◌, length, refl, sym, ap, subst, ◌∙◌, arith, inl, inr}
use Rattle.std.specs.Cmp.Derive.{both_true}
use Rattle.std.specs.Option.{option_map}
use Rattle.std.specs.Prelude.{Option, Some, None, All, nat_lt, if◌then◌else◌}
use Rattle.std.proofs.lemmas.Bool.Decides.{nat_tests, eqb_tells}
use Rattle.tc_elf.specs.Shown.{Shown}
use Rattle.tc_journal.specs.Batch.{ends_section, last_of}
use Rattle.tc_journal.specs.History.{of_lock, of_thread}
use Rattle.tc_journal.specs.declared.block.Block.{Block}
use Rattle.tc_turn.specs.Turn.{Thread, is_running, thread_at_start, no_thread}
use Rattle.tc_mutex_spec.specs.Machine.{State, start, IsHeldByOwner}
use Rattle.tc_mutex_spec.specs.Blocks.{TellsAfter, IsComplete, owner_by, end_after}
use Rattle.tc_mutex_spec.proofs.BlocksAlike.{runs_apart}
use Rattle.tc_mutex_spec.proofs.BlockEnds.{block_ends}
use Rattle.tc_mutex_spec.proofs.Entries.{tells_end}
use Rattle.tc_mutex_spec.proofs.Holds.{can_thread}
use Rattle.tc_mutex_spec.proofs.Owners.{owner_is}
use Rattle.tc_core.specs.declared.event.Event.TheVariants.{Leave, Free}
use Rattle.tc_core.specs.declared.place.ThreadPlace.TheVariants.{Ready, Parked, Done}
use Rattle.tc_core.specs.declared.place.LockPlace.TheVariants.{With, Loose}
use Rattle.tc_core.specs.declared.place.Course.{Course}
use Rattle.tc_core.specs.declared.place.Custody.{Custody}
use Rattle.tc_core.specs.Lines.{is_single}
use Rattle.tc_core.specs.Core.{Core, Limits, is_loose, is_slept}
use Rattle.tc_core.specs.Events.{is_enabled, effect, is_worker, is_lock, left_by_all, freed}
use Rattle.tc_core.proofs.Quiet.{pick_mine, pick_other}
use Rattle.tc_core.proofs.Erasure.{started_none}
use Rattle.tc_told.specs.Written.{Written, first_written, write, KeepsRules, place_after, place_with, line_with, IsWrittenToRest, IsWrittenWhole}
use Rattle.tc_told.proofs.Leads.{Kept, Leads, stays, comes, and_then}
use Rattle.tc_told.proofs.Front.{place_by, line_by, IsCustody, Front}
use Rattle.tc_told.proofs.Small.{IsSmall}
use Rattle.tc_told.proofs.Adopters.{core_after}
use Rattle.tc_told.proofs.Realized.{leads_to}
use Rattle.tc_lemmas.proofs.Tests.{eq_self}
use Rattle.std.proofs.lemmas.Bool.{cases_lt}

-- a lock with its owner, or free
pub record IsHome (k : ℕ) (bs : List Block) (x : Custody) : Type 0 where
  pub place : x.place ≡ place_with (owner_by k (last_of bs))
  pub line : x.line ≡ line_with (owner_by k (last_of bs))

-- after the blocks `seen`, which lead to m: each thread rests, and each lock is home, of the first n
pub record Swept (image : Shown) (limits : Limits) (seen : List Block) (m : State) (n : ℕ) (s : Written) : Type 0 where
  pub machine : s.core.machine ≡ m
  pub history : s.history ≡ seen
  pub rests : (u : ℕ) → u < length image.entries → (s.core.course u).place ≡ place_after m seen u
  pub home : (k : ℕ) → k < n → IsHome k (of_lock seen k) (s.core.custody k)
  pub custody : (k : ℕ) → n ≤ k → IsCustody limits k (of_lock seen k) (s.core.custody k)

-- all have left lock n
record IsLeft (n : ℕ) (s x : Written) : Type 0 where
  machine : x.core.machine ≡ s.core.machine
  course : x.core.course ≡ s.core.course
  custody : (k : ℕ) → x.core.custody k ≡ (if k == n then left_by_all (s.core.custody n) else s.core.custody k)
  history : x.history ≡ s.history

module _ (image : Shown) (limits : Limits) (seen : List Block) (m : State) (n : ℕ) (inside : n < length image.guards) (s : Written) (kept : Kept s.core) (is : Swept image limits seen m n s) where
  abbrev bs : List Block
  bs = of_lock seen n

  abbrev x : Custody
  x = s.core.custody n

  at_n : IsCustody limits n bs x
  at_n = is.custody n (omega arith)

  lock : is_lock image n ≡ true
  lock = grind (arith, nat_tests)

  -- one lock more is home
  more : (y : Written) → y.core.machine ≡ m → y.history ≡ seen → ((u : ℕ) → u < length image.entries → (y.core.course u).place ≡ place_after m seen u)
      → IsHome n bs (y.core.custody n) → ((k : ℕ) → k ≢ n → y.core.custody k ≡ s.core.custody k) → Swept image limits seen m (n + 1) y
  more y machine history rests here others = record {
    machine = machine;
    history = history;
    rests = rests;
    home = λ k lt. elim (eqb_tells k n) [
      | inl e ↦ subst (λ j. IsHome j (of_lock seen j) (y.core.custody j)) (sym e.1) here
      | inr e ↦ subst (λ z. IsHome k (of_lock seen k) z) (sym (others k e.1)) (is.home k (omega (arith, lt, e.1)))
    ];
    custody = λ k le. (let ne : k ≢ n = omega (arith, le) in subst (λ z. IsCustody limits k (of_lock seen k) z) (sym (others k ne)) (is.custody k (omega (arith, le))));
  }

  stands : IsHome n bs x → Leads image limits s (Swept image limits seen m (n + 1))
  stands here = stays image limits s (Swept image limits seen m (n + 1)) kept (more s is.machine is.history is.rests here (λ k ne. refl))

  module _ (b : Block) (last : last_of bs ≡ Some b) (ends : ends_section n b ≡ true) where
    worker : is_worker limits b.worker ≡ true
    worker = (let lt = at_n.worker b last in grind (arith, nat_tests))

    loose : x.place ≡ Loose b.worker
    loose = at_n.place ∙ ap (place_by n) last ∙ ap (λ v. if v then Loose b.worker else With b.thread) ends

    leaves_it : Leads image limits s (IsLeft n s)
    unfolding is_enabled effect
    leaves_it =
        let on : is_enabled image limits s.core (Leave b.worker n) ≡ true = both_true (both_true worker (both_true lock (ap (λ p. is_loose p b.worker) loose ∙ eq_self b.worker)))
        (both_true (ap not at_n.left) (ap is_single (at_n.line ∙ ap line_by last))) in
        comes image limits s (IsLeft n s) (Leave b.worker n) kept on (record { machine = refl; course = refl; custody = λ k. refl; history = refl })

    frees_it : (y : Written) → Kept y.core → IsLeft n s y → Leads image limits y (Swept image limits seen m (n + 1))
    unfolding is_enabled effect
    frees_it y after by =
        let here : y.core.custody n ≡ left_by_all x = by.custody n ∙ pick_mine n (left_by_all x) x in
        let on : is_enabled image limits y.core (Free b.worker n) ≡ true = both_true (both_true worker (both_true lock (ap (λ (z : Custody). is_loose z.place b.worker) here ∙ ap (λ p. is_loose p b.worker) loose ∙ eq_self b.worker)))
        (ap (λ (z : Custody). z.left) here) in
        let now : (if n == n then freed (y.core.custody n) else y.core.custody n) ≡ freed (left_by_all x) = pick_mine n (freed (y.core.custody n)) (y.core.custody n) ∙ ap freed here in
        let owner : owner_by n (last_of bs) ≡ None = ap (owner_by n) last ∙ ap (λ v. if v then None else Some b.thread) ends in
        comes image limits y (Swept image limits seen m (n + 1)) (Free b.worker n) after on (more (write image y (Free b.worker n))
        (by.machine ∙ is.machine) (by.history ∙ is.history) (λ u lt. ap (λ (f : ℕ → Course). (f u).place) by.course ∙ is.rests u lt)
        (record { place = ap (λ (z : Custody). z.place) now ∙ ap place_with (sym owner); line = ap (λ (z : Custody). z.line) now ∙ ap line_with (sym owner) })
        (λ k ne. pick_other k n (freed (y.core.custody n)) (y.core.custody k) ne ∙ by.custody k ∙ pick_other k n (left_by_all x) (s.core.custody k) ne))

    goes_home : Leads image limits s (Swept image limits seen m (n + 1))
    goes_home = and_then image limits s (IsLeft n s) (Swept image limits seen m (n + 1)) leaves_it frees_it

  sweeps : Leads image limits s (Swept image limits seen m (n + 1))
  sweeps = by_last (last_of bs) refl
    where
      by_end : (b : Block) → last_of bs ≡ Some b → (v : Bool) → ends_section n b ≡ v → Leads image limits s (Swept image limits seen m (n + 1))
      by_end b last true e = goes_home b last e
      by_end b last false e =
          let owner : owner_by n (last_of bs) ≡ Some b.thread = ap (owner_by n) last ∙ ap (λ v. if v then None else Some b.thread) e in
          stands (record {
            place = at_n.place ∙ ap (place_by n) last ∙ ap (λ v. if v then Loose b.worker else With b.thread) e ∙ ap place_with (sym owner);
            line = at_n.line ∙ ap line_by last ∙ ap line_with (sym owner);
          })

      by_last : (o : Option Block) → last_of bs ≡ o → Leads image limits s (Swept image limits seen m (n + 1))
      by_last None e = stands (record { place = at_n.place ∙ ap (place_by n) e ∙ ap (λ y. place_with (owner_by n y)) (sym e); line = at_n.line ∙ ap line_by e ∙ ap (λ y. line_with (owner_by n y)) (sym e) })
      by_last (Some b) e = by_end b e (ends_section n b) refl

swept : (image : Shown) (limits : Limits) (seen : List Block) (m : State) (n : ℕ) → n ≤ length image.guards → (s : Written) → Kept s.core → Front image limits seen m s → Leads image limits s (Swept image limits seen m n)
swept image limits seen m zero le s kept front = stays image limits s (Swept image limits seen m 0) kept (record {
  machine = front.between.machine;
  history = front.between.history;
  rests = front.rests;
  home = λ k lt. absurd (omega (arith, lt));
  custody = λ k le. front.custody k;
})
swept image limits seen m (suc n) le s kept front =
    let lt : n < length image.guards = omega (arith, le) in
    subst (λ j. Leads image limits s (Swept image limits seen m j)) (let e : n + 1 ≡ suc n = omega arith in e)
    (and_then image limits s (Swept image limits seen m n) (Swept image limits seen m (n + 1)) (swept image limits seen m n (omega (arith, le)) s kept front) (λ x after by. sweeps image limits seen m n lt x after by))

-- the history with all locks home
abbrev Ends : Shown → Limits → ℕ → List Block → State → Type 0
Ends image limits fuel h last = Leads image limits (first_written image fuel) (Swept image limits h last (length image.guards))

ends_home : (image : Shown) (limits : Limits) (fuel : ℕ) (h : List Block) → All IsSmall h → (keeps : KeepsRules image limits fuel h) → Ends image limits fuel h keeps.last
ends_home image limits fuel h small keeps =
    and_then image limits (first_written image fuel) (Front image limits h keeps.last) (Swept image limits h keeps.last (length image.guards)) (leads_to image limits fuel h small keeps)
    (λ x after by. swept image limits h keeps.last (length image.guards) (omega arith) x after by)

pub written_to_rest : (image : Shown) (limits : Limits) (fuel : ℕ) (h : List Block) → All IsSmall h → KeepsRules image limits fuel h → IsWrittenToRest image limits fuel h
written_to_rest image limits fuel h small keeps =
    let r = ends_home image limits fuel h small keeps in
    let end : keeps.last ≡ end_after image fuel h = tells_end image [] h (start image fuel) keeps.last keeps.tells in
    let c = core_after image r.events (first_written image fuel) in
    let owner = λ (k : ℕ). sym (owner_is image fuel h keeps.last k keeps.tells) ∙ ap (λ (x : State). (x.locks k).owner) end in
    record {
      events = r.events;
      enabled = r.enabled;
      writes = r.comes.history;
      rest = record {
        threads = λ t lt. ap (λ (x : Core). (x.course t).place) (sym c) ∙ r.comes.rests t lt ∙ ap (λ x. place_after x h t) end;
        places = λ k lt. ap (λ (x : Core). (x.custody k).place) (sym c) ∙ (r.comes.home k lt).place ∙ ap place_with (owner k);
        lines = λ k lt. ap (λ (x : Core). (x.custody k).line) (sym c) ∙ (r.comes.home k lt).line ∙ ap line_with (owner k);
      };
    }

-- ---- a complete history

-- a thread that does not run holds nothing, and there is none past the image's
record HoldsNone (image : Shown) (m : State) : Type 0 where
  ended : (t k : ℕ) → is_running (m.threads t).status ≡ false → (m.threads t).held k ≡ false
  past : (t : ℕ) → length image.entries ≤ t → is_running (m.threads t).status ≡ false

holds_none : (image : Shown) (seen h : List Block) (m last : State) → TellsAfter image seen m h last → HoldsNone image m → HoldsNone image last
holds_none image seen [] m last tells is = subst (HoldsNone image) tells is
holds_none image seen (b ∷ h) m last tells is =
    let runs = tells.1.runs in
    let other = (runs_apart image m tells.0 b.thread b.turns b.end runs).threads in
    let inside = can_thread image m b.thread (runs.defined 0 runs.some) in
    holds_none image (seen ++ b ∷ []) h tells.0 last tells.2 (record {
      ended = λ t k e. elim (eqb_tells t b.thread) [
        | inl f ↦ ap (λ u. (tells.0.threads u).held k) f.1 ∙ block_ends image m tells.0 b.thread b.turns b.end runs (ap (λ u. is_running (tells.0.threads u).status) (sym f.1) ∙ e) k
        | inr f ↦ ap (λ (d : Thread). d.held k) (other t f.1) ∙ is.ended t k (ap (λ (d : Thread). is_running d.status) (sym (other t f.1)) ∙ e)
      ];
      past = λ t le. ap (λ (d : Thread). is_running d.status) (other t (omega (arith, le, inside))) ∙ is.past t le;
    })

starts_none : (image : Shown) (fuel : ℕ) → HoldsNone image (start image fuel)
starts_none image fuel = record {
  ended = λ t k e. no_lock ((start image fuel).threads t).held k (started_none image fuel t k);
  past = λ t le. (let out : nat_lt t (length image.entries) ≡ false = grind (arith, nat_tests) in ap (λ b. is_running (if b then thread_at_start image fuel t else no_thread).status) out);
}
  where
    no_lock : (held : ℕ → Bool) (k : ℕ) → (held k ≡ true → ⊥) → held k ≡ false
    no_lock held k never = go (held k) refl
      where
        go : (b : Bool) → held k ≡ b → held k ≡ false
        go true e = absurd (never e)
        go false e = e

pub written_whole : (image : Shown) (limits : Limits) (fuel : ℕ) (h : List Block) → All IsSmall h → KeepsRules image limits fuel h → IsComplete image (end_after image fuel h) → IsWrittenWhole image limits fuel h
written_whole image limits fuel h small keeps complete =
    let r = ends_home image limits fuel h small keeps in
    let c = core_after image r.events (first_written image fuel) in
    let end : keeps.last ≡ end_after image fuel h = tells_end image [] h (start image fuel) keeps.last keeps.tells in
    let none = holds_none image [] h (start image fuel) keeps.last keeps.tells (starts_none image fuel) in
    let inv : IsHeldByOwner keeps.last = subst IsHeldByOwner r.comes.machine r.kept.sound.owners in
    let stop : (t : ℕ) → is_running (keeps.last.threads t).status ≡ false = λ t. elim (cases_lt t (length image.entries)) [
      | inl lt ↦ ap (λ (x : State). is_running (x.threads t).status) end ∙ complete t lt
      | inr le ↦ none.past t le
    ] in
    let owner : (k : ℕ) → owner_by k (last_of (of_lock h k)) ≡ None = λ k. sym (owner_is image fuel h keeps.last k keeps.tells) ∙ free keeps.last none inv stop k (keeps.last.locks k).owner refl in
    record {
      events = r.events;
      enabled = r.enabled;
      writes = r.comes.history;
      threads = λ t lt. ap (λ (x : Core). (x.course t).place) (sym c) ∙ r.comes.rests t lt ∙ ap (λ v. if v then (if is_slept (option_map (λ (b : Block). b.end) (last_of (of_thread h t))) then Parked else Ready) else Done) (stop t);
      places = λ k lt. ap (λ (x : Core). (x.custody k).place) (sym c) ∙ (r.comes.home k lt).place ∙ ap place_with (owner k);
      lines = λ k lt. ap (λ (x : Core). (x.custody k).line) (sym c) ∙ (r.comes.home k lt).line ∙ ap line_with (owner k);
    }
  where
    free : (m : State) → HoldsNone image m → IsHeldByOwner m → ((t : ℕ) → is_running (m.threads t).status ≡ false) → (k : ℕ) (o : Option ℕ) → (m.locks k).owner ≡ o → (m.locks k).owner ≡ None
    free m none inv stop k None e = e
    free m none inv stop k (Some t) e = absurd (let f : true ≡ false = sym ((inv t k).1 e) ∙ none.ended t k (stop t) in cc)
