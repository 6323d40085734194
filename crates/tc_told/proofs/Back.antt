-- After its block a thread that runs goes back, so the core stands between blocks again.
use Rattle.std.proofs.Common.{◌≡◌, ℕ, Bool, true, false, not, ◌&&◌, ◌||◌, ◌==◌, List, [], ◌∷◌, ◌++◌, refl, sym, ap, ◌∙◌, inl, inr}
use Rattle.std.specs.Cmp.Derive.{both_true}
use Rattle.std.specs.Option.{option_map}
use Rattle.std.specs.Prelude.{Option, Some, None, if◌then◌else◌}
use Rattle.std.proofs.lemmas.Bool.Decides.{eqb_tells}
use Rattle.tc_elf.specs.Shown.{Shown}
use Rattle.tc_journal.specs.Batch.{ends_section, last_of}
use Rattle.tc_journal.specs.History.{of_lock, of_thread}
use Rattle.tc_journal.specs.declared.block.Block.{Block}
use Rattle.tc_turn.specs.Turn.{is_running, next_lock}
use Rattle.tc_mutex_spec.specs.Machine.{State}
use Rattle.tc_core.specs.declared.event.Event.TheVariants.{HandBack, Park, Finish}
use Rattle.tc_core.specs.declared.place.ThreadPlace.{ThreadPlace}
use Rattle.tc_core.specs.declared.place.ThreadPlace.TheVariants.{Ready, Parked, Done}
use Rattle.tc_core.specs.declared.place.LockPlace.{LockPlace}
use Rattle.tc_core.specs.declared.place.LockPlace.TheVariants.{With, Loose}
use Rattle.tc_core.specs.declared.place.Course.{Course}
use Rattle.tc_core.specs.Lines.{is_in_line, is_first}
use Rattle.tc_core.specs.Core.{Core, Limits, is_at, is_slept, is_free_lock, with_place}
use Rattle.tc_core.specs.Events.{is_enabled, effect, is_worker, is_thread, has_thread, has_entered, may_go_back}
use Rattle.tc_core.proofs.Quiet.{pick_other, quiet_course}
use Rattle.tc_told.specs.Written.{Written, place_after}
use Rattle.tc_told.proofs.Leads.{Kept, Leads, comes, and_then}
use Rattle.tc_told.proofs.Front.{place_by, line_by, IsCustody, Front, between_quiet}
use Rattle.tc_told.proofs.Turns.{can_parts, Starts, Turned, all_turns}
use Rattle.tc_told.proofs.Committed.{Opened, IsNext, Closed, worker_is, commits}
use Rattle.tc_lemmas.proofs.Tests.{eq_self}

entered_in : LockPlace → List ℕ → Bool → ℕ → Bool
entered_in p line left t = is_in_line line t && (is_free_lock p || left || not (is_first line t))

-- the last that had the lock stands first in its line
not_entered : (k t : ℕ) (o : Option Block) → entered_in (place_by k o) (line_by o) false t ≡ false
unfolding entered_in
not_entered k t None = refl
not_entered k t (Some b) = go (ends_section k b) (b.thread == t)
  where
    go : (v e : Bool) → ((e || false) && (is_free_lock (if v then Loose b.worker else With b.thread) || false || not e)) ≡ false
    go true true = refl
    go true false = refl
    go false true = refl
    go false false = refl

none_entered : (limits : Limits) (bs : ℕ → List Block) (c : Core) (t : ℕ) → ((k : ℕ) → IsCustody limits k (bs k) (c.custody k)) → (o : Option ℕ) → has_entered o t c ≡ false
unfolding entered_in
none_entered limits bs c t custody None = refl
none_entered limits bs c t custody (Some k) = (let x = custody k in (λ i. entered_in (x.place i) (x.line i) (x.left i) t) ∙ not_entered k t (last_of (bs k)))

goes_back : (image : Shown) (limits : Limits) (seen : List Block) (to : State) (w t : ℕ) (s : Written) → is_worker limits w ≡ true → is_thread image t ≡ true → Kept s.core → Closed image limits seen to w t s
    → Leads image limits s (Front image limits seen to)
unfolding is_enabled effect
goes_back image limits seen to w t s worker thread kept is = go (is_running (to.threads t).status) (is_slept (option_map (λ (c : Block). c.end) (last_of (of_thread seen t)))) refl refl
  where
    has_it : has_thread image limits s.core w t ≡ true
    has_it = both_true worker (both_true thread (ap (λ p. is_at p w) is.at ∙ eq_self w))

    back_on : is_running (to.threads t).status ≡ true → may_go_back image limits s.core w t ≡ true
    back_on runs = both_true has_it
        (both_true (ap (λ (x : State). is_running (x.threads t).status) is.between.machine ∙ runs)
        (both_true (ap (λ x. x == 0) (is.between.turns t)) (ap not (none_entered limits (of_lock seen) s.core t is.custody (next_lock image (s.core.machine.threads t))))))

    finish_on : is_running (to.threads t).status ≡ false → is_enabled image limits s.core (Finish w t) ≡ true
    finish_on ends = both_true has_it (both_true (ap (λ (x : State). not (is_running (x.threads t).status)) is.between.machine ∙ ap not ends) (ap (λ x. x == 0) (is.between.turns t)))

    -- the thread comes to where it rests
    front : (p : ThreadPlace) → p ≡ place_after to seen t → Front image limits seen to (record { core = with_place s.core t p; next = s.next; history = s.history })
    front p e = record {
      between = between_quiet seen to s (record { core = with_place s.core t p; next = s.next; history = s.history }) (quiet_course s.core t p) refl is.between;
      rests = λ u lt. elim (eqb_tells u t) [
        | inl h ↦ ap (λ b. (if b then record (s.core.course t) { place = p } else s.core.course u).place) h.0 ∙ e ∙ ap (place_after to seen) (sym h.1)
        | inr h ↦ ap (λ (x : Course). x.place) (pick_other u t _ (s.core.course u) h.1) ∙ is.rests u h.1 lt
      ];
      custody = is.custody;
      next = is.next;
    }

    place_is : (v y : Bool) → is_running (to.threads t).status ≡ v → is_slept (option_map (λ (c : Block). c.end) (last_of (of_thread seen t))) ≡ y → (if v then (if y then Parked else Ready) else Done) ≡ place_after to seen t
    place_is v y e f = λ i. if sym e i then (if sym f i then Parked else Ready) else Done

    go : (v y : Bool) → is_running (to.threads t).status ≡ v → is_slept (option_map (λ (c : Block). c.end) (last_of (of_thread seen t))) ≡ y → Leads image limits s (Front image limits seen to)
    go true true runs f = comes image limits s (Front image limits seen to) (Park w t) kept (both_true (back_on runs) (is.slept ∙ f)) (front Parked (place_is true true runs f))
    go true false runs f = comes image limits s (Front image limits seen to) (HandBack w t) kept (back_on runs) (front Ready (place_is true false runs f))
    go false y ends f = comes image limits s (Front image limits seen to) (Finish w t) kept (finish_on ends) (front Done (place_is false y ends f))

-- from where the block may begin to the next one
pub block_done : (image : Shown) (limits : Limits) (seen : List Block) (m to : State) (b : Block) → IsNext image limits seen m b to → (s : Written) → Kept s.core → Opened image limits seen m b s
    → Leads image limits s (Front image limits (seen ++ b ∷ []) to)
block_done image limits seen m to b is s kept open_block =
    let t = b.thread in let w = b.worker in
    let worker = worker_is image limits seen m to b is in
    let thread = (can_parts image m t (is.stands.runs.defined 0 is.stands.runs.some)).0 in
    let starts : Starts image limits m w t s = record {
      worker = worker;
      machine = open_block.between.machine;
      at = open_block.at;
      turns = open_block.between.turns t;
      ended = open_block.between.ended t;
      granted = λ k e. (open_block.given k e).place;
    } in
    let ran = all_turns image limits m to w t b.turns b.end s is.stands.runs starts kept in
    let closed = and_then image limits s (Turned image m w t s b.turns) (Closed image limits (seen ++ b ∷ []) to w t) ran (λ x after by. commits_more x after by) in
    and_then image limits s (Closed image limits (seen ++ b ∷ []) to w t) (Front image limits (seen ++ b ∷ []) to) closed (λ x after by. goes_back image limits (seen ++ b ∷ []) to w t x worker thread after by)
  where
    commits_more : (x : Written) → Kept x.core → Turned image m b.worker b.thread s b.turns x → Leads image limits x (Closed image limits (seen ++ b ∷ []) to b.worker b.thread)
    commits_more x after by = commits image limits seen m to b is s x kept open_block after by
