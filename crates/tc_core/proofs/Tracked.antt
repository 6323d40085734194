-- The locks of a thread's block are those that are with it.
use Rattle.std.proofs.Common.{◌≡◌, ◌≢◌, ℕ, ◌+◌, Bool, true, false, not, ◌&&◌, ◌||◌, ◌==◌, List, [], ◌∷◌, refl, sym, ap, subst, ◌∙◌, inl, inr}
use Rattle.std.specs.Prelude.{Option, Some, None, if◌then◌else◌}
use Rattle.std.proofs.lemmas.Bool.{false_from_ne_true}
use Rattle.std.proofs.lemmas.Bool.Decides.{eqb_tells}
use Rattle.tc_mutex_spec.proofs.Going.{next_takes}
use Rattle.tc_journal.proofs.Locks.{has_none}
use Rattle.tc_isa.specs.Registers.{Registers}
use Rattle.tc_isa.specs.Sets.{has, without_lock}
use Rattle.tc_isa.specs.declared.limits.TheConstants.{MAX_TURNS}
use Rattle.tc_elf.specs.Shown.{Shown}
use Rattle.tc_exec.specs.Calls.{answered}
use Rattle.tc_exec.specs.Step.{wants_of, act_of}
use Rattle.tc_exec.specs.declared.outcome.Act.{Act}
use Rattle.tc_exec.specs.declared.outcome.Act.TheVariants.{Next, Called, Faulted}
use Rattle.tc_exec.specs.declared.outcome.Call.TheVariants.{Lock, Unlock, Sleep, Exit}
use Rattle.tc_exec.proofs.Laws.{lock_is_free}
use Rattle.tc_journal.specs.Rule.{end_rule}
use Rattle.tc_journal.specs.declared.block.End.TheVariants as end
use Rattle.tc_journal.specs.declared.rule.Outcome.TheVariants as outcome
use Rattle.tc_turn.specs.Turn.{Thread, Mutex, taken_by, next_lock, next_act, answer_to, outcome_of, thread_after}
use Rattle.tc_turn.proofs.Turns.{act_takes, taken_was}
use Rattle.tc_mutex_spec.specs.Machine.{State, after}
use Rattle.tc_mutex_spec.proofs.Local.{after_thread, turn_apart}
use Rattle.tc_mutex_spec.proofs.BlocksAlike.{covers_block}
pub use Rattle.tc_mutex_spec.proofs.HeldSets.{with_has, without_has}
use Rattle.tc_core.specs.declared.event.Event.{Event}
use Rattle.tc_core.specs.declared.event.Event.TheVariants.{Turn, Commit}
use Rattle.tc_core.specs.Core.{Core, Limits, Course, Custody, Release, With, Loose, is_number, with_of, first_core}
use Rattle.tc_core.specs.Events.{is_enabled, effect, end_here, held_with, held_past, course_on, course_past, custody_on, custody_past, release_of, after_turn}
use Rattle.tc_core.specs.View.{IsSoundCore}
use Rattle.tc_core.specs.Stories.{AreEnabled, Story, after_all, last_core}
use Rattle.tc_core.specs.Theorem.{IsTracked}
use Rattle.tc_core.proofs.Quiet.{Quiet, pick_mine, pick_other, quiet_event}
use Rattle.tc_core.proofs.Erasure.{MayTurn, may_turn, take_facts, turn_is, sound_after, first_sound, started_none}
use Rattle.tc_core.proofs.Parts.{no_end}
use Rattle.tc_lemmas.proofs.Tests.{eq_self}

-- the locks of a block are those that are with its thread, and what it leaves of them is what the thread holds
pub record Tracks (c : Core) : Type 0 where
  pub with : (t k : ℕ) → has (c.course t).held k ≡ is_number (with_of (c.custody k).place) t
  pub kept : (t k : ℕ) → has (held_past (c.course t).held (c.course t).ended) k ≡ (c.machine.threads t).held k

-- ---- a turn

takes : (image : Shown) (d : Thread) (locks : ℕ → Mutex) (lock : ℕ) (regs : Registers) → next_act image d locks ≡ Some (Called (Lock lock) regs) → next_lock image d ≡ Some lock
unfolding next_act
takes image d locks lock regs e = act_takes image d _ lock regs e

-- what an act takes
abbrev took : Option Act → Option ℕ
took None = None
took (Some a) = taken_by a

-- where the act is no LOCK, the turn takes no lock
taken_none : (o : Option ℕ) (a : Option Act) → ((k : ℕ) → o ≡ Some k → (regs : Registers) × (a ≡ Some (Called (Lock k) regs))) → took a ≡ None → o ≡ None
taken_none None a f e = refl
taken_none (Some k) a f e = absurd (let x = (f k refl).1 in let y : took a ≡ Some k = ap took x in cc)

-- an end that leaves all held
kept_going : (h turns : ℕ) (next : Option ℕ) → held_past h (end_rule outcome.Went turns next) ≡ h
kept_going h turns (Some lock) = refl
kept_going h turns None = elim (turns == MAX_TURNS) as (λ b. held_past h (if b then Some end.Cut else None) ≡ h) [ true ↦ refl | false ↦ refl ]

-- what is held after a turn, past the block if that ends with it
turn_kept : (d : Thread) (a : Option Act) (h turns k : ℕ) (o next : Option ℕ) → (took a ≡ None → o ≡ None) → ((lock : ℕ) (regs : Registers) → a ≡ Some (Called (Lock lock) regs) → o ≡ Some lock) → has h k ≡ d.held k
    → has (held_past (held_with h o) (end_rule (outcome_of a) turns next)) k ≡ (thread_after d a).held k
turn_kept d None h turns k o next none some e = has_none k
turn_kept d (Some (Next regs put)) h turns k o next none some e = ap (λ x. has x k) (kept_going _ turns next) ∙ ap (λ x. has (held_with h x) k) (none refl) ∙ e
turn_kept d (Some (Called (Lock lock) regs)) h turns k o next none some e =
    ap (λ x. has x k) (kept_going _ turns next) ∙ ap (λ x. has (held_with h x) k) (some lock regs refl) ∙ with_has h lock k ∙ ap (λ b. (k == lock) || b) e
turn_kept d (Some (Called (Unlock lock) regs)) h turns k o next none some e =
    ap (λ x. has (without_lock (held_with h x) lock) k) (none refl) ∙ without_has h lock k ∙ ap (λ b. not (k == lock) && b) e
turn_kept d (Some (Called (Sleep n) regs)) h turns k o next none some e = ap (λ x. has (held_with h x) k) (none refl) ∙ e
turn_kept d (Some (Called Exit regs)) h turns k o next none some e = has_none k
turn_kept d (Some (Faulted f)) h turns k o next none some e = has_none k

number_other : (t u : ℕ) → u ≢ t → is_number (Some t) u ≡ false
number_other t u ne = elim (eqb_tells t u) [ inl e ↦ absurd (ne (sym e.1)) | inr e ↦ e.0 ]

-- the block of the turn's thread
with_mine : (h t k : ℕ) (o : Option ℕ) (x : Custody) → has h k ≡ is_number (with_of x.place) t → has (held_with h o) k ≡ is_number (with_of (custody_on o t k x).place) t
with_mine h t k None x e = e
with_mine h t k (Some lock) x e = with_has h lock k ∙ (elim (k == lock) as (λ b. (b || has h k) ≡ is_number (with_of (if b then record x { place = With t } else x).place) t) [
  | true ↦ sym (eq_self t)
  | false ↦ e
])

-- the block of another thread
with_other : (b : Bool) (t u k : ℕ) (o : Option ℕ) (x : Custody) → u ≢ t → (o ≡ Some k → with_of x.place ≡ None) → b ≡ is_number (with_of x.place) u → b ≡ is_number (with_of (custody_on o t k x).place) u
with_other b t u k None x ne free e = e
with_other b t u k (Some lock) x ne free e = elim (eqb_tells k lock) [
  | inl h ↦ (let none : with_of x.place ≡ None = free (ap Some (sym h.1)) in e ∙ ap (λ p. is_number p u) none ∙ sym (number_other t u ne) ∙ sym (ap (λ y. is_number (with_of (if y then record x { place = With t } else x).place) u) h.0))
  | inr h ↦ e ∙ sym (ap (λ y. is_number (with_of (if y then record x { place = With t } else x).place) u) h.0)
]

tracked_turn : (image : Shown) (c : Core) (t : ℕ) → MayTurn image c t → Tracks c → Tracks (after_turn image c t)
tracked_turn image c t may tr =
    let m = c.machine in
    let d = m.threads t in
    let taken = next_lock image d in
    let mine : (after_turn image c t).course t ≡ course_on (c.course t) taken (end_here image c t) = pick_mine t _ (c.course t) in
    let open_block : (c.course t).ended ≡ None = no_end _ may.open_block in
    record {
      with = λ u k. elim (eqb_tells u t) [
        | inl e ↦ subst (λ v. has ((after_turn image c t).course v).held k ≡ is_number (with_of (custody_on taken t k (c.custody k)).place) v) (sym e.1)
            (ap (λ (x : Course). has x.held k) mine ∙ with_mine (c.course t).held t k taken (c.custody k) (tr.with t k))
        | inr e ↦ ap (λ (x : Course). has x.held k) (pick_other u t _ (c.course u) e.1)
            ∙ with_other (has (c.course u).held k) t u k taken (c.custody k) e.1 (λ h. (take_facts image c t k may h).1) (tr.with u k)
      ];
      kept = λ u k. elim (eqb_tells u t) [
        | inl e ↦ subst (λ v. has (held_past ((after_turn image c t).course v).held ((after_turn image c t).course v).ended) k ≡ ((after image m t).threads v).held k) (sym e.1)
            (ap (λ (x : Course). has (held_past x.held x.ended) k) mine
            ∙ turn_kept d (next_act image d m.locks) (c.course t).held ((c.course t).turns + 1) k taken (next_lock image ((after image m t).threads t))
            (taken_none taken (next_act image d m.locks) (next_takes image d m.locks)) (takes image d m.locks)
            (ap (λ x. has (held_past (c.course t).held x) k) (sym open_block) ∙ tr.kept t k)
            ∙ ap (λ (x : Thread). x.held k) (sym (after_thread image m t)))
        | inr e ↦ ap (λ (x : Course). has (held_past x.held x.ended) k) (pick_other u t _ (c.course u) e.1) ∙ tr.kept u k
            ∙ ap (λ (x : Thread). x.held k) (sym ((turn_apart image m t _ (covers_block image d)).threads u e.1))
      ];
    }

-- ---- a commit

past_mine : (b held : Bool) (w t : ℕ) (r : Option Release) (x : Custody) → b ≡ held → (held ≡ true → with_of x.place ≡ Some t) → b ≡ is_number (with_of (custody_past w t held r x).place) t
past_mine b true w t r x e f = e ∙ sym (go (is_number (with_of x.place) t) (ap (λ o. is_number o t) (f refl) ∙ eq_self t))
  where
    go : (y : Bool) → is_number (with_of x.place) t ≡ true → is_number (with_of (if y && false then record x { place = Loose w; last = r } else x).place) t ≡ true
    go true h = h
    go false h = h
past_mine b false w t r x e f = e ∙ sym (go (is_number (with_of x.place) t) refl)
  where
    go : (y : Bool) → is_number (with_of x.place) t ≡ y → is_number (with_of (if y && true then record x { place = Loose w; last = r } else x).place) t ≡ false
    go true h = refl
    go false h = h

-- no number is two
number_apart : (o : Option ℕ) (t u : ℕ) → u ≢ t → is_number o t ≡ true → is_number o u ≡ false
number_apart None t u ne e = refl
number_apart (Some v) t u ne e = elim (eqb_tells v t) [ inl h ↦ ap (λ y. is_number (Some y) u) h.1 ∙ number_other t u ne | inr h ↦ absurd (let f = h.0 in cc) ]

past_other : (held : Bool) (w t u : ℕ) (r : Option Release) (x : Custody) → u ≢ t → is_number (with_of x.place) u ≡ is_number (with_of (custody_past w t held r x).place) u
past_other held w t u r x ne = go (is_number (with_of x.place) t) held refl
  where
    go : (y h : Bool) → is_number (with_of x.place) t ≡ y → is_number (with_of x.place) u ≡ is_number (with_of (if y && not h then record x { place = Loose w; last = r } else x).place) u
    go true true e = refl
    go true false e = number_apart (with_of x.place) t u ne e
    go false h e = refl

tracked_commit : (image : Shown) (c : Core) (w t : ℕ) → IsSoundCore c → Tracks c → Tracks (effect image c (Commit w t))
unfolding effect
tracked_commit image c w t sound tr =
    let mine = pick_mine t (course_past (c.course t)) (c.course t) in
    record {
      with = λ u k. elim (eqb_tells u t) [
        | inl e ↦ subst (λ v. has (if v == t then course_past (c.course t) else c.course v).held k ≡ is_number (with_of (custody_past w t ((c.machine.threads t).held k) (release_of (c.course t)) (c.custody k)).place) v) (sym e.1)
            (ap (λ (x : Course). has x.held k) mine ∙ past_mine _ ((c.machine.threads t).held k) w t (release_of (c.course t)) (c.custody k) (tr.kept t k) (sound.with t k))
        | inr e ↦ ap (λ (x : Course). has x.held k) (pick_other u t _ (c.course u) e.1) ∙ tr.with u k ∙ past_other ((c.machine.threads t).held k) w t u (release_of (c.course t)) (c.custody k) e.1
      ];
      kept = λ u k. elim (eqb_tells u t) [
        | inl e ↦ subst (λ v. has (held_past (if v == t then course_past (c.course t) else c.course v).held (if v == t then course_past (c.course t) else c.course v).ended) k ≡ (c.machine.threads v).held k) (sym e.1)
            (ap (λ (x : Course). has (held_past x.held x.ended) k) mine ∙ tr.kept t k)
        | inr e ↦ ap (λ (x : Course). has (held_past x.held x.ended) k) (pick_other u t _ (c.course u) e.1) ∙ tr.kept u k
      ];
    }

-- ---- all events

tracked_quiet : (c d : Core) → Quiet c d → Tracks c → Tracks d
tracked_quiet c d quiet tr = record {
  with = λ t k. ap (λ h. has h k) (quiet.held t) ∙ tr.with t k ∙ ap (λ o. is_number o t) (sym (quiet.owned k));
  kept = λ t k. (λ i. has (held_past (quiet.held t i) (quiet.ended t i)) k) ∙ tr.kept t k ∙ ap (λ (m : State). (m.threads t).held k) (sym quiet.machine);
}

pub tracked_after : (image : Shown) (limits : Limits) (c : Core) (e : Event) → is_enabled image limits c e ≡ true → IsSoundCore c → Tracks c → Tracks (effect image c e)
tracked_after image limits c (Turn w t) on sound tr = subst (λ x. Tracks x) (sym (turn_is image c w t)) (tracked_turn image c t (may_turn image limits c w t on) tr)
tracked_after image limits c (Commit w t) on sound tr = tracked_commit image c w t sound tr
tracked_after image limits c e on sound tr = tracked_quiet c (effect image c e) (quiet_event image limits c e on refl) tr

tracked : (image : Shown) (limits : Limits) (events : List Event) (c : Core) → IsSoundCore c → Tracks c → AreEnabled image limits c events → Tracks (after_all image c events)
tracked image limits [] c sound tr on = tr
tracked image limits (e ∷ es) c sound tr on =
    tracked image limits es (effect image c e) (sound_after image limits c e on.0 sound) (tracked_after image limits c e on.0 sound tr) on.1

pub first_tracked : (image : Shown) (fuel : ℕ) → Tracks (first_core image fuel)
first_tracked image fuel = record { with = λ t k. has_none k; kept = λ t k. has_none k ∙ sym (false_from_ne_true _ (started_none image fuel t k)) }

pub is_tracked : (s : Story) → IsTracked (last_core s)
is_tracked s =
    let tr = tracked s.image s.limits s.events (first_core s.image s.fuel) (first_sound s.image s.fuel) (first_tracked s.image s.fuel) s.enabled in
    record { with = tr.with; holds = λ t k e. ap (λ x. has (held_past ((last_core s).course t).held x) k) (sym e) ∙ tr.kept t k }
