-- A lock that is granted has no owner, so each enabled turn is defined.
use Rattle.std.proofs.Common.{◌≡◌, ◌≢◌, ℕ, Bool, true, false, not, ◌&&◌, List, [], ◌∷◌, length, refl, sym, ap, subst, ◌∙◌, inl, inr}
use Rattle.std.specs.Cmp.Derive.{both_true}
use Rattle.std.specs.Prelude.{Option, Some, None, nat_lt, is_some, if◌then◌else◌, option_and_then}
use Rattle.std.proofs.lemmas.Bool.{and_parts, not-true, eqb-true}
use Rattle.std.proofs.lemmas.Bool.Decides.{eqb_tells}
use Rattle.tc_elf.specs.Shown.{Shown}
use Rattle.tc_turn.specs.Turn.{Thread, is_running, next_lock, next_act, thread_after}
use Rattle.tc_turn.proofs.Turns.{held_grows, act_takes}
use Rattle.tc_mutex_spec.specs.Machine.{State, is_free, is_open, can_turn, after, turns, IsHeldByOwner}
use Rattle.tc_mutex_spec.proofs.Local.{after_thread, turn_apart}
use Rattle.tc_mutex_spec.proofs.BlocksAlike.{covers_block}
use Rattle.tc_mutex_spec.proofs.Folding.{turn-defined}
use Rattle.tc_mutex_spec.proofs.Holds.{holds_after, holds_start}
use Rattle.tc_core.specs.declared.event.Event.{Event}
use Rattle.tc_core.specs.declared.event.Event.TheVariants.{Turn, Commit}
use Rattle.tc_core.specs.declared.place.LockPlace.TheVariants as place
use Rattle.tc_core.specs.Core.{Core, Limits, Custody, LockPlace, Release, With, Granted, Loose, is_granted, is_number, with_of, first_core}
use Rattle.tc_core.specs.Events.{is_enabled, effect, has_thread, is_worker, is_thread, runs, is_between, may_take, custody_on, custody_past, after_turn}
use Rattle.tc_core.specs.View.{IsSoundCore}
use Rattle.tc_core.specs.Stories.{AreEnabled, after_all, turns_of}
use Rattle.tc_core.proofs.Quiet.{Quiet, quiet_event}

pub quiet_sound : (c d : Core) → Quiet c d → IsSoundCore c → IsSoundCore d
quiet_sound c d quiet sound = record {
  owners = subst (λ m. IsHeldByOwner m) (sym quiet.machine) sound.owners;
  with = λ t k h. quiet.owned k ∙ sound.with t k (ap (λ (m : State). (m.threads t).held k) (sym quiet.machine) ∙ h);
}

granted_none : (p : LockPlace) (t : ℕ) → is_granted p t ≡ true → with_of p ≡ None
granted_none place.Free t e = refl
granted_none (With u) t e = absurd (cc)
granted_none (Granted u) t e = refl
granted_none (Loose w) t e = refl

-- what an enabled turn is known to have
pub record MayTurn (image : Shown) (c : Core) (t : ℕ) : Type 0 where
  pub thread : nat_lt t (length image.entries) ≡ true
  pub running : is_running (c.machine.threads t).status ≡ true
  pub open_block : is_some (c.course t).ended ≡ false
  pub take : may_take (next_lock image (c.machine.threads t)) t c ≡ true

pub may_turn : (image : Shown) (limits : Limits) (c : Core) (w t : ℕ) → is_enabled image limits c (Turn w t) ≡ true → MayTurn image c t
unfolding is_enabled
may_turn image limits c w t e =
    let a = and_parts (has_thread image limits c w t) _ e in let p = and_parts (is_worker limits w) _ a.0 in let q = and_parts (is_thread image t) _ p.1 in
    let b = and_parts (runs c t) _ a.1 in let r = and_parts _ _ b.1 in
    record { thread = q.0; running = b.0; open_block = not-true _ r.0; take = r.1 }

-- where a lock is taken, the block has no turn yet, and the lock is with nobody
pub take_facts : (image : Shown) (c : Core) (t lock : ℕ) → MayTurn image c t → next_lock image (c.machine.threads t) ≡ Some lock → ((c.course t).turns ≡ 0) × (with_of (c.custody lock).place ≡ None)
take_facts image c t lock may e =
    let p = and_parts (is_between c t) (is_granted (c.custody lock).place t) (ap (λ o. may_take o t c) (sym e) ∙ may.take) in
    (eqb-true (c.course t).turns 0 p.0, granted_none (c.custody lock).place t p.1)

free_owner : (o : Option ℕ) → ((u : ℕ) → o ≡ Some u → ⊥) → is_free o ≡ true
free_owner None h = refl
free_owner (Some u) h = absurd (h u refl)

open_lock : (image : Shown) (c : Core) (t : ℕ) → IsSoundCore c → MayTurn image c t → (o : Option ℕ) → next_lock image (c.machine.threads t) ≡ o → is_open o c.machine.locks ≡ true
open_lock image c t sound may None e = refl
open_lock image c t sound may (Some k) e =
    let none = (take_facts image c t k may e).1 in
    free_owner (c.machine.locks k).owner (λ u h. let w = sound.with u k ((sound.owners u k).1 h) in cc)

pub turn_can : (image : Shown) (c : Core) (t : ℕ) → IsSoundCore c → MayTurn image c t → can_turn image c.machine t ≡ true
unfolding can_turn
turn_can image c t sound may = both_true may.thread (both_true may.running (open_lock image c t sound may _ refl))

-- ---- a lock's place after a turn

pub taken_other : (o : Option ℕ) (t k : ℕ) (x : Custody) → o ≢ Some k → custody_on o t k x ≡ x
taken_other None t k x ne = refl
taken_other (Some lock) t k x ne = elim (eqb_tells k lock) [ inl h ↦ absurd (ne (rw h.1)) | inr h ↦ rw h.0 ]

pub taken_same : (o : Option ℕ) (t k : ℕ) (x : Custody) → o ≡ Some k → with_of (custody_on o t k x).place ≡ Some t
taken_same o t k x e = ap (λ y. with_of (custody_on y t k x).place) e ∙ (elim (eqb_tells k k) [ inl h ↦ rw h.0 | inr h ↦ absurd (h.1 refl) ])

turn_takes : (image : Shown) (d : Thread) (m : State) (k : ℕ) → (thread_after d (next_act image d m.locks)).held k ≡ true → d.held k ≡ false → next_lock image d ≡ Some k
unfolding next_act
turn_takes image d m k h none = elim (held_grows d (next_act image d m.locks) k h) [
  | inl e ↦ absurd (cc)
  | inr took ↦ act_takes image d _ k took.0 took.1
]

pub turn_sound : (image : Shown) (c : Core) (t : ℕ) → IsSoundCore c → MayTurn image c t → IsSoundCore (after_turn image c t)
turn_sound image c t sound may =
    let m = c.machine in
    let d = m.threads t in
    let kept : (u k : ℕ) → (m.threads u).held k ≡ true → with_of (custody_on (next_lock image d) t k (c.custody k)).place ≡ Some u =
    λ u k h. (let w = sound.with u k h in
    ap (λ (x : Custody). with_of x.place) (taken_other (next_lock image d) t k (c.custody k) (λ e. let none = (take_facts image c t k may e).1 in cc)) ∙ w) in
    record {
      owners = holds_after image m t (turn_can image c t sound may) sound.owners;
      with = λ u k h. elim (eqb_tells u t) [
        | inl e ↦
            (let h' : (thread_after d (next_act image d m.locks)).held k ≡ true = (ap (λ (x : Thread). x.held k) (sym (after_thread image m t)) ∙ ap (λ v. ((after image m t).threads v).held k) (sym e.1) ∙ h) in
            own u k e.1 h' kept (d.held k) refl)
        | inr e ↦ kept u k (ap (λ (x : Thread). x.held k) (sym ((turn_apart image m t _ (covers_block image d)).threads u e.1)) ∙ h)
      ];
    }
  where
    own : (u k : ℕ) → u ≡ t → (thread_after (c.machine.threads t) (next_act image (c.machine.threads t) c.machine.locks)).held k ≡ true
        → ((u k : ℕ) → (c.machine.threads u).held k ≡ true → with_of (custody_on (next_lock image (c.machine.threads t)) t k (c.custody k)).place ≡ Some u)
        → (b : Bool) → (c.machine.threads t).held k ≡ b → with_of (custody_on (next_lock image (c.machine.threads t)) t k (c.custody k)).place ≡ Some u
    own u k e h kept true b = kept t k b ∙ ap Some (sym e)
    own u k e h kept false b = taken_same (next_lock image (c.machine.threads t)) t k (c.custody k) (turn_takes image (c.machine.threads t) c.machine k h b) ∙ ap Some (sym e)

-- ---- a commit

-- a lock that its thread still holds stays with it
pub past_kept : (w t u : ℕ) (held : Bool) (r : Option Release) (x : Custody) → with_of x.place ≡ Some u → (u ≡ t → held ≡ true) → custody_past w t held r x ≡ x
past_kept w t u held r x e h =
    ap (λ o. if is_number o t && not held then record x { place = Loose w; last = r } else x) e
    ∙ (elim (eqb_tells u t) [
      | inl y ↦ rw (y.0, h y.1)
      | inr y ↦ rw y.0
    ])

pub commit_machine : (image : Shown) (c : Core) (w t : ℕ) → (effect image c (Commit w t)).machine ≡ c.machine
unfolding effect
commit_machine image c w t = refl

pub commit_sound : (image : Shown) (c : Core) (w t : ℕ) → IsSoundCore c → IsSoundCore (effect image c (Commit w t))
unfolding effect
commit_sound image c w t sound = record {
  owners = sound.owners;
  with = λ u k h. (let o = sound.with u k h in
      ap (λ (x : Custody). with_of x.place) (past_kept w t u _ _ (c.custody k) o (λ e. subst (λ v. (c.machine.threads v).held k ≡ true) e h)) ∙ o);
}

pub turn_is : (image : Shown) (c : Core) (w t : ℕ) → effect image c (Turn w t) ≡ after_turn image c t
unfolding effect
turn_is image c w t = refl

pub sound_after : (image : Shown) (limits : Limits) (c : Core) (e : Event) → is_enabled image limits c e ≡ true → IsSoundCore c → IsSoundCore (effect image c e)
sound_after image limits c (Turn w t) on sound = subst (λ x. IsSoundCore x) (sym (turn_is image c w t)) (turn_sound image c t sound (may_turn image limits c w t on))
sound_after image limits c (Commit w t) on sound = commit_sound image c w t sound
sound_after image limits c e on sound = quiet_sound c (effect image c e) (quiet_event image limits c e on refl) sound

-- ---- all events

pub record Erased (image : Shown) (c : Core) (es : List Event) : Type 0 where
  pub run : turns image c.machine (turns_of es) ≡ Some (after_all image c es).machine
  pub sound : IsSoundCore (after_all image c es)

quiet_step : (image : Shown) (e : Event) (es : List Event) (c : Core) → Quiet c (effect image c e) → turns_of (e ∷ es) ≡ turns_of es → IsSoundCore c
    → (IsSoundCore (effect image c e) → Erased image (effect image c e) es) → Erased image c (e ∷ es)
quiet_step image e es c quiet none sound rec =
    let r = rec (quiet_sound c (effect image c e) quiet sound) in
    record { run = ap (turns image c.machine) none ∙ ap (λ m. turns image m (turns_of es)) (sym quiet.machine) ∙ r.run; sound = r.sound }

pub erased : (image : Shown) (limits : Limits) (events : List Event) (c : Core) → IsSoundCore c → AreEnabled image limits c events → Erased image c events
erased image limits [] c sound on = record { run = refl; sound = sound }
erased image limits (Turn w t ∷ es) c sound on =
    let may = may_turn image limits c w t on.0 in
    let sound' : IsSoundCore (effect image c (Turn w t)) = subst (λ x. IsSoundCore x) (sym (turn_is image c w t)) (turn_sound image c t sound may) in
    let r = erased image limits es (effect image c (Turn w t)) sound' on.1 in
    record {
      run = ap (option_and_then (λ n. turns image n (turns_of es))) (turn-defined image c.machine t (turn_can image c t sound may))
          ∙ ap (λ (x : Core). turns image x.machine (turns_of es)) (sym (turn_is image c w t)) ∙ r.run;
      sound = r.sound;
    }
erased image limits (Commit w t ∷ es) c sound on =
    let r = erased image limits es (effect image c (Commit w t)) (commit_sound image c w t sound) on.1 in
    record { run = ap (λ m. turns image m (turns_of es)) (sym (commit_machine image c w t)) ∙ r.run; sound = r.sound }
erased image limits (e ∷ es) c sound on = quiet_step image e es c (quiet_event image limits c e on.0 refl) refl sound (λ i. erased image limits es _ i on.1)

pub started_none : (image : Shown) (fuel t k : ℕ) → ((first_core image fuel).machine.threads t).held k ≡ true → ⊥
started_none image fuel t k h = (let o = (holds_start image fuel t k).0 h in cc)

pub first_sound : (image : Shown) (fuel : ℕ) → IsSoundCore (first_core image fuel)
first_sound image fuel = record { owners = holds_start image fuel; with = λ t k h. absurd (started_none image fuel t k h) }
