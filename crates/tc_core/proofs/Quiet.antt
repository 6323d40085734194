-- Events that change no thread, no lock and no block.
use Rattle.std.proofs.Common.{◌≡◌, ◌≢◌, ℕ, Bool, true, false, not, ◌==◌, refl, sym, ap, ◌∙◌, inl, inr}
use Rattle.std.specs.Prelude.{Option, None, if◌then◌else◌}
use Rattle.std.proofs.lemmas.Bool.{and_parts, not-true}
use Rattle.std.proofs.lemmas.Bool.Decides.{eqb_tells}
use Rattle.tc_elf.specs.Shown.{Shown}
use Rattle.tc_core.specs.declared.event.Event.{Event}
use Rattle.tc_core.specs.declared.event.Event.TheVariants.{Claim, Turn, Commit, Enter, Take, Ship, Adopt, Grant, Leave, Free, HandBack, Park, Finish}
use Rattle.tc_core.specs.declared.place.LockPlace.TheVariants as place
use Rattle.tc_core.specs.Lines.{is_second}
use Rattle.tc_core.specs.Core.{Core, Limits, Course, Custody, LockPlace, ThreadPlace, With, Granted, Loose, is_waiting, is_free_lock, is_loose, with_of, with_custody, with_place}
use Rattle.tc_core.specs.Events.{is_enabled, effect, has_thread, has_lock, is_worker, is_thread, is_lock, may_pass, adopts}

unfoldable pub owned : Core → ℕ → Option ℕ
owned c k = with_of (c.custody k).place

pub record Quiet (c d : Core) : Type 0 where
  pub machine : d.machine ≡ c.machine
  pub owned : (k : ℕ) → with_of (d.custody k).place ≡ with_of (c.custody k).place
  pub turns : (t : ℕ) → (d.course t).turns ≡ (c.course t).turns
  pub held : (t : ℕ) → (d.course t).held ≡ (c.course t).held
  pub ended : (t : ℕ) → (d.course t).ended ≡ (c.course t).ended

-- one of two at a number, and at another
pub pick_mine : {A : Type 0} (n : ℕ) (x y : A) → (if n == n then x else y) ≡ x
pick_mine n x y = elim (eqb_tells n n) [ inl h ↦ rw h.0 | inr h ↦ absurd (h.1 refl) ]

pub pick_other : {A : Type 0} (k n : ℕ) (x y : A) → k ≢ n → (if k == n then x else y) ≡ y
pick_other k n x y ne = elim (eqb_tells k n) [ inl h ↦ absurd (ne h.1) | inr h ↦ rw h.0 ]

-- a function changed at one number, seen through another
pub changed_same : {A B : Type 0} (f : ℕ → A) (g : A → B) (n : ℕ) (x : A) (k : ℕ) → g x ≡ g (f n) → g (if k == n then x else f k) ≡ g (f k)
changed_same f g n x k e = elim (eqb_tells k n) [
  | inl h ↦ ap (λ b. g (if b then x else f k)) h.0 ∙ e ∙ ap (λ j. g (f j)) (sym h.1)
  | inr h ↦ ap (λ b. g (if b then x else f k)) h.0
]

pub quiet_course : (c : Core) (t : ℕ) (at : ThreadPlace) → Quiet c (with_place c t at)
quiet_course c t at = record {
  machine = refl;
  owned = λ k. refl;
  turns = λ k. changed_same c.course (λ (x : Course). x.turns) t _ k refl;
  held = λ k. changed_same c.course (λ (x : Course). x.held) t _ k refl;
  ended = λ k. changed_same c.course (λ (x : Course). x.ended) t _ k refl;
}

pub quiet_custody : (c : Core) (lock : ℕ) (x : Custody) → with_of x.place ≡ with_of (c.custody lock).place → Quiet c (with_custody c lock x)
quiet_custody c lock x e = record {
  machine = refl;
  owned = λ k. changed_same c.custody (λ (y : Custody). with_of y.place) lock x k e;
  turns = λ k. refl;
  held = λ k. refl;
  ended = λ k. refl;
}

quiet_trans : (a b c : Core) → Quiet a b → Quiet b c → Quiet a c
quiet_trans a b c p q = record {
  machine = q.machine ∙ p.machine;
  owned = λ k. q.owned k ∙ p.owned k;
  turns = λ k. q.turns k ∙ p.turns k;
  held = λ k. q.held k ∙ p.held k;
  ended = λ k. q.ended k ∙ p.ended k;
}

quiet_pass : (c : Core) (t lock : ℕ) (at : ThreadPlace) (x : Custody) → with_of x.place ≡ with_of (c.custody lock).place → Quiet c (with_place (with_custody c lock x) t at)
quiet_pass c t lock at x e = quiet_trans c (with_custody c lock x) _ (quiet_custody c lock x e) (quiet_course (with_custody c lock x) t at)

free_none : (p : LockPlace) → is_free_lock p ≡ true → with_of p ≡ None
free_none place.Free e = refl
free_none (With t) e = absurd (cc)
free_none (Granted t) e = refl
free_none (Loose w) e = refl

loose_none : (p : LockPlace) (w : ℕ) → is_loose p w ≡ true → with_of p ≡ None
loose_none place.Free w e = refl
loose_none (With t) w e = absurd (cc)
loose_none (Granted t) w e = refl
loose_none (Loose v) w e = refl

-- what has_lock says
pub lock_is_loose : (image : Shown) (limits : Limits) (c : Core) (w lock : ℕ) → has_lock image limits c w lock ≡ true → is_loose (c.custody lock).place w ≡ true
lock_is_loose image limits c w lock e = (and_parts _ _ (and_parts (is_worker limits w) _ e).1).1

pub passes_loose : (image : Shown) (limits : Limits) (c : Core) (w t lock : ℕ) → may_pass image limits c w t lock ≡ true → is_loose (c.custody lock).place w ≡ true
passes_loose image limits c w t lock e = lock_is_loose image limits c w lock (and_parts (has_lock image limits c w lock) _ e).0

-- what passing a lock on asks
pub record Passes (c : Core) (w t k : ℕ) : Type 0 where
  pub loose : is_loose (c.custody k).place w ≡ true
  pub left : (c.custody k).left ≡ false
  pub second : is_second (c.custody k).line t ≡ true
  pub waiting : is_waiting (c.course t).place k ≡ true

pub passes : (image : Shown) (limits : Limits) (c : Core) (w t k : ℕ) → may_pass image limits c w t k ≡ true → Passes c w t k
passes image limits c w t k e =
    let p = and_parts (has_lock image limits c w k) _ e in let q = and_parts _ _ p.1 in
    let r = and_parts (is_thread image t) _ q.1 in let s = and_parts _ _ r.1 in
    record { loose = lock_is_loose image limits c w k p.0; left = not-true _ q.0; second = s.0; waiting = s.1 }

-- ---- the eleven events

-- the event is neither a Turn nor a Commit
abbrev pub is_quiet : Event → Bool
is_quiet (Turn w t) = false
is_quiet (Commit w t) = false
is_quiet _ = true

pub quiet_event : (image : Shown) (limits : Limits) (c : Core) (e : Event) → is_enabled image limits c e ≡ true → is_quiet e ≡ true → Quiet c (effect image c e)
unfolding effect is_enabled
quiet_event image limits c (Claim w t) on is = quiet_course c t _
quiet_event image limits c (Turn w t) on is = absurd (cc)
quiet_event image limits c (Commit w t) on is = absurd (cc)
quiet_event image limits c (Enter w t lock) on is = quiet_custody c lock _ refl
quiet_event image limits c (Take w t lock) on is =
    quiet_custody c lock _ (sym (free_none _ (and_parts _ _ (and_parts (is_lock image lock) _ (and_parts (has_thread image limits c w t) _ on).1).1).1))
quiet_event image limits c (Ship w t lock) on is = quiet_course c t _
quiet_event image limits c (Adopt w t lock) on is =
    (let may = (and_parts (may_pass image limits c w t lock) (adopts limits c lock) on).0 in
    quiet_pass c t lock _ _ (sym (loose_none _ w (passes_loose image limits c w t lock may))))
quiet_event image limits c (Grant w t lock) on is =
    (let may = (and_parts (may_pass image limits c w t lock) (not (adopts limits c lock)) on).0 in
    quiet_pass c t lock _ _ (sym (loose_none _ w (passes_loose image limits c w t lock may))))
quiet_event image limits c (Leave w lock) on is = quiet_custody c lock _ refl
quiet_event image limits c (Free w lock) on is =
    quiet_custody c lock _ (sym (loose_none _ w (lock_is_loose image limits c w lock (and_parts (has_lock image limits c w lock) _ on).0)))
quiet_event image limits c (HandBack w t) on is = quiet_course c t _
quiet_event image limits c (Park w t) on is = quiet_course c t _
quiet_event image limits c (Finish w t) on is = quiet_course c t _
