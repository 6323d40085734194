-- No lock is adopted more often in a row than the batch limit says.
use Rattle.std.proofs.Common.{◌≡◌, ℕ, ◌+◌, ◌<◌, ◌≤◌, Bool, true, false, not, ◌&&◌, ◌==◌, List, [], ◌∷◌, refl, sym, ap, subst, ◌∙◌, arith, inl, inr}
use Rattle.std.specs.Prelude.{Option, Some, None, nat_lt, if◌then◌else◌}
use Rattle.std.proofs.lemmas.Bool.{and_parts}
use Rattle.std.proofs.lemmas.Bool.Decides.{nat_tests, eqb_tells}
use Rattle.tc_elf.specs.Shown.{Shown}
use Rattle.tc_journal.specs.Batch.{unlocks, is_only}
use Rattle.tc_core.specs.declared.event.Event.{Event}
use Rattle.tc_core.specs.declared.event.Event.TheVariants.{Claim, Turn, Commit, Enter, Take, Ship, Adopt, Grant, Leave, Free, HandBack, Park, Finish}
use Rattle.tc_core.specs.Core.{Core, Limits, Custody, Release, With, Loose, is_number, with_of, first_core}
use Rattle.tc_core.specs.Events.{is_enabled, effect, may_pass, is_adoptable, adopts, custody_on, custody_past}
use Rattle.tc_core.specs.Stories.{AreEnabled, Story, begins_batch, is_adopt, adopts_ahead, KeepsBatch}
use Rattle.tc_core.proofs.Quiet.{changed_same}

-- how the sections in a row count on
abbrev run_on : ℕ → ℕ → Event → ℕ
run_on lock n e = if begins_batch lock e then 0 else (if is_adopt lock e then 1 else 0) + n

-- the same, where the event changes no run
same_run : (n m : ℕ) → n ≡ m → n ≡ 0 + m
same_run n m e = omega arith

run_taken : (o : Option ℕ) (t k : ℕ) (x : Custody) → (custody_on o t k x).run ≡ x.run
run_taken None t k x = refl
run_taken (Some lock) t k x = elim (k == lock) as (λ b. (if b then record x { place = With t } else x).run ≡ x.run) [ true ↦ refl | false ↦ refl ]

run_past : (w t : ℕ) (held : Bool) (r : Option Release) (x : Custody) → (custody_past w t held r x).run ≡ x.run
run_past w t held r x = elim (is_number (with_of x.place) t && not held) as (λ b. (if b then record x { place = Loose w; last = r } else x).run ≡ x.run) [ true ↦ refl | false ↦ refl ]

-- a custody that is changed at lock k, seen at another or at the same
run_at : (c : Core) (k lock n : ℕ) (x : Custody) → x.run ≡ n → (if lock == k then x else c.custody lock).run ≡ (if k == lock then n else (c.custody lock).run)
run_at c k lock n x e = elim (eqb_tells lock k) [
  | inl h ↦ (let s : (k == lock) ≡ true = (elim (eqb_tells k lock) [ inl y ↦ y.0 | inr y ↦ absurd (y.1 (sym h.1)) ]) in rw (h.0, s) e)
  | inr h ↦ (let s : (k == lock) ≡ false = (elim (eqb_tells k lock) [ inl y ↦ absurd (h.1 (sym y.1)) | inr y ↦ y.0 ]) in rw (h.0, s) refl)
]

run_is : (image : Shown) (lock : ℕ) (c : Core) (e : Event) → ((effect image c e).custody lock).run ≡ run_on lock (c.custody lock).run e
unfolding effect
run_is image lock c (Claim w t) = same_run _ _ refl
run_is image lock c (Turn w t) = same_run _ _ (run_taken _ t lock (c.custody lock))
run_is image lock c (Commit w t) = same_run _ _ (run_past w t _ _ (c.custody lock))
run_is image lock c (Enter w t k) = same_run _ _ (changed_same c.custody (λ (x : Custody). x.run) k _ lock refl)
run_is image lock c (Take w t k) = run_at c k lock 0 _ refl ∙ elim (k == lock) as (λ b. (if b then 0 else (c.custody lock).run) ≡ (if b then 0 else 0 + (c.custody lock).run)) [ true ↦ refl | false ↦ same_run _ _ refl ]
run_is image lock c (Ship w t k) = same_run _ _ refl
run_is image lock c (Adopt w t k) = run_at c k lock ((c.custody k).run + 1) _ refl ∙ (elim (eqb_tells k lock) [
  | inl h ↦ (let s : (c.custody k).run ≡ (c.custody lock).run = ap (λ j. (c.custody j).run) h.1 in rw h.0 (omega arith))
  | inr h ↦ rw h.0 (omega arith)
])
run_is image lock c (Grant w t k) = run_at c k lock 0 _ refl ∙ elim (k == lock) as (λ b. (if b then 0 else (c.custody lock).run) ≡ (if b then 0 else 0 + (c.custody lock).run)) [ true ↦ refl | false ↦ same_run _ _ refl ]
run_is image lock c (Leave w k) = same_run _ _ (changed_same c.custody (λ (x : Custody). x.run) k _ lock refl)
run_is image lock c (Free w k) = same_run _ _ (changed_same c.custody (λ (x : Custody). x.run) k _ lock refl)
run_is image lock c (HandBack w t) = same_run _ _ refl
run_is image lock c (Park w t) = same_run _ _ refl
run_is image lock c (Finish w t) = same_run _ _ refl

-- a lock that may be adopted has had fewer than the limit
pub below : (limits : Limits) (lock run : ℕ) (o : Option Release) → is_adoptable limits lock run o ≡ true → run < limits.batch
below limits lock run None e = absurd (cc)
below limits lock run (Some r) e =
    (let l : nat_lt run limits.batch ≡ true = (and_parts (unlocks lock r.end && is_only r.held lock) _ e).1 in grind (arith, nat_tests))

run_below : (image : Shown) (limits : Limits) (lock : ℕ) (c : Core) (e : Event) → is_enabled image limits c e ≡ true → (c.custody lock).run ≤ limits.batch → run_on lock (c.custody lock).run e ≤ limits.batch
unfolding is_enabled
run_below image limits lock c (Adopt w t k) on le = elim (eqb_tells k lock) [
  | inl h ↦ (let l = below limits k (c.custody k).run (c.custody k).last (and_parts (may_pass image limits c w t k) (adopts limits c k) on).1 in
      let m : (c.custody lock).run < limits.batch = subst (λ j. (c.custody j).run < limits.batch) h.1 l in rw h.0 (omega arith))
  | inr h ↦ rw h.0 (omega arith)
]
run_below image limits lock c (Take w t k) on le = elim (k == lock) as (λ b. (if b then 0 else 0 + (c.custody lock).run) ≤ limits.batch) [ true ↦ omega arith | false ↦ omega arith ]
run_below image limits lock c (Grant w t k) on le = elim (k == lock) as (λ b. (if b then 0 else 0 + (c.custody lock).run) ≤ limits.batch) [ true ↦ omega arith | false ↦ omega arith ]
run_below image limits lock c _ on le = omega arith

-- what is to come fits beside the run
ahead_fits : (image : Shown) (limits : Limits) (lock : ℕ) (es : List Event) (c : Core) → (c.custody lock).run ≤ limits.batch → AreEnabled image limits c es → (c.custody lock).run + adopts_ahead lock es ≤ limits.batch
ahead_fits image limits lock [] c le on = omega arith
ahead_fits image limits lock (e ∷ es) c le on =
    go (begins_batch lock e) (if is_adopt lock e then 1 else 0) refl (run_is image lock c e) (run_below image limits lock c e on.0 le) (λ next. ahead_fits image limits lock es (effect image c e) next on.1)
  where
    go : (b : Bool) (m : ℕ) → begins_batch lock e ≡ b → ((effect image c e).custody lock).run ≡ (if begins_batch lock e then 0 else m + (c.custody lock).run)
        → (if begins_batch lock e then 0 else m + (c.custody lock).run) ≤ limits.batch
        → (((effect image c e).custody lock).run ≤ limits.batch → ((effect image c e).custody lock).run + adopts_ahead lock es ≤ limits.batch)
        → (c.custody lock).run + (if begins_batch lock e then 0 else m + adopts_ahead lock es) ≤ limits.batch
    go true m h is low rec = rw h (omega arith)
    go false m h is low rec =
        (let is' : ((effect image c e).custody lock).run ≡ m + (c.custody lock).run = (rw h at is) in
        let low' : m + (c.custody lock).run ≤ limits.batch = (rw h at low) in
        let r = rec (rw is' low') in
        rw h (omega arith))

-- after the event that begins a batch none is in a row
batch_zero : (image : Shown) (lock : ℕ) (c : Core) (e : Event) → begins_batch lock e ≡ true → ((effect image c e).custody lock).run ≡ 0
batch_zero image lock c e h = run_is image lock c e ∙ ap (λ b. if b then 0 else (if is_adopt lock e then 1 else 0) + (c.custody lock).run) h

keeps : (image : Shown) (limits : Limits) (lock : ℕ) (es : List Event) (c : Core) → (c.custody lock).run ≤ limits.batch → AreEnabled image limits c es → KeepsBatch lock limits.batch es
keeps image limits lock [] c le on = tt
keeps image limits lock (e ∷ es) c le on =
    let next : ((effect image c e).custody lock).run ≤ limits.batch = (let is = run_is image lock c e in let low = run_below image limits lock c e on.0 le in rw is low) in (
      λ h. (let f = ahead_fits image limits lock es (effect image c e) next on.1 in let z = batch_zero image lock c e h in omega arith),
      keeps image limits lock es (effect image c e) next on.1,
    )

pub keeps_batch : (s : Story) (lock : ℕ) → KeepsBatch lock s.limits.batch s.events
keeps_batch s lock = keeps s.image s.limits lock s.events (first_core s.image s.fuel) (omega arith) s.enabled
