-- A lock is loose at the worker of the block that released it, so a section is adopted by the worker of the block before it.
use Rattle.std.proofs.Common.{◌≡◌, ℕ, Bool, true, false, not, ◌&&◌, ◌==◌, List, [], ◌∷◌, ◌++◌, length, refl, sym, ap, subst, ◌∙◌, inl, inr, append-nil}
use Rattle.std.specs.Prelude.{Option, Some, None, is_some, if◌then◌else◌}
use Rattle.std.proofs.lemmas.Bool.Decides.{eqb_tells}
use Rattle.std.proofs.lemmas.List.Elements.{filter-append}
use Rattle.std.proofs.lemmas.Bool.{and_parts}
use Rattle.tc_core.proofs.Unfinished.{commit_may}
use Rattle.tc_isa.specs.Sets.{has}
use Rattle.tc_elf.specs.Shown.{Shown}
use Rattle.tc_journal.specs.Batch.{last_of}
use Rattle.tc_journal.specs.History.{of_lock}
use Rattle.tc_journal.specs.declared.block.Block.{Block}
use Rattle.tc_journal.specs.declared.block.End.{End}
use Rattle.tc_journal.proofs.Batching.{last_more}
use Rattle.tc_turn.specs.Turn.{next_lock}
use Rattle.tc_core.specs.declared.event.Event.{Event}
use Rattle.tc_core.specs.declared.event.Event.TheVariants.{Claim, Turn, Commit, Enter, Take, Ship, Adopt, Grant, Leave, Free, HandBack, Park, Finish}
use Rattle.tc_core.specs.declared.place.LockPlace.{LockPlace}
use Rattle.tc_core.specs.declared.place.LockPlace.TheVariants.{With, Granted, Loose}
use Rattle.tc_core.specs.declared.place.LockPlace.TheVariants as place
use Rattle.tc_core.specs.declared.place.Course.{Course}
use Rattle.tc_core.specs.declared.place.Custody.{Custody}
use Rattle.tc_core.specs.declared.place.Release.{Release}
use Rattle.tc_core.specs.Core.{Core, Limits, first_core, is_number, is_loose, with_of}
use Rattle.tc_core.specs.Events.{is_enabled, effect, may_pass, adopts, release_of, custody_on, custody_past}
use Rattle.tc_core.specs.Stories.{AreEnabled, after_all}
use Rattle.tc_core.proofs.Quiet.{is_quiet, passes_loose}
use Rattle.tc_core.proofs.Erasure.{sound_after, first_sound}
use Rattle.tc_core.proofs.Tracked.{tracked_after, first_tracked}
use Rattle.tc_told.specs.Written.{Beginning, Written, IsOfLast, first_written, write, write_all, history_of}
use Rattle.tc_told.proofs.Front.{block_on}
use Rattle.tc_told.proofs.Leads.{Kept}

-- each loose lock is at the worker of the last of its blocks
abbrev AreLoose : Core → List Block → Type 0
AreLoose c h = (k w : ℕ) → (c.custody k).place ≡ Loose w → IsOfLast k w h

changed : (f : ℕ → Custody) (n : ℕ) (x : Custody) (k w : ℕ) → (x.place ≡ Loose w → (f n).place ≡ Loose w) → (if k == n then x else f k).place ≡ Loose w → (f k).place ≡ Loose w
changed f n x k w was e = elim (eqb_tells k n) [
  | inl h ↦ ap (λ (j : ℕ). (f j).place) h.1 ∙ was (sym (ap (λ b. (if b then x else f k).place) h.0) ∙ e)
  | inr h ↦ sym (ap (λ b. (if b then x else f k).place) h.0) ∙ e
]

-- no event but a Commit makes a lock loose
loose_was : (image : Shown) (c : Core) (e : Event) → is_quiet e ≡ true → (k w : ℕ) → ((effect image c e).custody k).place ≡ Loose w → (c.custody k).place ≡ Loose w
unfolding effect
loose_was image c (Claim v t) q k w e = e
loose_was image c (Turn v t) q k w e = absurd (cc)
loose_was image c (Commit v t) q k w e = absurd (cc)
loose_was image c (Enter v t lock) q k w e = changed c.custody lock _ k w (λ h. h) e
loose_was image c (Take v t lock) q k w e = changed c.custody lock _ k w (λ h. absurd (cc)) e
loose_was image c (Ship v t lock) q k w e = e
loose_was image c (Adopt v t lock) q k w e = changed c.custody lock _ k w (λ h. absurd (cc)) e
loose_was image c (Grant v t lock) q k w e = changed c.custody lock _ k w (λ h. absurd (cc)) e
loose_was image c (Leave v lock) q k w e = changed c.custody lock _ k w (λ h. h) e
loose_was image c (Free v lock) q k w e = changed c.custody lock _ k w (λ h. absurd (cc)) e
loose_was image c (HandBack v t) q k w e = e
loose_was image c (Park v t) q k w e = e
loose_was image c (Finish v t) q k w e = e

turn_loose : (o : Option ℕ) (t k w : ℕ) (x : Custody) → (custody_on o t k x).place ≡ Loose w → x.place ≡ Loose w
turn_loose None t k w x e = e
turn_loose (Some lock) t k w x e = go (k == lock) e
  where
    go : (v : Bool) → (if v then record x { place = With t } else x).place ≡ Loose w → x.place ≡ Loose w
    go true h = absurd (cc)
    go false h = h

-- a block at the end of a history that has the lock, or not
of_last_in : (k : ℕ) (h : List Block) (b : Block) → has b.held k ≡ true → IsOfLast k b.worker (h ++ b ∷ [])
of_last_in k h b on = record {
  block = b;
  last = ap last_of (filter-append (λ (c : Block). has c.held k) h (b ∷ []) ∙ ap (λ v. of_lock h k ++ (if v then b ∷ [] else [])) on) ∙ last_more (of_lock h k) b;
  worker = refl;
}

of_last_out : (k w : ℕ) (h : List Block) (b : Block) → has b.held k ≡ false → IsOfLast k w h → IsOfLast k w (h ++ b ∷ [])
of_last_out k w h b out is = record {
  block = is.block;
  last = ap last_of (filter-append (λ (c : Block). has c.held k) h (b ∷ []) ∙ ap (λ v. of_lock h k ++ (if v then b ∷ [] else [])) out ∙ append-nil (of_lock h k)) ∙ is.last;
  worker = is.worker;
}

loose_commit : (h : List Block) (v t k w : ℕ) (a : Beginning) (y : Course) (end : Option End) (held : Bool) (r : Option Release) (x : Custody) → is_some end ≡ true → has y.held k ≡ is_number (with_of x.place) t
    → (x.place ≡ Loose w → IsOfLast k w h) → (custody_past v t held r x).place ≡ Loose w → IsOfLast k w (block_on h v t a y end)
loose_commit h v t k w a y None held r x some with was e = absurd (cc)
loose_commit h v t k w a y (Some end) held r x some with was e = go (is_number (with_of x.place) t) held refl e
  where
    b : Block
    b = record { stamp = length h; thread = t; turns = y.turns; held = y.held; kind = a.kind; worker = v; pc = a.pc; end = end }

    here : v ≡ w → has y.held k ≡ true → IsOfLast k w (block_on h v t a y (Some end))
    here same on = subst (λ u. IsOfLast k u (block_on h v t a y (Some end))) same (of_last_in k h (record { stamp = length h; thread = t; turns = y.turns; held = y.held; kind = a.kind; worker = v; pc = a.pc; end = end }) on)

    still : x.place ≡ Loose w → IsOfLast k w (block_on h v t a y (Some end))
    still loose = of_last_out k w h _ (with ∙ ap (λ p. is_number (with_of p) t) loose) (was loose)

    go : (p q : Bool) → is_number (with_of x.place) t ≡ p → (if p && not q then record x { place = Loose v; last = r } else x).place ≡ Loose w → IsOfLast k w (block_on h v t a y (Some end))
    go true true is f = still f
    go true false is f = here (let g : Loose v ≡ Loose w = f in cc) (with ∙ is)
    go false q is f = still f

loose_next : (image : Shown) (limits : Limits) (s : Written) (e : Event) → is_enabled image limits s.core e ≡ true → Kept s.core → AreLoose s.core s.history → AreLoose (write image s e).core (write image s e).history
unfolding effect
loose_next image limits s (Turn v t) on kept loose k w e = loose k w (turn_loose (next_lock image (s.core.machine.threads t)) t k w (s.core.custody k) e)
loose_next image limits s (Commit v t) on kept loose k w e =
    loose_commit s.history v t k w (s.next t) (s.core.course t) (s.core.course t).ended ((s.core.machine.threads t).held k) (release_of (s.core.course t)) (s.core.custody k)
    (commit_may image limits s.core v t on) (kept.tracks.with t k) (loose k w) e
loose_next image limits s e on kept loose k w h = quiet_next image s e refl refl loose k w h
  where
    quiet_next : (image : Shown) (s : Written) (e : Event) → is_quiet e ≡ true → (write image s e).history ≡ s.history → AreLoose s.core s.history → (k w : ℕ) → ((effect image s.core e).custody k).place ≡ Loose w → IsOfLast k w (write image s e).history
    quiet_next image s e q same loose k w h = subst (λ x. IsOfLast k w x) (sym same) (loose k w (loose_was image s.core e q k w h))

all_loose : (image : Shown) (limits : Limits) (events : List Event) (s : Written) → AreEnabled image limits s.core events → Kept s.core → AreLoose s.core s.history → AreLoose (write_all image s events).core (write_all image s events).history
all_loose image limits [] s on kept loose = loose
all_loose image limits (e ∷ es) s on kept loose =
    all_loose image limits es (write image s e) on.1
    (record { sound = sound_after image limits s.core e on.0 kept.sound; tracks = tracked_after image limits s.core e on.0 kept.sound kept.tracks })
    (loose_next image limits s e on.0 kept loose)

loose_is : (p : LockPlace) (w : ℕ) → is_loose p w ≡ true → p ≡ Loose w
loose_is place.Free w e = absurd (cc)
loose_is (With t) w e = absurd (cc)
loose_is (Granted t) w e = absurd (cc)
loose_is (Loose v) w e = elim (eqb_tells v w) [ inl h ↦ ap Loose h.1 | inr h ↦ absurd (let f = h.0 in cc) ]

adopt_loose : (image : Shown) (limits : Limits) (c : Core) (w t k : ℕ) → is_enabled image limits c (Adopt w t k) ≡ true → (c.custody k).place ≡ Loose w
unfolding is_enabled
adopt_loose image limits c w t k on = loose_is (c.custody k).place w (passes_loose image limits c w t k (and_parts (may_pass image limits c w t k) (adopts limits c k) on).0)

pub core_after : (image : Shown) (events : List Event) (s : Written) → (write_all image s events).core ≡ after_all image s.core events
core_after image [] s = refl
core_after image (e ∷ es) s = core_after image es (write image s e)

pub adopter_is : (image : Shown) (limits : Limits) (fuel : ℕ) (events : List Event) (w t k : ℕ) → AreEnabled image limits (first_core image fuel) events
    → is_enabled image limits (after_all image (first_core image fuel) events) (Adopt w t k) ≡ true → IsOfLast k w (history_of image fuel events)
adopter_is image limits fuel events w t k on adopt =
    all_loose image limits events (first_written image fuel) on (record { sound = first_sound image fuel; tracks = first_tracked image fuel }) (λ j v e. absurd (cc)) k w
    (adopt_loose image limits (write_all image (first_written image fuel) events).core w t k (ap (λ c. is_enabled image limits c (Adopt w t k)) (core_after image events (first_written image fuel)) ∙ adopt))
