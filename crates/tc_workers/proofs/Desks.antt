-- A desk at work, through its calls.
use Rattle.std.proofs.Common.{◌≡◌, ⊎_elim, ℕ, ◌∷◌, ◌&&◌, Bool, true, false, List, [], ◌++◌, length, refl, sym, ap, ◌∙◌, subst, subst₂, append-nil, Option, Some, None}
use Rattle.std.proofs.lemmas.Bool.{or_parts, false_from_ne_true}
use Rattle.std.proofs.lemmas.List.{length-set}
use Rattle.tc_elf.specs.Shown.{Shown}
use Rattle.tc_journal.specs.Batch.{last_of, unlocks}
use Rattle.tc_journal.specs.Handing.{AreTogether, has_unlocked, is_cut, of_worker, was_cut, IsHandedOver}
use Rattle.tc_journal.specs.declared.block.Block.{Block}
use Rattle.tc_journal.specs.declared.block.End.{End}
use Rattle.tc_journal.specs.declared.block.End.TheVariants.{Wants, Unlocked, Slept, Cut}
use Rattle.tc_journal.proofs.Rows.{last_own, worker_of as worker_key}
use Rattle.tc_context.specs.Ran.{DidRun}
use Rattle.tc_segment.specs.View.{LockView, sealed_block}
use Rattle.tc_context.specs.View.{PackageView, IsRoomier, IsSoundPackage, WantIsGranted, with_seal, without_lock}
use Rattle.tc_context.proofs.Running.{seal_last}
use Rattle.tc_context.proofs.Staging.{wants_uncut}
use Rattle.tc_hall.specs.declared.board.Knows.{Knows}
use Rattle.tc_hall.specs.Outs.{Outs, Item, Pack, nothing}
use Rattle.tc_hall.specs.declared.place.Origin.{Origin}
use Rattle.tc_hall.specs.declared.place.Place.TheVariants.{Ready}
use Rattle.tc_hall.specs.PassView.{PassView}
use Rattle.tc_hall.specs.Places.{origin_code, place_of}
use Rattle.tc_hall.specs.Rule.{grants_adopted, is_pinned, last_by, threads}
use Rattle.tc_hall.specs.Standing.{ClaimsAs, IfLined}
use Rattle.tc_hall.specs.Steps.{DidSeal, Gets, IsGrantedBehind, IsSamePass, put_call}
use Rattle.tc_hall.proofs.Behind.{behind_any, comes_behind, nothing_behind, same_last, together_same, together_uncut}
use Rattle.tc_park.specs.Order.{without}
use Rattle.tc_ready.specs.ReadyView.{ReadyView}
use Rattle.tc_ready.specs.Scan.{OnlyLooks}
use Rattle.tc_combiner.specs.declared.settled.Settled.{Settled}
use Rattle.tc_combiner.specs.declared.settled.Settled.TheVariants.{GoesOn, Adopted, Parked as Did_park, Stopped as Was_stopped}
use Rattle.tc_combiner.specs.Answers.{carried, counted, next_turn}
use Rattle.tc_combiner.specs.Packages.{DidTake, HoldsNone, IsGoodFor}
use Rattle.tc_combiner.specs.Stances.{KnowsLines}
use Rattle.tc_combiner.specs.Settling.{DidAcquire, DidUnlock, HasAcquired, HasSettled, Keeps, KeepsSealed, MayCommit, MaySettle, SettledAs, StandsAfter}
use Rattle.tc_combiner.specs.View.{BenchView, DeskView, FitsBench}
use Rattle.tc_combiner.specs.Walks.{HasSeenStop, Owned, Owns, packed}
use Rattle.tc_combiner.proofs.Answering.{good_after}
use Rattle.tc_combiner.proofs.Fitting.{fits_after}
use Rattle.tc_combiner.proofs.Packages.{plain_good}
use Rattle.tc_combiner.proofs.Telling.{acquire_seen, end_seen, unlock_seen}
use Rattle.tc_combiner.proofs.Owning.{without_first}
use Rattle.tc_workers.specs.StepWith.{MayRun, RanOne, step_of}
use Rattle.tc_workers.specs.Search.{MaySearch}
use Rattle.tc_workers.specs.Worker.{HasClaimed, HasOut, HasSealed, IsAtDesk, IsFit, IsIdle, IsNext, IsSeated, IsStep, IsStill, IsUnmoved, MayAllGoBack, RunsBehind, WorkerView, worker_of}
use Rattle.tc_workers.proofs.Passes.{claimed_out, origin_runs, still_called, still_same, stop_shown, unmoved_looked}
use Rattle.tc_workers.proofs.Stances.{claimed_lines, claims_as, lines_still, roomier_lines}
use Rattle.tc_workers.proofs.Running.{may_commit, may_settle, roomier_good, roomier_out, roomier_want}

abbrev pub with_pass : DeskView → PassView → DeskView
with_pass d p = record d { pass = p }

-- ---- its place

owned_rest : (v : Knows) (xs ys : List Item) → Owned v (xs ++ ys) → Owned v ys
owned_rest v [] ys o = o
owned_rest v (x ∷ xs) ys o = owned_rest v xs ys (without_first v x (xs ++ ys) o)

-- what a desk's place is of, but for its seats, may change so
pub seated : (b : BenchView) (xs ys : List Item) (d : DeskView) (p : PassView) (s : List (Option ℕ)) (n : ℕ) (a : Option PackageView) → IsSeated b xs d → IsStill d.pass p → length s ≡ length d.sleepers → ((c : PackageView) → a ≡ Some c → d.aside ≡ Some c) → HasOut p.knows (ys ++ packed a)
    → IsSeated b ys (record d { pass = p; sleepers = s; now = n; aside = a })
seated b xs ys d p s n a h still room same out = record {
  fits = fits_after b d.pass p d.seats d.seats d.sleepers s d.now n d.aside a d.handed d.handed h.fits still.own still.image (record { count = refl; each = λ j. (refl, refl) }) room (λ c e. h.fits.aside c (same c e)) (owned_rest p.knows ys (packed a) (nothing, out));
  sleepers = room ∙ h.sleepers;
  out = out;
}

pub seat_still : (b : BenchView) (xs : List Item) (d : DeskView) (p : PassView) → IsSeated b xs d → IsUnmoved d.pass p → IsSeated b xs (with_pass d p)
seat_still b xs d p h u = seated b xs xs d p d.sleepers d.now d.aside h u.still refl (λ c e. e) (subst (λ (o : Outs). Owns nothing o (xs ++ packed d.aside)) (sym u.out) h.out)

-- what is so by the image and the worker of a pass
pub still_holds : (P : Shown → ℕ → Type 0) (p q : PassView) → IsStill p q → P p.knows.image p.knows.worker → P q.knows.image q.knows.worker
still_holds P p q s h = subst₂ P (sym s.image) (sym s.worker) h

pub at_still : (b : BenchView) (hand : Option PackageView) (d : DeskView) (p : PassView) → IsAtDesk b hand d → IsUnmoved d.pass p → IsAtDesk b hand (with_pass d p)
at_still b hand d p h u = record {
  seat = seat_still b (packed hand) d p h.seat u;
  lines = lines_still b.hall.terms d.pass p (packed hand ++ packed d.aside) u h.lines;
  fit = still_holds (λ (i : Shown) (w : ℕ). IsFit i w hand) d.pass p u.still h.fit;
  next = subst (λ (o : Option Block). IsNext o hand) (λ i. last_of (of_worker (sym u.sealed i) (sym u.still.worker i))) h.next;
}

-- the clock and the sleepers count for nothing but their number
pub other_sleepers : (b : BenchView) (d : DeskView) (s : List (Option ℕ)) (n : ℕ) → IsAtDesk b None d → length s ≡ length d.sleepers → IsAtDesk b None (record d { sleepers = s; now = n })
other_sleepers b d s n h e = record { seat = seated b [] [] d d.pass s n d.aside h.seat (still_same d.pass) e (λ c f. f) h.seat.out; lines = h.lines; fit = tt; next = h.next }

pub length_without : (o : Option ℕ) (s : List (Option ℕ)) → length (without o s) ≡ length s
length_without None s = refl
length_without (Some t) s = length-set s t None

-- a search looked for a ready thread, and no sleeper or one was taken
pub searched : (b : BenchView) (x : WorkerView) (o : Option ℕ) (s z : List (Option ℕ)) (q p : PassView) (r : ReadyView) → MaySearch b x → s ≡ without o z → z ≡ x.desk.sleepers → q ≡ x.desk.pass → IsSamePass q p → OnlyLooks q.knows p.knows → r.threads ≡ x.ready.threads
    → IsStill x.desk.pass p × MaySearch b (worker_of (record x.desk { pass = p; sleepers = s }) r)
searched b x o s z q p r h taken value is own looks same =
    let u : IsUnmoved x.desk.pass p = subst (λ (y : PassView). IsUnmoved y p) is (unmoved_looked q p own looks) in
    let few : length s ≡ length x.desk.sleepers = ap (λ (l : List (Option ℕ)). length l) taken ∙ (length_without o z ∙ ap (λ (l : List (Option ℕ)). length l) value) in
    (u.still, record { idle = record { desk = at_still b None (record x.desk { sleepers = s }) p (other_sleepers b x.desk s x.desk.now h.idle.desk few) u; free = h.idle.free }; ready = same ∙ h.ready })

-- ---- what is in hand and what is set aside

pub fit_back : (image : Shown) (worker : ℕ) (hand : Option PackageView) → IsFit image worker hand → MayAllGoBack image worker hand
fit_back image worker None h = tt
fit_back image worker (Some q) h = record { of = h.of; settled = h.settled; runs = h.runs; locks = h.locks; fits = λ e. h.fits }

aside_fit : (b : BenchView) (d : DeskView) (o : Option PackageView) → d.aside ≡ o → FitsBench b d → IsFit d.pass.knows.image d.pass.knows.worker o
aside_fit b d None e h = tt
aside_fit b d (Some q) e h = let a = (h.aside q e).goes in plain_good (threads b.hall.terms) q d.pass.knows a.plain a.runs (a.of ∙ (h.hall ∙ sym h.image))

-- nothing is granted to a package, and neither its last block nor the worker's was cut
plain_next : (last : Option Block) (q : PackageView) → was_cut last ≡ false → q.granted ≡ None → was_cut (last_of q.log) ≡ false → RunsBehind last q
plain_next last q uncut none before = record { granted = nothing_behind last q.granted none; together = together_uncut last (last_of q.log) uncut before }

aside_next : (b : BenchView) (d : DeskView) (last : Option Block) (o : Option PackageView) → was_cut last ≡ false → d.aside ≡ o → FitsBench b d → IsNext last o
aside_next b d last None uncut e h = uncut
aside_next b d last (Some q) uncut e h = let a = (h.aside q e).goes.plain in plain_next last q uncut a.granted a.uncut

-- the one that was set aside comes into hand
pub aside_seat : (b : BenchView) (d e : DeskView) (o : Option PackageView) → IsSeated b [] d → o ≡ d.aside → e ≡ record d { aside = None } → IsSeated b (packed o) e × IsFit e.pass.knows.image e.pass.knows.worker o
aside_seat b d e o h given rest = subst₂ (λ (x : Option PackageView) (z : DeskView). IsSeated b (packed x) z × IsFit z.pass.knows.image z.pass.knows.worker x) (sym given) (sym rest) (
  seated b [] (packed d.aside) d d.pass d.sleepers d.now None h (still_same d.pass) refl (λ c n. absurd (let no : ⊥ = cc in no)) (subst (HasOut d.pass.knows) (sym (append-nil (packed d.aside))) h.out),
  aside_fit b d d.aside refl h.fits,
)

pub taken_back : (b : BenchView) (d e : DeskView) (o : Option PackageView) → IsAtDesk b None d → o ≡ d.aside → e ≡ record d { aside = None } → IsAtDesk b o e
taken_back b d e o h given rest = let at = aside_seat b d e o h.seat given rest in record {
  seat = at.0;
  lines = subst₂ (λ (x : Option PackageView) (z : DeskView). KnowsLines b.hall.terms z.pass.knows (packed x ++ packed z.aside)) (sym given) (sym rest)
      (subst (λ (xs : List Item). KnowsLines b.hall.terms d.pass.knows xs) (sym (append-nil (packed d.aside))) h.lines);
  fit = at.1;
  next = aside_next b d (last_by e.pass.knows) o (ap (λ (z : DeskView). was_cut (last_by z.pass.knows)) rest ∙ h.next) (sym given) h.seat.fits;
}

pub idle_none : (b : BenchView) (d e : DeskView) → IsAtDesk b None d → d.aside ≡ None → e ≡ record d { aside = None } → IsIdle b e
idle_none b d e h none rest = record { desk = taken_back b d e None h (sym none) rest; free = ap (λ (z : DeskView). z.aside) rest }

-- nothing is set aside, so nothing else is out
pub out_alone : (v : Knows) (xs : List Item) (a : Option PackageView) → a ≡ None → HasOut v (xs ++ packed a) → HasOut v xs
out_alone v xs a e h = subst (HasOut v) (append-nil xs) (subst (λ (o : Option PackageView). HasOut v (xs ++ packed o)) e h)

pub idle_lines : (b : BenchView) (d : DeskView) → IsIdle b d → KnowsLines b.hall.terms d.pass.knows []
idle_lines b d h = subst (λ (a : Option PackageView). KnowsLines b.hall.terms d.pass.knows (packed a)) h.free h.desk.lines

-- one may be claimed
pub may_claim : (b : BenchView) (d : DeskView) (o : PassView) (from : Origin) (t : ℕ) → IsIdle b d → o ≡ d.pass → IfLined b.hall.terms o.knows (ClaimsAs o.knows t (place_of (origin_code from)))
may_claim b d o from t h is = subst (λ (z : PassView). IfLined b.hall.terms z.knows (ClaimsAs z.knows t (place_of (origin_code from)))) (sym is) (claims_as b.hall.terms d.pass.knows from t (idle_lines b d h))

-- one was claimed
pub one_claimed : (b : BenchView) (d : DeskView) (o p : PassView) (q : PackageView) (from : Origin) (t : ℕ) → IsIdle b d → o ≡ d.pass → IsSamePass o p → Gets (origin_code from) t q o.knows p.knows → HasClaimed b q (with_pass d p)
one_claimed b d o p q from t h is own came =
    let got = subst (λ (z : PassView). IsSamePass z p × Gets (origin_code from) t q z.knows p.knows) is (own, came) in
    let gets = got.1 in
    let out = claimed_out (origin_code from) t q d.pass.knows p.knows (out_alone d.pass.knows [] d.aside h.free h.desk.seat.out) gets in record {
      seat = seated b [] (Pack q ∷ []) d p d.sleepers d.now d.aside h.desk.seat (still_called _ d.pass p got.0 gets.called) refl (λ c e. e) (subst (λ (a : Option PackageView). HasOut p.knows (Pack q ∷ packed a)) (sym h.free) out);
      lines = subst (λ (a : Option PackageView). KnowsLines b.hall.terms p.knows (Pack q ∷ packed a)) (sym h.free) (claimed_lines b.hall.terms d.pass.knows from t (idle_lines b d h) p.knows q gets);
      free = h.free;
      uncut = ap was_cut (same_last _ d.pass.knows p.knows gets.called) ∙ h.desk.next;
      back = record { of = gets.of ∙ sym gets.called.image; settled = gets.settled; runs = gets.order.runs (origin_runs from); locks = gets.order.own; fits = λ e. gets.fits e p.knows.worker };
      pinned = λ e. (t, gets.pinned e);
    }

-- one that is pinned to no worker
pub claimed_fits : (b : BenchView) (d : DeskView) (q : PackageView) → HasClaimed b q d → is_pinned q ≡ false → IsAtDesk b (Some q) d
claimed_fits b d q h free =
    let k = h.back in
    let parts = or_parts (grants_adopted q.granted) (was_cut (last_of q.log)) free in record {
      seat = h.seat;
      lines = h.lines;
      fit = record { of = k.of; settled = k.settled; runs = k.runs; locks = k.locks; fits = k.fits parts.0 };
      next = record { granted = behind_any (last_by d.pass.knows) q.granted parts.0; together = together_uncut (last_by d.pass.knows) (last_of q.log) h.uncut parts.1 };
    }

-- one that got room
pub roomier_at : (b : BenchView) (d : DeskView) (p q : PackageView) → IsAtDesk b (Some p) d → IsRoomier p q → IsAtDesk b (Some q) d
roomier_at b d p q h r = record {
  seat = record { fits = h.seat.fits; sleepers = h.seat.sleepers; out = roomier_out p q r d.pass.knows (packed d.aside) h.seat.out };
  lines = roomier_lines p q r b.hall.terms d.pass.knows (packed d.aside) h.lines;
  fit = roomier_good p q r d.pass.knows h.fit;
  next = record {
    granted = subst (IsGrantedBehind (last_by d.pass.knows)) (sym r.granted) h.next.granted;
    together = subst (λ (l : List Block). AreTogether (last_by d.pass.knows) (last_of l)) (ap (λ (c : PackageView). c.log) (sym r.rest)) h.next.together;
  };
}

-- ---- a desk's answers

-- a package may run now: it is good, and may come behind the worker's last block
abbrev MayRunNow : Knows → PackageView → Type 0
MayRunNow v q = IsGoodFor v q × RunsBehind (last_by v) q

-- a package that comes may run; a stop was seen, at which nothing stays set aside; where nothing comes, the worker's last block
-- was not cut
abbrev IsAnswer : Knows → DeskView → Settled → Type 0
IsAnswer v e (GoesOn q) = MayRunNow e.pass.knows q
IsAnswer v e (Adopted q) = MayRunNow e.pass.knows q
IsAnswer v e Was_stopped = HasSeenStop v e.pass.knows × (e.aside ≡ None)
IsAnswer v e r = was_cut (last_by e.pass.knows) ≡ false

front_true : (a b c : Bool) → (a && b && c) ≡ true → a ≡ true
front_true true b c e = refl
front_true false b c e = absurd (let no : ⊥ = cc in no)

-- what stands together with a block that was not cut, was not cut
uncut_too : (last before : Option Block) → AreTogether last before → was_cut before ≡ false → was_cut last ≡ false
uncut_too last before both uncut = false_from_ne_true (was_cut last) (λ e. let f : true ≡ false = sym e ∙ (ap was_cut (both.goes_on e) ∙ uncut) in let n : ⊥ = cc in n)

-- a lock was taken from its home for it
taken_next : (i n : ℕ) (l : LockView) (last : Option Block) (q p : PackageView) → was_cut last ≡ false → was_cut (last_of q.log) ≡ false → DidTake i l n q p → RunsBehind last p
taken_next i n l last q p uncut before took = record {
  granted = subst (IsGrantedBehind last) (sym (ap (λ (z : PackageView). z.granted) took.grant.is)) (λ e. absurd (let no : ⊥ = cc in no));
  together = together_uncut last (last_of p.log) uncut (ap (λ (z : PackageView). was_cut (last_of z.log)) took.grant.is ∙ before);
}

acquired : (i : ℕ) (q : PackageView) (d e : DeskView) (s : Settled) → was_cut (last_by d.pass.knows) ≡ false → was_cut (last_of q.log) ≡ false → DidAcquire i q d e s → IsAnswer d.pass.knows e s
acquired i q d e s uncut before h = by s (ap was_cut (same_last h.adds.calls d.pass.knows e.pass.knows h.adds.told) ∙ uncut) h
  where
    by : (s : Settled) → was_cut (last_by e.pass.knows) ≡ false → DidAcquire i q d e s → IsAnswer d.pass.knows e s
    by (GoesOn p) still h =
        (good_after h.calls d.pass.knows e.pass.knows p h.adds h.acquired.1.3, taken_next i (next_turn q).number h.acquired.1.2.0 (last_by e.pass.knows) (counted q) p still before h.acquired.1.2.1)
    by (Adopted p) still h = absurd h.acquired
    by Was_stopped still h = (acquire_seen i q d e h, h.acquired.1.1)
    by r still h = still

-- the one that is set aside has nothing granted, and was not cut
abbrev IsPlainAside : DeskView → Type 0
IsPlainAside d = (a : PackageView) → d.aside ≡ Some a → (a.granted ≡ None) × (was_cut (last_of a.log) ≡ false)

-- behind the block x, which unlocked lock i
module _ (i : ℕ) (q : PackageView) (x : Block) (d e : DeskView) (still : last_by e.pass.knows ≡ Some x) (ended : x.end ≡ Unlocked i) where
  uncut : was_cut (last_by e.pass.knows) ≡ false
  uncut = ap was_cut still ∙ ap is_cut ended

  -- nothing is granted to the package that goes on
  went_next : q.granted ≡ None → IsPlainAside d → last_of q.log ≡ Some x → (p : PackageView) → DidUnlock i q x d e (GoesOn p) → RunsBehind (last_by e.pass.knows) p
  went_next granted aside last p h = ⊎_elim
      (λ (o : (p ≡ without_lock i q) × (e.aside ≡ d.aside) × (HoldsNone (without_lock i q) → d.aside ≡ None) × (h.unlocked.1 ≡ [])).
      plain_next (last_by e.pass.knows) p uncut (ap (λ (z : PackageView). z.granted) o.0 ∙ granted) (ap (λ (z : PackageView). was_cut (last_of z.log)) o.0 ∙ (ap was_cut last ∙ ap is_cut ended)))
      (λ (o : (d.aside ≡ Some p) × HoldsNone (without_lock i q) × (e.aside ≡ None) × (h.unlocked.1 ≡ put_call (without_lock i q) Ready ∷ [])).
      let a = aside p o.0 in plain_next (last_by e.pass.knows) p uncut a.0 a.1)
      h.unlocked.4.1

  -- and the adopted one comes behind the block that unlocked its lock
  adopted_next : (p : PackageView) → DidUnlock i q x d e (Adopted p) → RunsBehind (last_by e.pass.knows) p
  adopted_next p h =
      let l = h.unlocked.3.0 in
      let handed = h.unlocked.3.2.2 in
      let grant = handed.0.grant.is in record {
        granted = subst (IsGrantedBehind (last_by e.pass.knows)) (sym (ap (λ (z : PackageView). z.granted) grant)) (λ _. ap (has_unlocked l.number) still ∙ front_true (unlocks l.number x.end) _ _ handed.1);
        together = together_uncut (last_by e.pass.knows) (last_of p.log) uncut (ap (λ (z : PackageView). was_cut (last_of z.log)) grant ∙ handed.0.was.uncut);
      }

-- the worker's last block stays
settled_last : (end : End) (q : PackageView) (x : Block) (d e : DeskView) (s : Settled) → SettledAs end q x d e s → last_by e.pass.knows ≡ last_by d.pass.knows
settled_last (Wants i) q x d e s h = same_last h.adds.calls d.pass.knows e.pass.knows h.adds.told
settled_last (Unlocked i) q x d e s h = same_last h.adds.calls d.pass.knows e.pass.knows h.adds.told
settled_last Slept q x d e Did_park h = same_last h.adds.calls d.pass.knows e.pass.knows h.adds.told
settled_last Slept q x d e s h = absurd h
settled_last Cut q x d e (GoesOn p) h = ap (λ (z : DeskView). last_by z.pass.knows) h.1
settled_last Cut q x d e s h = absurd h
settled_last end q x d e s h = same_last h.adds.calls d.pass.knows e.pass.knows h.adds.told

-- of a package whose last block is the worker's, and ended so
answer : (end : End) (q : PackageView) (x : Block) (d e : DeskView) (s : Settled) → q.granted ≡ None → IsPlainAside d → last_by d.pass.knows ≡ Some x → last_of q.log ≡ Some x → x.end ≡ end → SettledAs end q x d e s → IsAnswer d.pass.knows e s
answer end q x d e s granted aside newest last ended h = by end s ended (settled_last end q x d e s h ∙ newest) h
  where
    by : (end : End) (s : Settled) → x.end ≡ end → last_by e.pass.knows ≡ Some x → SettledAs end q x d e s → IsAnswer d.pass.knows e s
    by (Wants i) s ended still h = acquired i q d e s (ap was_cut newest ∙ ap is_cut ended) (ap was_cut last ∙ ap is_cut ended) h
    by (Unlocked i) (GoesOn p) ended still h = (good_after h.calls d.pass.knows e.pass.knows p h.adds h.unlocked.4.0, went_next i q x d e still ended granted aside last p h)
    by (Unlocked i) (Adopted p) ended still h = (good_after h.calls d.pass.knows e.pass.knows p h.adds h.unlocked.5, adopted_next i q x d e still ended p h)
    by (Unlocked i) Was_stopped ended still h = (unlock_seen i q x d e h, h.unlocked.3)
    by Cut (GoesOn p) ended still h = subst (λ (z : PackageView). MayRunNow e.pass.knows z) (sym h.0) (
      h.2,
      record {
        granted = nothing_behind (last_by e.pass.knows) q.granted granted;
        together = together_same (last_by e.pass.knows) (last_of q.log) (still ∙ sym last);
      },
    )
    by Cut s ended still h = absurd h
    by Slept (GoesOn p) ended still h = absurd h
    by Slept (Adopted p) ended still h = absurd h
    by Slept Was_stopped ended still h = absurd h
    by end (GoesOn p) ended still h = absurd h.ended
    by end (Adopted p) ended still h = absurd h.ended
    by end Was_stopped ended still h = (end_seen q x d e h, h.ended.5)
    by end r ended still h = ap was_cut still ∙ ap is_cut ended

-- what the worker does after an answer
stepped : (b : BenchView) (v : Knows) (e : DeskView) (s : Settled) → IsSeated b (carried s) e → StandsAfter b.hall.terms e.pass.knows e.aside s → IsAnswer v e s → IsStep b e (step_of s)
stepped b v e (GoesOn p) h lines a = record { seat = h; lines = lines; fit = a.0; next = a.1 }
stepped b v e (Adopted p) h lines a = record { seat = h; lines = lines; fit = a.0; next = a.1 }
stepped b v e Was_stopped h lines a = (record { aside = a.1; out = out_alone e.pass.knows [] e.aside a.1 h.out }, stop_shown v e.pass.knows a.0)
stepped b v e r h lines a = record { seat = h; lines = lines; fit = tt; next = a }

module _ (b : BenchView) (q : PackageView) (d e : DeskView) (s : Settled) (keeps : Keeps b q d e s) where
  still_seated : IsSeated b (Pack q ∷ []) d → IsSeated b (carried s) e
  still_seated h = record {
    fits = keeps.fits;
    sleepers = keeps.works.room ∙ h.sleepers;
    out = subst (HasOut e.pass.knows) (append-nil (carried s ++ packed e.aside)) (keeps.moves nothing [] (subst (HasOut d.pass.knows) (sym (append-nil (Pack q ∷ packed d.aside))) h.out));
  }

  pub after_acquire : IsSeated b (Pack q ∷ []) d → IsSoundPackage q → AreTogether (last_by d.pass.knows) (last_of q.log) → HasAcquired q d e s → IsStep b e (step_of s)
  after_acquire h sound both did =
      let before = wants_uncut q did.0 sound did.1 in
      stepped b d.pass.knows e s (still_seated h) keeps.lines (acquired did.0 q d e s (uncut_too (last_by d.pass.knows) (last_of q.log) both before) before did.2)

  pub after_settle : (end : End) → HasSealed b end q d → HasSettled end q d e s → IsStep b e (step_of s)
  after_settle end h did = stepped b d.pass.knows e s (still_seated h.seat) keeps.lines
      (answer end q did.0 d e s h.may.1.granted (λ a is. let p = (h.seat.fits.aside a is).goes.plain in (p.granted, p.uncut)) (h.newest ∙ did.1) did.1 (ended h did.1) did.2)
    where
      ended : HasSealed b end q d → last_of q.log ≡ Some did.0 → did.0.end ≡ end
      ended h e = (let one : h.may.0 ≡ did.0 = cc (h.may.1.last, e) in ap (λ (z : Block). z.end) (sym one) ∙ h.may.1.end_is)

-- ---- a block of the package in hand

pub may_run : (b : BenchView) (p : PackageView) (d : DeskView) → IsAtDesk b (Some p) d → WantIsGranted b.image p → MayRun b.image p
may_run b p d at want = record { of = at.fit.of ∙ at.seat.fits.image; settled = at.fit.settled; runs = at.fit.runs; want = want }

module _ (b : BenchView) (end : End) (p n : PackageView) (d : DeskView) (image : Shown) (at : IsAtDesk b (Some p) d) (want : WantIsGranted b.image p) (is : image ≡ b.image) (ran : RanOne image end p n) where
  here : IsAtDesk b (Some ran.reserved) d
  here = roomier_at b d p ran.reserved at ran.room

  was : DidRun d.pass.knows.image ran.reserved n
  was = subst (λ (z : Shown). DidRun z ran.reserved n) (is ∙ sym at.seat.fits.image) ran.ran

  pub one_may : MayCommit b.hall.terms d n
  one_may = may_commit b.hall.terms d ran.reserved n (record { of = here.fit.of; sound = ran.sound; own = here.fit.locks; lines = here.lines }) here.seat.out here.fit.fits was
      (λ x e. (let one : was.block ≡ x = cc (was.pending, e) in subst (IsHandedOver (last_by d.pass.knows)) one (comes_behind d.pass.knows.image ran.reserved n here.fit.of ran.sound was (last_by d.pass.knows) here.next.granted)))
      here.next.together

  pub one_sealed : (stamp : ℕ) (q : PackageView) (e : DeskView) → FitsBench b e → KeepsSealed b.hall.terms n q d e → DidSeal n stamp d.pass.knows e.pass.knows → q ≡ with_seal stamp d.pass.knows.worker n → e.aside ≡ d.aside → length e.sleepers ≡ length d.sleepers → HasSealed b end q e
  one_sealed stamp q e fits keeps sealed now aside room = record {
    seat = record { fits = fits; sleepers = room ∙ at.seat.sleepers; out = subst (λ (a : Option PackageView). HasOut e.pass.knows (Pack q ∷ packed a)) (sym aside) (keeps.moves ran.reserved was nothing (packed d.aside) here.seat.out) };
    lines = keeps.lines;
    newest = ap last_by sealed.now
        ∙ (last_own worker_key d.pass.knows.sealed (sealed_block stamp d.pass.knows.worker sealed.block) d.pass.knows.worker refl
        ∙ sym (ap (λ (z : PackageView). last_of z.log) now ∙ seal_last n sealed.block stamp d.pass.knows.worker ran.ran.sound sealed.pending));
    may = subst₂ (λ (k : ℕ) (z : PackageView). MaySettle b.image k end z) (sym (ap (λ (x : Knows). x.worker) sealed.now)) (sym now)
        (may_settle b.image ran.reserved (here.fit.of ∙ at.seat.fits.image) ran.sound here.fit.locks here.fit.runs (roomier_want p ran.reserved ran.room b.image want) d.pass.knows.worker stamp end n (subst (λ (z : Shown). DidRun z ran.reserved n) is ran.ran) ran.ended);
  }
