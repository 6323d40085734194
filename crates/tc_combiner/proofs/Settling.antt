-- What the end of a package's last block says of the package.
use Rattle.std.proofs.Common.{◌≡◌, ◌≢◌, ◌<◌, ◌≤◌, ◌+◌, ℕ, Bool, true, false, not, ◌&&◌, ◌||◌, ◌==◌, if◌then◌else◌, List, [], length, refl, sym, ap, ◌∙◌, subst, arith, Option, Some, None, is_some}
use Rattle.tc_combiner.proofs.Vocabulary.{AcquiredAs, Acquires, Answers, AreSameSeats, AtSeat, Block, PassCall, Cut, DeskView, DidAcquire, DidEnd, DidUnlock, End, EndedAs, Ends, HallView, DeskParts, HasBlock, HasOnlyHeld, HasReadied, IsAfter, IsAfterBlock, IsAtHall, IsGood, IsPlain, IsSoundPackage, Item, KeepsParts, Knows, LockView, MAX_HELD, MayAct, MayAsk, MayEnd, MayPark, MayRelease}
use Rattle.tc_combiner.proofs.Vocabulary.{MaySettle, MayUnlock, PackageView, Sleeping, Runs, SeatView, Settled, SettledAs, Shown, Slept, HallTerms, Unlocked, UnlockedAs, Unlocks, WantIsLawful, Wants, Wants_lock, by_parts, change, desk_of, desk_with, ends_section, ends_thread, has, is_cut, last_of, locked_in, locks, nat_tests, next_lock, seat_at, thread_in, threads, was_cut}
use Rattle.tc_combiner.specs.Settling.{StandsAfter}
use Rattle.tc_combiner.proofs.Looking.{looks_at, looks_entered, none_asked}
use Rattle.tc_combiner.proofs.PassedOn.{left_after}
use Rattle.tc_combiner.proofs.Ending.{known_in}
use Rattle.tc_combiner.proofs.Packages.{no_other, ungranted_fits}

and_true : (x : Bool) → (x && not false) ≡ x
and_true true = refl
and_true false = refl

-- the package's last block is the one that the caller knows of
pub after_last : (image : Shown) (worker : ℕ) (end this : End) (b : Block) (q : PackageView) → end ≡ this → MaySettle image worker end q → last_of q.log ≡ Some b → IsAfterBlock image worker this b q
after_last image worker end this b q is m e =
    let last : Some m.0 ≡ Some b = sym m.1.last ∙ e in
    let same : m.0 ≡ b = cc in
    subst (λ (x : End). IsAfterBlock image worker x b q) is (subst (λ (x : Block). IsAfterBlock image worker end x q) same m.1)

pub after_of : (image : Shown) (worker : ℕ) (end : End) (b : Block) (q : PackageView) → IsSoundPackage q → IsAfterBlock image worker end b q → IsAfter q.image q.context b
after_of image worker end b q s m = left_after q.image q b s.left m.last

module _ (k : HallTerms) (worker : ℕ) (end : End) (b : Block) (q : PackageView) (s : IsSoundPackage q) (m : IsAfterBlock k.image.value worker end b q) where
  thread_known : q.context.thread < threads k
  thread_known = subst (λ (x : Shown). q.context.thread < length x.entries) m.of s.thread

  runs_on : ends_thread end ≡ false → Runs q
  runs_on e = (after_of k.image.value worker end b q s m).runs ∙ ap not (ap ends_thread m.end_is ∙ e)

  held_is : (i : ℕ) → ends_section i b ≡ false → has q.context.guest.held i ≡ has b.held i
  held_is i e = (after_of k.image.value worker end b q s m).held i ∙ (ap (λ (x : Bool). has b.held i && not x) e ∙ and_true (has b.held i))

  in_block : (i : ℕ) (l : LockView) → locked_in q i ≡ Some l → has b.held i ≡ true
  in_block i l e = sym (m.locks i) ∙ ap is_some e

  only_held : ((i : ℕ) → ends_section i b ≡ false) → HasOnlyHeld q
  only_held never i l e = held_is i (never i) ∙ in_block i l e

  plain_on : ((i : ℕ) → ends_section i b ≡ false) → ends_thread end ≡ false → is_cut end ≡ false → IsPlain (threads k) q
  plain_on never e u = record {
    thread = thread_known;
    settled = m.settled;
    granted = m.granted;
    locks = only_held never;
    ended = λ f. let r = runs_on e in let n : ⊥ = cc in absurd n;
    uncut = ap was_cut m.last ∙ (ap is_cut m.end_is ∙ u);
  }

  lock_in_range : (i : ℕ) → has b.held i ≡ true → i < locks k
  lock_in_range i e = subst (λ (x : Shown). i < length x.guards) m.of (known_in q i (locked_in q i) s refl (m.locks i ∙ e))

  may_release : (v : Knows) (i : ℕ) → v.image ≡ k.image.value → v.worker ≡ worker → has b.held i ≡ true → ends_section i b ≡ true → MayRelease k v i b q
  may_release v i image is e r = record {
    lock = lock_in_range i e;
    of = m.of ∙ sym image;
    thread = thread_known;
    settled = m.settled;
    granted = m.granted;
    last = m.last;
    released = (e, r);
    worker = m.worker_is ∙ sym is;
    here = m.locks i ∙ e;
  }

  pub may_end : (v : Knows) → v.image ≡ k.image.value → v.worker ≡ worker → ends_thread end ≡ true → MayEnd k v b q
  may_end v image is e = record {
    of = m.of ∙ sym image;
    thread = thread_known;
    settled = m.settled;
    granted = m.granted;
    last = m.last;
    ended = ap ends_thread m.end_is ∙ e;
    worker = m.worker_is ∙ sym is;
    locks = m.locks;
    known = lock_in_range;
  }

-- which sections a block ends, by its end
ends_as : (i : ℕ) (b : Block) (x : End) → b.end ≡ x → ends_section i b ≡ ends_section i (record b { end = x })
ends_as i b x e = ap (λ (y : End). ends_section i (record b { end = y })) e

pub wants_ends : (i j : ℕ) (b : Block) → b.end ≡ Wants j → ends_section i b ≡ false
wants_ends i j b e = ends_as i b (Wants j) e

pub unlocked_ends : (i : ℕ) (b : Block) → b.end ≡ Unlocked i → ends_section i b ≡ true
unlocked_ends i b e = ends_as i b (Unlocked i) e ∙ (let t : ((i == i) || false) ≡ true = grind (arith, nat_tests) in t)

pub unlocked_other : (i j : ℕ) (b : Block) → b.end ≡ Unlocked i → j ≢ i → ends_section j b ≡ false
unlocked_other i j b e ne = ends_as j b (Unlocked i) e ∙ (let t : ((i == j) || false) ≡ false = (let n : (i == j) ≡ false = (let m : i ≢ j = (λ y. ne (sym y)) in grind (arith, nat_tests)) in ap (λ (z : Bool). z || false) n) in t)

-- the lock that it wants
pub wants_lock : (image : Shown) (worker i : ℕ) (b : Block) (q : PackageView) → IsSoundPackage q → IsAfterBlock image worker (Wants i) b q → Runs q → Wants_lock q i
wants_lock image worker i b q s m r = ap (λ (x : Bool). if x then next_lock q.image (thread_in q.context) else None) r ∙ (after_of image worker (Wants i) b q s m).next i m.end_is

-- ---- what may be done with the package, by the end of its last block

module _ (k : HallTerms) (worker : ℕ) (b : Block) (q : PackageView) (s : IsSoundPackage q) where
  pub may_ask : (i : ℕ) → WantIsLawful q → IsAfterBlock k.image.value worker (Wants i) b q → MayAsk k i q
  may_ask i law m = let want = wants_lock k.image.value worker i b q s m (runs_on k worker (Wants i) b q s m refl) in record {
    lock = subst (λ (x : Shown). i < length x.guards) m.of (law i want).known;
    of = m.of;
    plain = plain_on k worker (Wants i) b q s m (λ j. wants_ends j i b m.end_is) refl refl;
    want = want;
  }

  pub may_unlock : (v : Knows) (i : ℕ) → v.image ≡ k.image.value → v.worker ≡ worker → IsAfterBlock k.image.value worker (Unlocked i) b q → MayUnlock k v i b q
  may_unlock v i image is m =
      let has = (after_of k.image.value worker (Unlocked i) b q s m).released i m.end_is in record {
        release = may_release k worker (Unlocked i) b q s m v i image is has (unlocked_ends i b m.end_is);
        runs = runs_on k worker (Unlocked i) b q s m refl;
        locks_in = λ j l e ne. held_is k worker (Unlocked i) b q s m j (unlocked_other i j b m.end_is ne) ∙ in_block k worker (Unlocked i) b q s m j l e;
      }

  pub may_park : IsAfterBlock k.image.value worker Slept b q → MayPark k q
  may_park m = record {
    plain = plain_on k worker Slept b q s m (λ i. ends_as i b Slept m.end_is) refl refl;
    runs = runs_on k worker Slept b q s m refl;
    slept = subst (λ (o : Option Block). HasBlock (λ b. b.end ≡ Slept) o) (sym m.last) m.end_is;
  }

  pub may_continue : IsAfterBlock k.image.value worker Cut b q → IsGood q k.image.value worker
  may_continue m = record {
    of = m.of;
    settled = m.settled;
    runs = runs_on k worker Cut b q s m refl;
    locks = no_other q (only_held k worker Cut b q s m (λ i. ends_as i b Cut m.end_is));
    fits = ungranted_fits q worker m.granted;
  }

-- ---- what was done with it, in the words of a desk

pub keeps_of : (k : HallTerms) (cs : List PassCall) (q : PackageView) (ss ts : List SeatView) (x y : Sleeping) (h g : DeskParts) (hs : List ℕ) (r : Settled) → h.ready.items ≡ [] → Answers k cs q (change h g) r → AreSameSeats ss ts → y.clock ≡ x.clock → length y.sleepers ≡ length x.sleepers → StandsAfter k g.pass.knows g.aside r
    → KeepsParts k q (desk_of h.pass ss x.sleepers x.clock h.aside hs) (desk_with g ts y) r
keeps_of k cs q ss ts x y h g hs r none a same clock room lines = record {
  calls = cs;
  acts = a.acts;
  readied = subst (λ (hs : List ℕ). HasReadied (threads k) r hs g.ready.items cs) none a.readied;
  lines = lines;
  aside = a.aside;
  seats = same;
  clock = clock;
  room = room;
}

module _ (k : HallTerms) (q : PackageView) (ss ts : List SeatView) (sl : List (Option ℕ)) (now : ℕ) (hs : List ℕ) (h g : DeskParts) (image : h.pass.knows.image ≡ k.image.value) where
  pub did_acquire : (i : ℕ) (r : Settled) → AtSeat i ss ts (λ s t. Acquires k i q (change s t) (change h g) r) → DidAcquire i q (desk_of h.pass ss sl now h.aside hs) (desk_of g.pass ts sl now g.aside g.ready.items) r
  did_acquire i r a = record {
    same = record { others = a.others; sleepers = refl };
    calls = a.here.calls;
    adds = a.here.answers.acts.adds;
    looks = looks_entered i h.pass.knows g.pass.knows ss ts a (none_asked (by_parts k q (change (seat_at ss i) (seat_at ts i)) (change h g)) i a.here.calls r a.here.became) a.here.answers.acts.adds.looks;
    acquired = subst (λ (x : Shown). AcquiredAs (record (by_parts k q (change (seat_at ss i) (seat_at ts i)) (change h g)) { image = x }) i a.here.calls r) (sym image) a.here.became;
  }

  pub did_unlock : (i : ℕ) (b : Block) (r : Settled) → AtSeat i ss ts (λ s t. Unlocks k i b q (change s t) (change h g) r) → DidUnlock i q b (desk_of h.pass ss sl now h.aside hs) (desk_of g.pass ts sl now g.aside g.ready.items) r
  did_unlock i b r a = record {
    same = record { others = a.others; sleepers = refl };
    asks = a.here.became.0;
    calls = a.here.calls;
    adds = a.here.answers.acts.adds;
    looks = looks_at 1 i h.pass.knows g.pass.knows ss ts a a.here.became.1;
    unlocked = subst (λ (x : Shown). UnlockedAs (record (by_parts k q (change (seat_at ss i) (seat_at ts i)) (change h g)) { image = x }) i b a.here.calls r) (sym image) a.here.became.2;
  }

  pub did_end : (b : Block) (r : Settled) → Ends k b q (change ss ts) (change h g) r → DidEnd q b (desk_of h.pass ss sl now h.aside hs) (desk_of g.pass ts sl now g.aside g.ready.items) r
  did_end b r a = record {
    sleepers = refl;
    seats = a.became.0;
    calls = a.calls;
    adds = a.answers.acts.adds;
    looks = a.became.1;
    ended = subst (λ (x : Shown). EndedAs (record (by_parts k q (change ss ts) (change h g)) { image = x }) b a.calls r) (sym image) a.became.2;
  }

pub settled_end : (x : End) (q : PackageView) (b : Block) (d e : DeskView) (r : Settled) → ends_thread x ≡ true → DidEnd q b d e r → SettledAs x q b d e r
settled_end (Wants i) q b d e r t h = let n : ⊥ = cc in absurd n
settled_end (Unlocked i) q b d e r t h = let n : ⊥ = cc in absurd n
settled_end Slept q b d e r t h = let n : ⊥ = cc in absurd n
settled_end Cut q b d e r t h = let n : ⊥ = cc in absurd n
settled_end x q b d e r t h = h

pub ended : (x : End) → ((i : ℕ) → x ≡ Wants i → ⊥) → ((i : ℕ) → x ≡ Unlocked i → ⊥) → (x ≡ Slept → ⊥) → (x ≡ Cut → ⊥) → ends_thread x ≡ true
ended (Wants i) a b c d = absurd (a i refl)
ended (Unlocked i) a b c d = absurd (b i refl)
ended Slept a b c d = absurd (c refl)
ended Cut a b c d = absurd (d refl)
ended x a b c d = refl

-- a desk whose list is empty may begin
pub may_begin : (hall : HallView) (xs : List Item) (n : ℕ) (h : DeskParts) → IsAtHall hall xs h → h.ready.items ≡ [] → n ≤ MAX_HELD → MayAct hall xs n h
may_begin hall xs n h m none few = record { at = m; room = subst (λ (l : List ℕ). length l + n ≤ MAX_HELD) (sym none) (let room : 0 + n ≤ MAX_HELD = omega arith in room) }
