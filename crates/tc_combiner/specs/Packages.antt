-- What desks require and say of packages.
use Rattle.std.specs.Prelude.{◌≡◌, ◌≢◌, ℕ, ◌<◌, true, false, Some, None}
use Rattle.tc_combiner.specs.Vocabulary.{IsAtRest, IsOwn, IsPlaced, IsWaiting, Kind, Knows, LockView, PackageView, Shown, Taken, HallTerms, fits_of, has, is_running, last_of, locked_in, threads, want_of, was_cut, with_grant, without_lock}

-- it has no lock except held ones and a granted one
abbrev pub HasNoOther : PackageView → Type 0
HasNoOther q = (i : ℕ) (l : LockView) → locked_in q i ≡ Some l → IsOwn q i

-- it has no lock except held ones
abbrev pub HasOnlyHeld : PackageView → Type 0
HasOnlyHeld q = (i : ℕ) (l : LockView) → locked_in q i ≡ Some l → has q.context.guest.held i ≡ true

-- a package whose block released lock i has its held locks and this one
abbrev pub HasHeldAnd : ℕ → PackageView → Type 0
HasHeldAnd i q = (j : ℕ) (l : LockView) → locked_in q j ≡ Some l → j ≢ i → has q.context.guest.held j ≡ true

abbrev pub HasNone : PackageView → Type 0
HasNone q = (i : ℕ) → locked_in q i ≡ None

abbrev pub HoldsNone : PackageView → Type 0
HoldsNone q = (i : ℕ) → has q.context.guest.held i ≡ false

abbrev pub Wants : PackageView → ℕ → Type 0
Wants q i = want_of q.image q.context ≡ Some i

abbrev pub Runs : PackageView → Type 0
Runs q = is_running q.context.guest.status ≡ true

-- a package that a desk may run, or give back
pub record IsGood (q : PackageView) (image : Shown) (worker : ℕ) : Type 0 where
  pub of : q.image ≡ image
  pub settled : q.pending ≡ None
  pub runs : Runs q
  pub locks : HasNoOther q
  pub fits : fits_of q worker ≡ true

abbrev pub IsGoodFor : Knows → PackageView → Type 0
IsGoodFor v q = IsGood q v.image v.worker

-- a package of one of so many threads that has nothing granted and no lock except held ones, and
-- none if its thread has ended; its last block was not cut
pub record IsPlain (threads : ℕ) (q : PackageView) : Type 0 where
  pub thread : q.context.thread < threads
  pub settled : q.pending ≡ None
  pub granted : q.granted ≡ None
  pub locks : HasOnlyHeld q
  pub ended : is_running q.context.guest.status ≡ false → HasNone q
  pub uncut : was_cut (last_of q.log) ≡ false

-- one that may go on, in a hall with these terms
pub record MayGoOn (k : HallTerms) (q : PackageView) : Type 0 where
  pub of : q.image ≡ k.image.value
  pub plain : IsPlain (threads k) q
  pub runs : Runs q

-- one that may be set aside there
pub record IsAside (k : HallTerms) (a : PackageView) : Type 0 where
  pub goes : MayGoOn k a
  pub free : HasNone a

-- a package of thread t that waits for lock i
pub record IsWaiter (t i : ℕ) (image : Shown) (q : PackageView) : Type 0 where
  pub of : q.image ≡ image
  pub thread : q.context.thread ≡ t
  pub waits : IsWaiting q i
  pub uncut : was_cut (last_of q.log) ≡ false
  pub runs : Runs q
  pub locks : HasNoOther q

-- lock l was granted to p, which is then q
pub record DidGrant (l : LockView) (kind : Kind) (n : ℕ) (p q : PackageView) : Type 0 where
  pub is : q ≡ with_grant l kind n p
  pub locks : IsPlaced l.number (Some l) p.context.locks q.context.locks

-- lock i was taken from its slot as l and granted to p, which is then q
pub record DidTake (i : ℕ) (l : LockView) (n : ℕ) (p q : PackageView) : Type 0 where
  pub rest : IsAtRest p.image i l
  pub grant : DidGrant l Taken n p q

-- lock i was taken out of p as l, and p is then q
pub record DidTakeOut (i : ℕ) (l : LockView) (p q : PackageView) : Type 0 where
  pub was : locked_in p i ≡ Some l
  pub is : q ≡ without_lock i p
  pub locks : IsPlaced i None p.context.locks q.context.locks
  pub rest : IsAtRest p.image i l
