-- How a desk's pass stands at the lines of the locks, in a hall with lines: as what it has in hand shows.
use Rattle.std.specs.Prelude.{◌≡◌, ℕ, ◌==◌, Bool, true, false, if◌then◌else◌, List, [], ◌∷◌, Option, Some, None}
use Rattle.tc_queue.specs.declared.turn.Leave.TheVariants.{Left as Own_left}
use Rattle.tc_queue.specs.declared.turn.QueueCall.TheVariants.{Leave as Own_leave, Next as Own_next}
use Rattle.tc_hall.specs.Standing.{Standing, away, entered, followed, granted, past, stand_in, standing_of, turns_of, turns_past}
use Rattle.tc_hall.specs.Steps.{HasStop, passed_kind}
use Rattle.tc_context.specs.View.{IsSoundPackage}
use Rattle.tc_combiner.specs.Packages.{HasNoOther}
use Rattle.tc_combiner.specs.Vocabulary.{Asked, Attempt, Came, Did_stop, Find_stopped, Found, HallTerms, IsOut, Item, Knows, Line, LockView, Loose, Next_asked, Next_is, Nobody, Nobody_asked, Pack, PackageView, PassCall, Passed, Refused, Settled, Try_stopped, Turn, Unlinked, Was_adopted, Was_stopped, erase, locked_in, outs}

-- ---- what is in hand shows

abbrev pub beside : Standing → Standing → Standing
beside away s = s
beside r s = r

-- a lock state alone shows nothing
abbrev pub shows_at : List Item → ℕ → Standing
shows_at [] i = away
shows_at (Pack q ∷ xs) i = beside (stand_in q i) (shows_at xs i)
shows_at (Loose l ∷ xs) i = shows_at xs i

-- but at lock i this
abbrev pub but_at : ℕ → Standing → (ℕ → Standing) → ℕ → Standing
but_at i s f j = if j == i then s else f j

-- the queue turns of these packages are counted
abbrev pub CountsTurns : List PassCall → List Item → Type 0
CountsTurns cs [] = Unit {0}
CountsTurns cs (Pack q ∷ xs) = (turns_of q.context.thread cs ≡ q.turns) × CountsTurns cs xs
CountsTurns cs (Loose l ∷ xs) = CountsTurns cs xs

-- in a hall with lines the pass stands so at each lock
abbrev pub StandsSo : HallTerms → Knows → (ℕ → Standing) → Type 0
StandsSo k v f = k.lined ≡ true → (i : ℕ) → standing_of i v.calls ≡ f i

-- it stands as these items show, and at no other lock, and their turns are counted
pub record KnowsLines (k : HallTerms) (v : Knows) (xs : List Item) : Type 0 where
  pub stands : StandsSo k v (shows_at xs)
  pub turns : k.lined ≡ true → CountsTurns v.calls xs

-- it stands so, but the turn u has entered the line of lock i, behind nobody or behind this turn
pub record EnteredAs (k : HallTerms) (v : Knows) (i : ℕ) (u : Turn) (before : Option Turn) (xs : List Item) : Type 0 where
  pub stands : StandsSo k v (but_at i (entered u before) (shows_at xs))
  pub turns : k.lined ≡ true → CountsTurns v.calls xs

-- by what came of it
abbrev pub IfGot : {A : Type 0} → Option A → (A → Type 0) → Type 0
IfGot (Some a) P = P a
IfGot None P = Unit {0}

-- unless the run was stopped
abbrev pub IfRuns : Settled → Type 0 → Type 0
IfRuns Did_stop P = Unit {0}
IfRuns r P = P

-- the block that ran in the package p may be sealed: the pass stands as p and these items beside it show
pub record WasReady (k : HallTerms) (v : Knows) (p : PackageView) (xs : List Item) : Type 0 where
  pub of : p.image ≡ v.image
  pub sound : IsSoundPackage p
  pub own : HasNoOther p
  pub lines : KnowsLines k v (Pack p ∷ xs)

-- ---- calls

-- the lines stand as before: calls were added that are of no lock and no line
pub record SameStances (k : HallTerms) (v w : Knows) : Type 0 where
  pub locks : w.locks ≡ v.locks
  pub stop : HasStop v → HasStop w
  pub stands : k.lined ≡ true → (i : ℕ) → standing_of i w.calls ≡ standing_of i v.calls
  pub turns : k.lined ≡ true → (t : ℕ) → turns_of t w.calls ≡ turns_of t v.calls

-- they stand as this call left them, and others were of no lock and no line
pub record StandsPast (c : PassCall) (k : HallTerms) (v w : Knows) : Type 0 where
  pub stop : HasStop v → HasStop w
  pub stands : k.lined ≡ true → (i : ℕ) → standing_of i w.calls ≡ past i c (standing_of i v.calls)
  pub turns : k.lined ≡ true → (t : ℕ) → turns_of t w.calls ≡ turns_past t c (turns_of t v.calls)

-- by the result of a try, and of a wait: what came, by this call
abbrev pub TriedSo : {A : Type 0} → HallTerms → (A → PassCall) → Knows → Knows → Attempt A → Type 0
TriedSo k call v w (Came a) = StandsPast (call a) k v w
TriedSo k call v w Refused = SameStances k v w
TriedSo k call v w Try_stopped = HasStop w × SameStances k v w

abbrev pub WaitedSo : {A : Type 0} → HallTerms → (A → PassCall) → Knows → Knows → Option A → Type 0
WaitedSo k call v w (Some a) = StandsPast (call a) k v w
WaitedSo k call v w None = HasStop w × SameStances k v w

-- who is behind the turn that released lock i, asked once
abbrev pub AskedSo : ℕ → Turn → HallTerms → Knows → Knows → Asked → Type 0
AskedSo i own k v w Nobody_asked = StandsPast (Line i (Own_leave own Own_left)) k v w
AskedSo i own k v w (Next_asked x) = StandsPast (Line i (Own_next own (Some x))) k v w
AskedSo i own k v w Unlinked = SameStances k v w

-- and once it is known
abbrev pub FoundSo : ℕ → Turn → HallTerms → Knows → Knows → Found → Type 0
FoundSo i own k v w Nobody = StandsPast (Line i (Own_leave own Own_left)) k v w
FoundSo i own k v w (Next_is x) = StandsPast (Line i (Own_next own (Some x))) k v w
FoundSo i own k v w Find_stopped = HasStop w × SameStances k v w

-- ---- what a desk does with a released lock

-- of the threads whose packages are out the turns are counted as before
abbrev pub SameTurns : Knows → Knows → Type 0
SameTurns v w = (t : ℕ) (c : PackageView) → (outs v).context t ≡ Some c → turns_of t w.calls ≡ turns_of t v.calls

-- the turn own released lock i and this turn is behind it; at the other locks the pass stands as the package q shows, which is out without it
pub record FollowedBy (k : HallTerms) (v : Knows) (i : ℕ) (own next : Turn) (q : PackageView) : Type 0 where
  pub stands : StandsSo k v (but_at i (followed own next) (shows_at (Pack q ∷ [])))
  pub turns : k.lined ≡ true → CountsTurns v.calls (Pack q ∷ [])
  pub out : IsOut (outs v) (Pack q)
  pub free : locked_in q i ≡ None

-- the lock l is passed on to the package of this turn, which is out beside q: how it gets it is as the batch rule says
pub record GrantsSo (k : HallTerms) (v : Knows) (l : LockView) (next : Turn) (waiter q : PackageView) : Type 0 where
  pub stands : StandsSo k v (but_at l.number (granted next (passed_kind l)) (shows_at (Pack waiter ∷ Pack q ∷ [])))
  pub turns : k.lined ≡ true → CountsTurns v.calls (Pack waiter ∷ Pack q ∷ [])
  pub beside : IsOut (erase (outs v) (Pack waiter)) (Pack q)
  pub free : locked_in q l.number ≡ None

-- what became of a released lock: the pass stands as these items show, and an adopted package
abbrev pub PassedSo : HallTerms → Knows → List Item → Passed → Type 0
PassedSo k v xs (Was_adopted q) = KnowsLines k v (Pack q ∷ xs)
PassedSo k v xs Was_stopped = HasStop v
PassedSo k v xs r = KnowsLines k v xs

-- while the locks of the package q, whose thread has ended, are passed on
pub record StandsStill (k : HallTerms) (v w : Knows) (q : PackageView) : Type 0 where
  pub lines : KnowsLines k w (Pack q ∷ [])
  pub turns : k.lined ≡ true → SameTurns v w

-- by whether the run was stopped
abbrev pub LeftSo : HallTerms → Knows → Knows → PackageView → Bool → Type 0
LeftSo k v w q true = HasStop w
LeftSo k v w q false = StandsStill k v w q
