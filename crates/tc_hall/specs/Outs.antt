-- What a pass has out, as two functions, and the part of it that is a package with its locks or a lock state.
use Rattle.std.specs.Prelude.{◌≡◌, ℕ, ◌==◌, if◌then◌else◌, List, ◌++◌, slice_index_or, Option, Some, None}
use Rattle.tc_segment.specs.View.{LockView, kept}
use Rattle.tc_context.specs.View.{PackageView, bare}
use Rattle.tc_hall.specs.declared.board.PassCall.{PassCall}
use Rattle.tc_hall.specs.declared.board.Knows.{Knows}
use Rattle.tc_hall.specs.Rule.{locked_in}

-- for each thread a package without its locks, and for each lock a lock state
pub record Outs : Type 0 where
  pub context : ℕ → Option PackageView
  pub lock : ℕ → Option LockView

-- what the pass has out
abbrev pub outs : Knows → Outs
outs v = record { context = λ u. slice_index_or v.packages u None; lock = λ i. slice_index_or v.locks i None }

abbrev pub nothing : Outs
nothing = record { context = λ u. None; lock = λ i. None }

-- a package with its locks, or a lock state alone
pub data Item : Type 0 where
  Pack : PackageView → Item
  Loose : LockView → Item

abbrev pub keep : Option LockView → Option LockView
keep None = None
keep (Some l) = Some (kept l)

-- the part of what is out that is an item's
abbrev pub part : Item → Outs
part (Pack q) = record { context = λ u. if u == q.context.thread then Some (bare q) else None; lock = λ i. keep (locked_in q i) }
part (Loose l) = record { context = λ u. None; lock = λ i. if i == l.number then Some (kept l) else None }

abbrev pub unless : {A : Type 0} → Option A → Option A → Option A
unless None x = x
unless (Some a) x = None

-- o without the part f
abbrev pub minus : Outs → Outs → Outs
minus o f = record { context = λ u. unless (f.context u) (o.context u); lock = λ i. unless (f.lock i) (o.lock i) }

pub record Within (f o : Outs) : Type 0 where
  pub contexts : (u : ℕ) (c : PackageView) → f.context u ≡ Some c → o.context u ≡ Some c
  pub locks : (i : ℕ) (l : LockView) → f.lock i ≡ Some l → o.lock i ≡ Some l

-- the item is out: the package, except for its grant, its locks and its count of queue turns, and
-- each lock state are as the pass records them
abbrev pub IsOut : Outs → Item → Type 0
IsOut o x = Within (part x) o

-- what is out besides
abbrev pub erase : Outs → Item → Outs
erase o x = minus o (part x)

-- the item came out, and neither it nor a part of it was out before
pub record CameOut (x : Item) (v w : Knows) : Type 0 where
  pub out : IsOut (outs w) x
  pub before : erase (outs w) x ≡ outs v

-- these calls were added, and the image, worker, sealed blocks and joined passes are unchanged
pub record Called (cs : List PassCall) (v w : Knows) : Type 0 where
  pub image : w.image ≡ v.image
  pub worker : w.worker ≡ v.worker
  pub sealed : w.sealed ≡ v.sealed
  pub joined : w.joined ≡ v.joined
  pub calls : w.calls ≡ v.calls ++ cs
