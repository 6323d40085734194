-- The invariant: how the lines, the passes and the packages of a hall agree with the machine, after each legal order without a stop.
use Rattle.std.proofs.Common.{◌≡◌, ◌≢◌, ℕ, suc, ◌+◌, ◌<◌, ◌≤◌, ◌==◌, ◌||◌, Bool, true, false, if◌then◌else◌, List, [], ◌∷◌, ◌++◌, length, slice_index, Option, Some, None, subst}
use mathlib.Core.Option.{some}
use lib.ListN.{get_elem?}
use Rattle.tc_journal.specs.History.{of_lock, of_thread}
use Rattle.tc_segment.specs.View.{LockView, blocks_of}
use Rattle.tc_context.specs.View.{PackageView}
use Rattle.tc_queue.specs.declared.turn.Turn.{Turn}
use Rattle.tc_queue.specs.declared.turn.Entered.TheVariants.{Behind}
use Rattle.tc_queue.specs.declared.turn.QueueCall.TheVariants.{Enter as Did_enter}
use Rattle.tc_queue.specs.declared.words.Linked.{Linked}
use Rattle.tc_core.specs.Core.{Core, is_free_lock}
use Rattle.tc_core.specs.declared.place.Custody.{Custody}
use Rattle.tc_core.specs.declared.place.LockPlace.{LockPlace}
use Rattle.tc_core.specs.declared.place.LockPlace.TheVariants.{Granted, With, Loose}
use Rattle.tc_core.specs.declared.place.LockPlace.TheVariants as place
use Rattle.tc_core.proofs.Standing.{is_out}
use Rattle.tc_told.specs.declared.writer.Beginning.{Beginning}
use Rattle.tc_told.specs.Written.{Written, first_written, write_all}
use Rattle.tc_hall.specs.declared.board.HallTerms.{HallTerms}
use Rattle.tc_hall.specs.declared.board.Knows.{Knows}
use Rattle.tc_hall.specs.declared.board.Cargo.TheVariants.{Package}
use Rattle.tc_hall.specs.declared.board.TheConstants.{CLOCK}
use Rattle.tc_hall.specs.declared.place.TheConstants.{WAITING}
use Rattle.tc_hall.specs.Places.{slot_word}
use Rattle.tc_hall.specs.Rule.{Has, HasLock, locked_in, locks, threads}
use Rattle.tc_hall.specs.Standing.{Standing, away, entered, granted, held, loose, followed, closed, last_turn, stand_in, standing_of, turns_of}
use Rattle.tc_hall.specs.Effects.{Hall}
use Rattle.tc_hall.specs.Order.{Operation, line, Made, MayCome, MayDo, IsLegal, IsOpening, hall_after, plain_of}
use Rattle.tc_hall.specs.Outline.{Lying}
use Rattle.tc_hall.specs.Shown.{LockAt, PackageAt}
use Rattle.tc_hall.specs.Lift.{MayLift}
use Rattle.tc_run.specs.Run.{beats_of, core_in, entered_in, events_in, given_in, has_stop, is_stop, line_in, last_turn_of, sealed_in, threads_of}

-- ---- runs

-- a legal order without a stop, in a hall with lines
pub record Run (k : HallTerms) : Type 0 where
  pub first : Hall
  pub opens : IsOpening k first
  pub order : List Made
  pub legal : IsLegal k first order
  pub lined : k.lined ≡ true
  pub unstopped : has_stop order ≡ false

abbrev pub hall_at : (k : HallTerms) → Run k → Hall
hall_at k r = hall_after k r.first r.order

abbrev pub core_at : (k : HallTerms) → Run k → Core
core_at k r = core_in k r.order

abbrev pub custody_at : (k : HallTerms) → Run k → ℕ → Custody
custody_at k r i = (core_at k r).custody i

abbrev pub line_at : (k : HallTerms) → Run k → ℕ → List Turn
line_at k r i = line_in i r.order

abbrev pub written_at : (k : HallTerms) → Run k → Written
written_at k r = write_all k.image.value (first_written k.image.value k.fuel) (events_in k r.order)

-- one operation more
pub record Step (k : HallTerms) (r : Run k) : Type 0 where
  pub made : Made
  pub may : MayCome k (hall_at k r) made
  pub goes : is_stop made.operation ≡ false

-- what was asked of it, where it is known which it is
pub may_do : (k : HallTerms) (r : Run k) (m : Step k r) (o : Operation) → m.made.operation ≡ o → MayDo k (hall_at k r) m.made.pass m.made.knew o
may_do k r m o is = subst (MayDo k (hall_at k r) m.made.pass m.made.knew) is m.may.may

pub none_more : (a b : Bool) → a ≡ false → b ≡ false → (a || b) ≡ false
none_more false b e f = f
none_more true b e f = absurd (cc)

abbrev pub then_run : (k : HallTerms) (r : Run k) → Step k r → Run k
then_run k r m = record { first = r.first; opens = r.opens; order = m.made ∷ r.order; legal = (m.may, r.legal); lined = r.lined; unstopped = none_more (has_stop r.order) (is_stop m.made.operation) r.unstopped m.goes }

-- a live pass of it
pub record Live (k : HallTerms) (r : Run k) (id : ℕ) (v : Knows) : Type 0 where
  pub pass : get_elem? (hall_at k r).views id ≡ some v
  pub live : v.spent ≡ false

-- the package lies in the slot of thread t
abbrev pub InSlot : (k : HallTerms) → Run k → ℕ → PackageView → Type 0
InSlot k r t q = get_elem? (hall_at k r).homes t ≡ some (some (Some (Package q)))

abbrev pub Waits : (k : HallTerms) → Run k → ℕ → ℕ → Type 0
Waits k r t i = slice_index (hall_at k r).words (slot_word t) ≡ WAITING + i

-- ---- lines

abbrev pub is_entry : ℕ → Operation → ℕ
is_entry t (line i (Did_enter u a)) = if u.thread == t then 1 else 0
is_entry t o = 0

-- how many turns of thread t entered, in all lines
abbrev pub entries_by : ℕ → List Made → ℕ
entries_by t [] = 0
entries_by t (m ∷ before) = entries_by t before + is_entry t m.operation

-- somewhere in the order u entered the line of lock i behind b
abbrev pub HasCome : List Made → ℕ → Turn → Turn → Type 0
HasCome order i u b = (n : ℕ) × (m : Made) × (get_elem? order n ≡ some m) × (m.operation ≡ line i (Did_enter u (Behind b)))

abbrev pub IsIn : List Turn → Turn → Type 0
IsIn us u = (n : ℕ) × (get_elem? us n ≡ some u)

-- a link of a turn in the line is to the one behind it, and the last has none
abbrev pub AreLinked : (ℕ → Option Linked) → List Turn → Type 0
AreLinked links [] = Unit {0}
AreLinked links (u ∷ []) = (l : Linked) → links u.thread ≡ Some l → l.before ≢ u.number
AreLinked links (u ∷ x ∷ us) = ((l : Linked) → links u.thread ≡ Some l → l.before ≡ u.number → l.behind ≡ x) × AreLinked links (x ∷ us)

pub record IsLine (k : HallTerms) (r : Run k) (i : ℕ) : Type 0 where
  pub line : (custody_at k r i).line ≡ threads_of (line_at k r i)
  pub tail : (plain_of i r.order).tail ≡ last_turn_of (line_at k r i)
  pub links : AreLinked (plain_of i r.order).links (line_at k r i)
  pub behind : (u b : Turn) (n : ℕ) → HasCome r.order i u b → get_elem? (line_at k r i) n ≡ some b → get_elem? (line_at k r i) (suc n) ≡ some u
  pub known : (u b : Turn) → HasCome r.order i u b → IsIn (entered_in i r.order) b
  pub old : (u : Turn) → IsIn (entered_in i r.order) u → u.number ≤ entries_by u.thread r.order
  pub old_links : (t : ℕ) (l : Linked) → (plain_of i r.order).links t ≡ Some l → l.before ≤ entries_by t r.order

-- the number of queue turns that a package has taken, and that a pass knows of it, is that of its thread's entries
pub record AreCounted (k : HallTerms) (r : Run k) : Type 0 where
  pub in_slot : (t : ℕ) (q : PackageView) → t < threads k → InSlot k r t q → q.turns ≡ entries_by t r.order
  pub out : (id t : ℕ) (v : Knows) (p : PackageView) → Live k r id v → Has v t p → turns_of t v.calls ≡ entries_by t r.order

-- ---- standings

-- a standing of a pass of worker w is true of a lock with this custody and these turns in its line, where the next blocks begin so
abbrev pub IsTrue : ℕ → Custody → List Turn → (ℕ → Beginning) → Standing → Type 0
IsTrue w x us next away = Unit {0}
IsTrue w x us next (entered u None) = (get_elem? us 0 ≡ some u) × ((is_free_lock x.place || x.left) ≡ true)
IsTrue w x us next (entered u (Some b)) = (n : ℕ) × (get_elem? us n ≡ some b) × (get_elem? us (suc n) ≡ some u)
IsTrue w x us next (granted u kind) = (x.place ≡ Granted u.thread) × (x.left ≡ false) × (get_elem? us 0 ≡ some u) × ((next u.thread).kind ≡ kind)
IsTrue w x us next (held u) = (x.place ≡ With u.thread) × (x.left ≡ false) × (get_elem? us 0 ≡ some u)
IsTrue w x us next (loose u) = (x.place ≡ Loose w) × (x.left ≡ false) × (get_elem? us 0 ≡ some u)
IsTrue w x us next (followed u y) = (x.place ≡ Loose w) × (x.left ≡ false) × (get_elem? us 0 ≡ some u) × (get_elem? us 1 ≡ some y)
IsTrue w x us next (closed u) = (x.place ≡ Loose w) × (x.left ≡ true)

abbrev pub Truth : (k : HallTerms) → Run k → ℕ → ℕ → Standing → Type 0
Truth k r w i s = IsTrue w (custody_at k r i) (line_at k r i) (written_at k r).next s

-- the pass has the lock out
abbrev pub has_lock : Standing → Bool
has_lock away = false
has_lock (entered u before) = false
has_lock (granted u kind) = true
has_lock (held u) = true
has_lock (loose u) = true
has_lock (followed u y) = true
has_lock (closed u) = true

-- it has the package of this thread out
abbrev pub thread_of : Standing → Option ℕ
thread_of away = None
thread_of (entered u before) = Some u.thread
thread_of (granted u kind) = Some u.thread
thread_of (held u) = Some u.thread
thread_of (loose u) = Some u.thread
thread_of (followed u y) = Some u.thread
thread_of (closed u) = None

-- the pass stands so at lock i
pub record StandsTrue (k : HallTerms) (r : Run k) (v : Knows) (i : ℕ) : Type 0 where
  pub so : Truth k r v.worker i (standing_of i v.calls)
  pub lock : has_lock (standing_of i v.calls) ≡ true → (l : LockView) × HasLock v i l
  pub stands : (l : LockView) → HasLock v i l → has_lock (standing_of i v.calls) ≡ true
  pub hand : (t : ℕ) → thread_of (standing_of i v.calls) ≡ Some t → (p : PackageView) × Has v t p

-- so does the package q in the slot of thread t
pub record IsShownIn (k : HallTerms) (r : Run k) (t : ℕ) (q : PackageView) (i : ℕ) : Type 0 where
  pub here : (l : LockView) → locked_in q i ≡ Some l → Truth k r 0 i (stand_in q i)
  pub waits : Waits k r t i → (n : ℕ) × (get_elem? (line_at k r i) (suc n) ≡ some (last_turn q))

-- who is in a line and was not given the lock waits in its slot, or is in the hand of a pass that knows it
pub data IsCovered (k : HallTerms) (r : Run k) (i t : ℕ) : Type 0 where
  in_its_slot : Waits k r t i → IsCovered k r i t
  in_hand_of : (id : ℕ) (v : Knows) (u : Turn) (before : Option Turn) → Live k r id v → standing_of i v.calls ≡ entered u before → u.thread ≡ t → IsCovered k r i t

-- ---- the history, and the order of service

pub record IsWrittenSo (k : HallTerms) (r : Run k) : Type 0 where
  pub clock : slice_index (hall_at k r).words CLOCK ≡ length (written_at k r).history
  pub logs : (t : ℕ) (p : PackageView) → t < threads k → PackageAt (hall_at k r) t p → p.log ≡ of_thread (written_at k r).history t
  pub journals : (i : ℕ) (l : LockView) (y : Lying) → i < locks k → LockAt k (hall_at k r) i l y → blocks_of l ≡ of_lock (written_at k r).history i
  pub sealed : (written_at k r).history ≡ sealed_in r.order

abbrev pub first_in : List Turn → List Turn
first_in [] = []
first_in (u ∷ us) = u ∷ []

-- the turn that has the lock, or has released it and not left
abbrev pub given_first : LockPlace → Bool → List Turn → List Turn
given_first place.Free left us = []
given_first (Granted t) left us = first_in us
given_first (With t) left us = first_in us
given_first (Loose w) left us = if left then [] else first_in us

pub record IsServed (k : HallTerms) (r : Run k) (i : ℕ) : Type 0 where
  pub gone : List Turn
  pub all : entered_in i r.order ≡ gone ++ line_at k r i
  pub given : given_in i r.order ≡ gone ++ given_first (custody_at k r i).place (custody_at k r i).left (line_at k r i)

-- ---- the invariant

pub record Agrees (k : HallTerms) (r : Run k) : Type 0 where
  pub may : MayLift k r.first (beats_of k r.order)
  pub lines : (i : ℕ) → i < locks k → IsLine k r i
  pub counted : AreCounted k r
  pub passes : (id i : ℕ) (v : Knows) → Live k r id v → i < locks k → StandsTrue k r v i
  pub slots : (t i : ℕ) (q : PackageView) → t < threads k → i < locks k → InSlot k r t q → IsShownIn k r t q i
  pub covered : (i t : ℕ) → i < locks k → is_out (custody_at k r i) t ≡ true → IsCovered k r i t
  pub written : IsWrittenSo k r
  pub served : (i : ℕ) → i < locks k → IsServed k r i
