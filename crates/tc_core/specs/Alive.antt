-- Progress: how long a thread waits, how much work there is, and that all threads can end.
use Rattle.std.specs.Prelude.{◌≡◌, ℕ, ◌+◌, ◌*◌, ◌<◌, ◌≤◌, Bool, true, false, nat_eq, if◌then◌else◌, List, [], ◌∷◌, ◌++◌, length, Option, Some, None}
use Rattle.std.specs.List.{IsDistinct, list_any}
use Rattle.tc_elf.specs.Shown.{Shown}
use Rattle.tc_elf.specs.declared.limits.TheConstants.{MAX_GUARDS}
use Rattle.tc_turn.specs.Turn.{is_running}
use Rattle.tc_mutex_spec.specs.Progress.{most_turns}
use Rattle.tc_core.specs.declared.event.Event.{Event}
use Rattle.tc_core.specs.declared.event.Event.TheVariants.{Claim, Turn, Commit, Enter, Take, Ship, Adopt, Grant, HandBack, Park, Finish}
use Rattle.tc_core.specs.declared.place.LockPlace.TheVariants as place
use Rattle.tc_core.specs.Lines.{is_in_line}
use Rattle.tc_core.specs.Core.{Core, Done, is_number, first_core}
use Rattle.tc_core.specs.Events.{is_enabled}
use Rattle.tc_core.specs.Stories.{Story, AreEnabled, after_all, last_core, turns_of, grants_of}

-- ---- how long a thread waits

-- in the story a thread enters the queue of a lock, and the events since then have not given it the lock
pub record Wait (s : Story) : Type 0 where
  pub worker : ℕ
  pub thread : ℕ
  pub lock : ℕ
  pub before : List Event
  pub since : List Event
  pub all : s.events ≡ before ++ Enter worker thread lock ∷ since
  pub waits : is_in_line (grants_of lock since) thread ≡ false

-- the queue that the thread found there
abbrev pub line_found : (s : Story) → Wait s → List ℕ
line_found s w = ((after_all s.image (first_core s.image s.fuel) w.before).custody w.lock).line

-- fairness: meanwhile each thread gets the lock at most once, and only those that the thread found
-- in the queue: so fewer than there are threads
pub record IsBrief (s : Story) (w : Wait s) : Type 0 where
  pub once : IsDistinct nat_eq (grants_of w.lock w.since)
  pub ahead : (t : ℕ) → is_in_line (grants_of w.lock w.since) t ≡ true → is_in_line (line_found s w) t ≡ true
  pub few : length (grants_of w.lock w.since) < length s.image.entries

-- ---- how much work there is

-- the event is none of Claim, HandBack and Park
abbrev pub is_work : Event → Bool
is_work (Claim w t) = false
is_work (HandBack w t) = false
is_work (Park w t) = false
is_work _ = true

-- how many of the events are work
abbrev pub work_of : List Event → ℕ
work_of [] = 0
work_of (e ∷ es) = (if is_work e then 1 else 0) + work_of es

-- for each step one Turn and one Commit, and for the section that may begin with it Enter, Ship, one of Take, Adopt and
-- Grant, Leave and Free: seven. Also each thread may enter one queue, be shipped and finish, and each lock be taken
abbrev pub most_work : Story → ℕ
most_work s = 7 * most_turns s.image s.fuel + 3 * length s.image.entries + length s.image.guards

pub record IsBounded (s : Story) : Type 0 where
  pub turns : length (turns_of s.events) ≤ most_turns s.image s.fuel
  pub work : work_of s.events ≤ most_work s

-- ---- all threads can end

-- each thread is Done and has ended, and each lock is Free with an empty queue
pub record IsOver (image : Shown) (c : Core) : Type 0 where
  pub threads : (t : ℕ) → t < length image.entries → (c.course t).place ≡ Done
  pub ended : (t : ℕ) → t < length image.entries → is_running (c.machine.threads t).status ≡ false
  pub locks : (k : ℕ) → k < length image.guards → (c.custody k).place ≡ place.Free
  pub lines : (k : ℕ) → k < length image.guards → (c.custody k).line ≡ []

-- there is a worker, and no more locks than an image may have: with more, a thread could take two in either order
pub record CanGo (s : Story) : Type 0 where
  pub worker : 0 < s.limits.workers
  pub guards : length s.image.guards ≤ MAX_GUARDS

-- the event gives back a thread that can go on
abbrev pub is_back : Event → Bool
is_back (HandBack w t) = true
is_back (Park w t) = true
is_back _ = false

-- how many of the events do
abbrev pub backs_of : List Event → ℕ
backs_of [] = 0
backs_of (e ∷ es) = (if is_back e then 1 else 0) + backs_of es

-- after the story some event is enabled that gives no thread back
pub record Step (s : Story) : Type 0 where
  pub event : Event
  pub enabled : is_enabled s.image s.limits (last_core s) event ≡ true
  pub onward : is_back event ≡ false

-- the work, the Claims between it, and a Claim of each thread
abbrev pub most_onward : Story → ℕ
most_onward s = 2 * most_work s + length s.image.entries

-- the story can be continued, with no thread given back, so that all threads end
pub record CanEnd (s : Story) : Type 0 where
  pub events : List Event
  pub enabled : AreEnabled s.image s.limits (last_core s) events
  pub onward : backs_of events ≡ 0
  pub short : length events ≤ most_onward s
  pub over : IsOver s.image (after_all s.image (last_core s) events)

-- ---- workers that give no thread back in vain

-- the thread that the event gives back
abbrev pub given_back : Event → Option ℕ
given_back (HandBack w t) = Some t
given_back (Park w t) = Some t
given_back _ = None

-- the thread that the event does something with
abbrev pub worked_on : Event → Option ℕ
worked_on (Turn w t) = Some t
worked_on (Commit w t) = Some t
worked_on (Enter w t lock) = Some t
worked_on (Take w t lock) = Some t
worked_on (Ship w t lock) = Some t
worked_on (Adopt w t lock) = Some t
worked_on (Grant w t lock) = Some t
worked_on (Finish w t) = Some t
worked_on _ = None

-- something is done with the thread
abbrev pub is_worked_on : List Event → ℕ → Bool
is_worked_on events t = list_any (λ e. is_number (worked_on e) t) events

-- between two events HandBack or Park of a thread something is done with it
abbrev pub NoneInVain : List Event → Type 0
NoneInVain events =
    (thread : ℕ) (before between after : List Event) (back again : Event)
    → events ≡ before ++ back ∷ between ++ again ∷ after
    → given_back back ≡ Some thread
    → given_back again ≡ Some thread
    → is_worked_on between thread ≡ true

-- between a Claim of a thread and a later HandBack or Park of it the thread takes a step
abbrev pub AreClaimsUsed : List Event → Type 0
AreClaimsUsed events =
    (worker thread : ℕ) (before between after : List Event) (back : Event)
    → events ≡ before ++ Claim worker thread ∷ between ++ back ∷ after
    → given_back back ≡ Some thread
    → is_in_line (turns_of between) thread ≡ true

-- the work, as many threads given back and one more for each, and the Claims between them
abbrev pub most_events : Story → ℕ
most_events s = 4 * most_work s + 3 * length s.image.entries
