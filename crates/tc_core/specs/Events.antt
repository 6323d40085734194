-- The events: when each is enabled, and what it does.
use Rattle.std.specs.Option.{option_map}
use Rattle.std.specs.Prelude.{ℕ, ◌+◌, Bool, true, false, not, ◌&&◌, ◌||◌, ◌==◌, nat_lt, if◌then◌else◌, [], ◌∷◌, ◌++◌, length, is_some, Option, Some, None}
use Rattle.tc_isa.specs.Sets.{with_lock, without_lock}
use Rattle.tc_elf.specs.Shown.{Shown}
use Rattle.tc_journal.specs.Batch.{may_adopt}
use Rattle.tc_journal.specs.Rule.{end_rule}
use Rattle.tc_journal.specs.declared.block.Block.{Block}
use Rattle.tc_journal.specs.declared.block.End.{End}
use Rattle.tc_journal.specs.declared.block.End.TheVariants.{Unlocked, Exit, Fault, Spent}
use Rattle.tc_journal.specs.declared.block.Kind.TheVariants as kind
use Rattle.tc_turn.specs.Turn.{is_running, next_lock, next_act, outcome_of}
use Rattle.tc_mutex_spec.specs.Machine.{after}
use Rattle.tc_core.specs.declared.event.Event.{Event}
use Rattle.tc_core.specs.declared.event.Event.TheVariants.{Claim, Turn, Commit, Enter, Take, Ship, Adopt, Grant, Leave, Free, HandBack, Park, Finish}
use Rattle.tc_core.specs.declared.place.LockPlace.TheVariants as place
use Rattle.tc_core.specs.Lines.{is_in_line, is_first, is_second, is_single, rest_of}
use Rattle.tc_core.specs.Core.{Core, Limits, Course, Custody, Release, Ready, Waiting, Parked, Done, At, With, Granted, Loose, is_at, is_claimable, is_waiting, is_slept, is_free_lock, is_granted, is_loose, with_of, is_number, with_custody, with_place}

-- ---- conditions

-- the numbers are those of a worker, of a thread, of a lock
abbrev pub is_worker : Limits → ℕ → Bool
is_worker limits w = nat_lt w limits.workers

abbrev pub is_thread : Shown → ℕ → Bool
is_thread image t = nat_lt t (length image.entries)

abbrev pub is_lock : Shown → ℕ → Bool
is_lock image lock = nat_lt lock (length image.guards)

-- the worker has the thread
abbrev pub has_thread : Shown → Limits → Core → ℕ → ℕ → Bool
has_thread image limits c w t = is_worker limits w && (is_thread image t && is_at (c.course t).place w)

-- the worker has released the lock and decides who is next
abbrev pub has_lock : Shown → Limits → Core → ℕ → ℕ → Bool
has_lock image limits c w lock = is_worker limits w && (is_lock image lock && is_loose (c.custody lock).place w)

abbrev pub runs : Core → ℕ → Bool
runs c t = is_running (c.machine.threads t).status

-- the thread has no step yet in its present block
abbrev pub is_between : Core → ℕ → Bool
is_between c t = (c.course t).turns == 0

-- a step that takes a lock is the block's first, and the lock was granted to the thread
abbrev pub may_take : Option ℕ → ℕ → Core → Bool
may_take None t c = true
may_take (Some lock) t c = is_between c t && is_granted (c.custody lock).place t

-- the thread is in the queue of the lock that its next step takes, and the lock was not granted to
-- it: the first of a queue has been granted the lock unless that is free or left, and no other has
abbrev pub has_entered : Option ℕ → ℕ → Core → Bool
has_entered None t c = false
has_entered (Some lock) t c =
    is_in_line (c.custody lock).line t && (is_free_lock (c.custody lock).place || (c.custody lock).left || not (is_first (c.custody lock).line t))

-- the worker may give the thread back as one that can go on
abbrev pub may_go_back : Shown → Limits → Core → ℕ → ℕ → Bool
may_go_back image limits c w t =
    has_thread image limits c w t && (runs c t && (is_between c t && not (has_entered (next_lock image (c.machine.threads t)) t c)))

-- the block that released a lock, as far as the batch rule reads it
abbrev pub released_by : Release → Block
released_by r = record { stamp = 0; thread = 0; turns = 0; held = r.held; kind = kind.On; worker = 0; pc = 0; end = r.end }

-- the batch rule says that the next section of the lock is Adopted
abbrev pub is_adoptable : Limits → ℕ → ℕ → Option Release → Bool
is_adoptable limits lock run None = false
is_adoptable limits lock run (Some r) = may_adopt (released_by r) lock run limits.batch

abbrev pub adopts : Limits → Core → ℕ → Bool
adopts limits c lock = is_adoptable limits lock (c.custody lock).run (c.custody lock).last

-- the worker may pass the lock on to the thread
abbrev pub may_pass : Shown → Limits → Core → ℕ → ℕ → ℕ → Bool
may_pass image limits c w t lock =
    has_lock image limits c w lock
    && (not (c.custody lock).left && (is_thread image t && (is_second (c.custody lock).line t && is_waiting (c.course t).place lock)))

-- whether an event is enabled
unfoldable pub is_enabled : Shown → Limits → Core → Event → Bool
is_enabled image limits c (Claim w t) = is_worker limits w && (is_thread image t && is_claimable (c.course t).place)
is_enabled image limits c (Turn w t) =
    has_thread image limits c w t
    && (runs c t && (not (is_some (c.course t).ended) && may_take (next_lock image (c.machine.threads t)) t c))
is_enabled image limits c (Commit w t) = has_thread image limits c w t && is_some (c.course t).ended
is_enabled image limits c (Enter w t lock) =
    has_thread image limits c w t
    && (is_lock image lock && (runs c t && (is_between c t && (is_number (next_lock image (c.machine.threads t)) lock && not (is_in_line (c.custody lock).line t)))))
is_enabled image limits c (Take w t lock) =
    has_thread image limits c w t && (is_lock image lock && (is_first (c.custody lock).line t && is_free_lock (c.custody lock).place))
is_enabled image limits c (Ship w t lock) =
    has_thread image limits c w t && (is_lock image lock && (is_in_line (c.custody lock).line t && not (is_first (c.custody lock).line t)))
is_enabled image limits c (Adopt w t lock) = may_pass image limits c w t lock && adopts limits c lock
is_enabled image limits c (Grant w t lock) = may_pass image limits c w t lock && not (adopts limits c lock)
is_enabled image limits c (Leave w lock) = has_lock image limits c w lock && (not (c.custody lock).left && is_single (c.custody lock).line)
is_enabled image limits c (Free w lock) = has_lock image limits c w lock && (c.custody lock).left
is_enabled image limits c (HandBack w t) = may_go_back image limits c w t
is_enabled image limits c (Park w t) = may_go_back image limits c w t && is_slept (c.course t).last
is_enabled image limits c (Finish w t) = has_thread image limits c w t && (not (runs c t) && is_between c t)

-- ---- effects

-- the locks of a block with the one that its step takes
abbrev pub held_with : ℕ → Option ℕ → ℕ
held_with held None = held
held_with held (Some lock) = with_lock held lock

-- the locks that a thread holds after a block with these
abbrev pub held_past : ℕ → Option End → ℕ
held_past held (Some (Unlocked lock)) = without_lock held lock
held_past held (Some Exit) = 0
held_past held (Some (Fault f)) = 0
held_past held (Some Spent) = 0
held_past held _ = held

-- how the block of t ends, if it ends with the next step
abbrev pub end_here : Shown → Core → ℕ → Option End
end_here image c t =
    end_rule
    (outcome_of (next_act image (c.machine.threads t) c.machine.locks))
    ((c.course t).turns + 1)
    (next_lock image ((after image c.machine t).threads t))

-- the thread after a step that takes this lock, or none, and ends its block so, or goes on with it
abbrev pub course_on : Course → Option ℕ → Option End → Course
course_on x taken end = record x { turns = x.turns + 1; held = held_with x.held taken; ended = end }

-- the thread after its block
abbrev pub course_past : Course → Course
course_past x = record x { turns = 0; held = held_past x.held x.ended; ended = None; last = x.ended }

-- lock k after a step of t that takes a lock, or none
abbrev pub custody_on : Option ℕ → ℕ → ℕ → Custody → Custody
custody_on None t k x = x
custody_on (Some lock) t k x = if k == lock then record x { place = With t } else x

-- what the block says of the locks that it released
abbrev pub release_of : Course → Option Release
release_of x = option_map (λ end. record { held = x.held; end = end }) x.ended

-- a lock after a block of t at w: one that t had and no longer holds is loose
abbrev pub custody_past : ℕ → ℕ → Bool → Option Release → Custody → Custody
custody_past w t held release x =
    if is_number (with_of x.place) t && not held then record x { place = Loose w; last = release } else x

-- t has entered the queue
abbrev pub entered : Custody → ℕ → Custody
entered x t = record x { line = x.line ++ t ∷ [] }

-- t, the first of the queue, is granted the lock as Taken
abbrev pub taken_by : Custody → ℕ → Custody
taken_by x t = record x { place = Granted t; run = 0 }

-- the first of the queue has left it, and the next one is granted the lock
abbrev pub passed_to : Custody → ℕ → ℕ → Custody
passed_to x t run = record x { place = Granted t; line = rest_of x.line; run = run }

-- the last of the queue has left it
abbrev pub left_by_all : Custody → Custody
left_by_all x = record x { line = []; left = true }

-- the lock is free again
abbrev pub freed : Custody → Custody
freed x = record x { place = place.Free; left = false }

-- the core after a step of t
abbrev pub after_turn : Shown → Core → ℕ → Core
after_turn image c t =
    let taken = next_lock image (c.machine.threads t) in
    record {
      machine = after image c.machine t;
      course = λ k. if k == t then course_on (c.course t) taken (end_here image c t) else c.course k;
      custody = λ k. custody_on taken t k (c.custody k);
    }

-- the core after a block of t at w
abbrev pub after_commit : Core → ℕ → ℕ → Core
after_commit c w t = record {
  machine = c.machine;
  course = λ k. if k == t then course_past (c.course t) else c.course k;
  custody = λ k. custody_past w t ((c.machine.threads t).held k) (release_of (c.course t)) (c.custody k);
}

-- what an event does
unfoldable pub effect : Shown → Core → Event → Core
effect image c (Claim w t) = with_place c t (At w)
effect image c (Turn w t) = after_turn image c t
effect image c (Commit w t) = after_commit c w t
effect image c (Enter w t lock) = with_custody c lock (entered (c.custody lock) t)
effect image c (Take w t lock) = with_custody c lock (taken_by (c.custody lock) t)
effect image c (Ship w t lock) = with_place c t (Waiting lock)
effect image c (Adopt w t lock) = with_place (with_custody c lock (passed_to (c.custody lock) t ((c.custody lock).run + 1))) t (At w)
effect image c (Grant w t lock) = with_place (with_custody c lock (passed_to (c.custody lock) t 0)) t Ready
effect image c (Leave w lock) = with_custody c lock (left_by_all (c.custody lock))
effect image c (Free w lock) = with_custody c lock (freed (c.custody lock))
effect image c (HandBack w t) = with_place c t Ready
effect image c (Park w t) = with_place c t Parked
effect image c (Finish w t) = with_place c t Done
