-- How threads and locks stand in every core that events can come to.
use Rattle.std.proofs.Common.{◌≡◌, ◌≢◌, ◌⊎◌, ℕ, ◌+◌, ◌<◌, Bool, true, false, not, ◌&&◌, ◌||◌, ◌==◌, List, [], ◌∷◌, ◌++◌, length, refl, sym, ap, subst, ◌∙◌, arith, inl, inr}
use Rattle.std.specs.Prelude.{Option, Some, None, nat_eq, is_some, if◌then◌else◌}
use Rattle.std.specs.List.{IsDistinct, AllByRecursion}
use Rattle.std.proofs.lemmas.Bool.{and_parts, both_ways, eqb-true, false_from_ne_true}
use Rattle.std.proofs.lemmas.Bool.Decides.{eqb_tells, nat_tests}
use Rattle.std.proofs.lemmas.List.Folds.{list_any-append}
use Rattle.tc_elf.specs.Shown.{Shown}
use Rattle.tc_turn.specs.Turn.{Thread, is_running, next_lock, next_act}
use Rattle.tc_turn.proofs.Turns.{next_known, goes_on}
use Rattle.tc_mutex_spec.specs.Machine.{State, after}
use Rattle.tc_mutex_spec.proofs.Local.{after_thread, turn_apart}
use Rattle.tc_mutex_spec.proofs.BlocksAlike.{covers_block}
use Rattle.tc_mutex_spec.proofs.BlockEnds.{after_end}
use Rattle.tc_core.specs.declared.event.Event.{Event}
use Rattle.tc_core.specs.declared.event.Event.TheVariants.{Claim, Turn, Commit, Enter, Take, Ship, Adopt, Grant, Leave, Free, HandBack, Park, Finish}
use Rattle.tc_core.specs.declared.place.LockPlace.TheVariants as place
use Rattle.tc_core.specs.Lines.{is_in_line, is_first, is_single, rest_of}
use Rattle.tc_core.specs.Core.{Core, Limits, Course, Custody, LockPlace, ThreadPlace, Release, Ready, Waiting, Parked, Done, At, With, Granted, Loose, is_at, is_claimable, is_waiting, is_free_lock, is_granted, is_loose, is_number, with_of, with_custody, with_place, first_core}
use Rattle.tc_core.specs.Events.{is_enabled, effect, is_worker, runs, is_between, has_entered, may_take, course_on, course_past, custody_on, custody_past, end_here, release_of, entered, taken_by, passed_to, left_by_all, freed, after_turn, after_commit}
use Rattle.tc_core.specs.View.{IsSoundCore, AreBelow, IsLine}
use Rattle.tc_core.specs.Stories.{AreEnabled, Story, after_all, last_core, locks_by, enters_of, grants_of}
use Rattle.tc_core.proofs.Quiet.{Quiet, Passes, quiet_event, pick_mine, pick_other, changed_same}
use Rattle.tc_core.proofs.Erasure.{MayTurn, may_turn, sound_after, first_sound, started_none}
use Rattle.tc_core.proofs.Served.{Stage, Served, served_after}
use Rattle.tc_core.proofs.Tracked.{Tracks, tracked_after, first_tracked}
use Rattle.tc_core.proofs.Lines.{HasLines, lines_after, first_lines}
use Rattle.std.proofs.lemmas.Option.{same_Some}

-- ---- what is said

-- the thread stands in the line and was not given the lock
abbrev pub is_out : Custody → ℕ → Bool
is_out x t = is_in_line x.line t && (is_free_lock x.place || x.left || not (is_first x.line t))

-- the thread's next turn takes the lock, and it is between two blocks
pub record Wants (image : Shown) (c : Core) (t k : ℕ) : Type 0 where
  pub next : next_lock image (c.machine.threads t) ≡ Some k
  pub runs : is_running (c.machine.threads t).status ≡ true
  pub turns : (c.course t).turns ≡ 0
  pub ended : (c.course t).ended ≡ None

-- at a worker, or waiting for the lock
abbrev pub is_kept : ThreadPlace → ℕ → Bool
is_kept (At w) k = true
is_kept (Waiting j) k = j == k
is_kept _ k = false

-- at a worker, or to be claimed
abbrev pub is_free_to_go : ThreadPlace → Bool
is_free_to_go (At w) = true
is_free_to_go Ready = true
is_free_to_go Parked = true
is_free_to_go _ = false

-- in the line, and not its first
abbrev pub Behind : List ℕ → ℕ → Type 0
Behind line t = (is_in_line line t ≡ true) × (is_first line t ≡ false)

-- how thread t, at this place, stands to lock k with this custody, where W says that it wants the lock: if it is out of the
-- line or was granted the lock it wants it, and is where it may come to it; if it waits for it, it is behind the first
pub record Fits (W : Type 0) (at : ThreadPlace) (x : Custody) (t k : ℕ) : Type 0 where
  pub out : is_out x t ≡ true → W × (is_kept at k ≡ true)
  pub given : is_granted x.place t ≡ true → W × (is_free_to_go at ≡ true)
  pub waiting : is_waiting at k ≡ true → Behind x.line t

abbrev pub AllFit : Shown → Core → Type 0
AllFit image c = (t k : ℕ) → Fits (Wants image c t k) (c.course t).place (c.custody k) t k

-- the thread has ended, and its last block is committed
pub record IsEnded (c : Core) (t : ℕ) : Type 0 where
  pub status : is_running (c.machine.threads t).status ≡ false
  pub block : (c.course t).ended ≡ None

-- who is at a worker is at one that there is, and who is Done has ended
pub record IsSeated (limits : Limits) (E : Type 0) (at : ThreadPlace) : Type 0 where
  pub worker : (w : ℕ) → is_at at w ≡ true → is_worker limits w ≡ true
  pub done : at ≡ Done → E

abbrev pub AreSeated : Limits → Core → Type 0
AreSeated limits c = (t : ℕ) → IsSeated limits (IsEnded c t) (c.course t).place

-- a block has an end only after a turn; where it goes on, the thread runs and takes no lock next
pub record IsBlock (image : Shown) (c : Core) (t : ℕ) : Type 0 where
  pub start : (c.course t).turns ≡ 0 → (c.course t).ended ≡ None
  pub goes : (c.course t).ended ≡ None → ((c.course t).turns ≡ 0) ⊎ ((is_running (c.machine.threads t).status ≡ true) × (next_lock image (c.machine.threads t) ≡ None))

-- how far the line of a lock is
pub record IsStaged (x : Custody) : Type 0 where
  pub granted : List ℕ
  pub locked : List ℕ
  pub entered : List ℕ
  pub served : Served x granted locked entered

pub record Stands (image : Shown) (limits : Limits) (c : Core) : Type 0 where
  pub sound : IsSoundCore c
  pub tracks : Tracks c
  pub lines : HasLines image c
  pub staged : (k : ℕ) → IsStaged (c.custody k)
  pub blocks : (t : ℕ) → IsBlock image c t
  pub seated : AreSeated limits c
  pub loose : (k w : ℕ) → is_loose (c.custody k).place w ≡ true → is_worker limits w ≡ true
  pub known : (k t : ℕ) → with_of (c.custody k).place ≡ Some t → k < length image.guards
  pub fits : AllFit image c
  pub ends : (t k : ℕ) → is_running (c.machine.threads t).status ≡ false → (c.machine.threads t).held k ≡ false

-- ---- tests

pub with_is : (p : LockPlace) (t : ℕ) → is_number (with_of p) t ≡ true → p ≡ With t
with_is (With u) t e = elim (eqb_tells u t) [ inl h ↦ ap With h.1 | inr h ↦ absurd (let f = h.0 in cc) ]
with_is place.Free t e = absurd cc
with_is (Granted u) t e = absurd cc
with_is (Loose u) t e = absurd cc

pub none_some : (o : Option ℕ) (n : ℕ) → o ≡ None → o ≡ Some n → ⊥
none_some o n e f = cc

-- in the line and not the first
pub out_behind : (i f l n : Bool) → i ≡ true → n ≡ false → (i && (f || l || not n)) ≡ true
out_behind i f l n e z = grind arith

-- in the line of a free lock
pub out_free : (i f l n : Bool) → i ≡ true → f ≡ true → (i && (f || l || n)) ≡ true
out_free i f l n e z = grind arith

at_kept : (p : ThreadPlace) (w k : ℕ) → is_at p w ≡ true → is_kept p k ≡ true
at_kept p w k e = grind arith

at_free : (p : ThreadPlace) (w : ℕ) → is_at p w ≡ true → is_free_to_go p ≡ true
at_free p w e = grind arith

-- ---- lines

pub first_in : (line : List ℕ) (t : ℕ) → is_first line t ≡ true → is_in_line line t ≡ true
first_in line t e = grind arith

pub first_one : (line : List ℕ) (u t : ℕ) → is_first line u ≡ true → is_first line t ≡ true → u ≡ t
first_one line u t e f = grind (arith, nat_tests)

apart_from : (v t : ℕ) (vs : List ℕ) → AllByRecursion (λ y. nat_eq v y ≡ false) vs → is_in_line vs t ≡ true → (v == t) ≡ false
apart_from v t [] all e = absurd (cc)
apart_from v t (u ∷ us) all e = grind (arith, nat_tests, apart_from v t us)

-- who is in the rest of a line is not its first, and in the line
pub rest_behind : (n : ℕ) (line : List ℕ) (t : ℕ) → IsLine n line → is_in_line (rest_of line) t ≡ true → Behind line t
unfolding IsDistinct
rest_behind n [] t is e = absurd (cc)
rest_behind n (v ∷ vs) t is e = (let once = is.once in let f = apart_from v t vs once.0 e in grind arith)

below_in : (n : ℕ) (line : List ℕ) (t : ℕ) → AreBelow n line → is_in_line line t ≡ true → t < n
below_in n [] t below e = absurd (cc)
below_in n (v ∷ vs) t below e = grind (arith, nat_tests, below_in n vs t below.1)

pub line_below : (image : Shown) (c : Core) (k t : ℕ) → HasLines image c → is_in_line (c.custody k).line t ≡ true → t < length image.entries
line_below image c k t lines e = (let l = lines k in below_in (length image.entries) (c.custody k).line t l.below e)

-- a lock that was granted is not left, and the thread is the first of its line
pub given_first : (x : Custody) (t : ℕ) → IsStaged x → is_granted x.place t ≡ true → (x.left ≡ false) × (is_first x.line t ≡ true)
given_first x t staged e = (let v = staged.served in go x.place e v.stage)
  where
    gone : List ℕ
    gone = (let v = staged.served in v.gone)

    go : (p : LockPlace) → is_granted p t ≡ true → Stage p x.left x.line gone staged.granted staged.locked → (x.left ≡ false) × (is_first x.line t ≡ true)
    go place.Free h st = absurd (cc)
    go (With u) h st = absurd (cc)
    go (Granted u) h st = (st.0, subst (λ v. is_first x.line v ≡ true) (eqb-true u t h) st.1)
    go (Loose w) h st = absurd (cc)

-- ---- a property of a thread's place and a lock's custody

-- one item changed
picked : {A : Type 0} (P : ℕ → A → Type 0) (f : ℕ → A) (u : ℕ) (x : A) → P u x → ((t : ℕ) → t ≢ u → P t (f t)) → (t : ℕ) → P t (if t == u then x else f t)
picked P f u x mine others t = elim (eqb_tells t u) [ inl h ↦ rw (h.0, h.1) mine | inr h ↦ rw h.0 (others t h.1) ]

module _ (c : Core) (P : ℕ → ℕ → ThreadPlace → Custody → Type 0) (old : (t k : ℕ) → P t k (c.course t).place (c.custody k)) where
  -- thread u came to a place
  moved : (u : ℕ) (at : ThreadPlace) → ((k : ℕ) → P u k at (c.custody k)) → (t k : ℕ) → P t k ((with_place c u at).course t).place (c.custody k)
  moved u at mine t k = picked (λ v (y : Course). P v k y.place (c.custody k)) c.course u (record (c.course u) { place = at }) (mine k) (λ v ne. old v k) t

  -- lock j came to a custody
  changed : (j : ℕ) (x : Custody) → ((t : ℕ) → P t j (c.course t).place x) → (t k : ℕ) → P t k (c.course t).place ((with_custody c j x).custody k)
  changed j x mine t k = picked (λ i y. P t i (c.course t).place y) c.custody j x (mine t) (λ i ne. old t i) k

  -- both
  passed : (u j : ℕ) (at : ThreadPlace) (x : Custody) → P u j at x → ((k : ℕ) → k ≢ j → P u k at (c.custody k)) → ((t : ℕ) → t ≢ u → P t j (c.course t).place x)
      → (t k : ℕ) → P t k ((with_place (with_custody c j x) u at).course t).place ((with_custody c j x).custody k)
  passed u j at x both mine others t k =
      picked (λ v (y : Course). P v k y.place ((with_custody c j x).custody k)) c.course u (record (c.course u) { place = at })
      (picked (λ i y. P u i at y) c.custody j x both mine k)
      (λ v ne. picked (λ i y. P v i (c.course v).place y) c.custody j x (others v ne) (λ i apart. old v i) k) t

-- ---- one thread and one lock

-- how thread t, at this place, and lock k, with this custody, stand; W says that the thread wants the lock, E that it has ended
record Meets (image : Shown) (limits : Limits) (W E : Type 0) (at : ThreadPlace) (x : Custody) (t k : ℕ) : Type 0 where
  pub fits : Fits W at x t k
  pub seat : IsSeated limits E at
  pub loose : (w : ℕ) → is_loose x.place w ≡ true → is_worker limits w ≡ true
  pub known : (u : ℕ) → with_of x.place ≡ Some u → k < length image.guards

-- each thread and each lock of d, where what a thread wants and whether it has ended is as in c
abbrev AllMeet : Shown → Limits → Core → Core → Type 0
AllMeet image limits c d = (t k : ℕ) → Meets image limits (Wants image c t k) (IsEnded c t) (d.course t).place (d.custody k) t k

-- the thread is out of the line, or was granted the lock
abbrev Due : Custody → ℕ → Type 0
Due x t = (is_out x t ≡ true) ⊎ (is_granted x.place t ≡ true)

module _ {image : Shown} {limits : Limits} {W E : Type 0} {p : ThreadPlace} {x : Custody} {t k : ℕ} (m : Meets image limits W E p x t k) where
  meets_more : {V D : Type 0} → (Due x t → W → V) → (E → D) → Meets image limits V D p x t k
  meets_more more ended =
      let f = m.fits in
      let seat = m.seat in
      record {
        fits = record {
          out = λ h. (let y = f.out h in (more (inl h) y.0, y.1));
          given = λ h. (let y = f.given h in (more (inr h) y.0, y.1));
          waiting = f.waiting;
        };
        seat = record { worker = seat.worker; done = λ h. ended (seat.done h) };
        loose = m.loose;
        known = m.known;
      }

  -- the thread comes to a worker
  claimed : (w : ℕ) → is_worker limits w ≡ true → Meets image limits W E (At w) x t k
  claimed w is = grind (arith, nat_tests)

  -- it is given back
  given_back : (at : ThreadPlace) → is_claimable at ≡ true → (is_out x t ≡ true → ⊥) → Meets image limits W E at x t k
  given_back at can none = grind arith

  -- it waits for lock j
  shipped : (j : ℕ) → (is_out x t ≡ true → j ≡ k) → (is_granted x.place t ≡ true → ⊥) → (j ≡ k → Behind x.line t) → Meets image limits W E (Waiting j) x t k
  shipped j out given behind = grind (arith, nat_tests)

  finished : (W → ⊥) → E → Meets image limits W E Done x t k
  finished none ended = grind arith

  -- thread u enters the line
  entered_by : (u : ℕ) → (t ≡ u → W × (is_kept p k ≡ true)) → Meets image limits W E p (entered x u) t k
  entered_by u mine = grind (arith, nat_tests, list_any-append (λ v. v == t) x.line (u ∷ []))

  -- its first takes the lock
  granted_first : (u : ℕ) → is_free_lock x.place ≡ true → is_first x.line u ≡ true → (t ≡ u → is_free_to_go p ≡ true)
      → Meets image limits W E p (taken_by x u) t k
  granted_first u free first mine = grind (arith, nat_tests)

  -- the lock is passed on to the thread
  granted_next : (at : ThreadPlace) (run : ℕ) → x.left ≡ false → is_first (rest_of x.line) t ≡ true → is_waiting p k ≡ true
      → is_free_to_go at ≡ true → IsSeated limits E at → Meets image limits W E at (passed_to x t run) t k
  granted_next at run left second waits go seat = grind (arith, nat_tests)

  -- to another
  granted_other : (n u run : ℕ) → t ≢ u → IsLine n x.line → x.left ≡ false → is_first (rest_of x.line) u ≡ true
      → Meets image limits W E p (passed_to x u run) t k
  granted_other n u run ne line left second = grind (arith, nat_tests, rest_behind n x.line t line)

  left_alone : is_single x.line ≡ true → Meets image limits W E p (left_by_all x) t k
  left_alone one = grind arith

  freed_now : x.left ≡ true → Meets image limits W E p (freed x) t k
  freed_now left = grind arith

  -- thread u has a turn, or a block at w
  turned : (o : Option ℕ) (u : ℕ) → (o ≡ Some k → k < length image.guards) → Meets image limits W E p (custody_on o u k x) t k
  turned o u low = grind (arith, nat_tests)

  committed : (w u : ℕ) (held : Bool) (r : Option Release) → is_worker limits w ≡ true → Meets image limits W E p (custody_past w u held r x) t k
  committed w u held r is = grind (arith, nat_tests)

-- the first of a line is not due where it took the lock
taken_not_due : (x : Custody) (t u k : ℕ) → t ≡ u → x.left ≡ false → is_first x.line u ≡ true → Due (custody_on (Some k) u k x) t → ⊥
taken_not_due x t u k same left first due = grind (arith, nat_tests)

-- ---- threads whose block an event leaves

record IsSame (c d : Core) (t : ℕ) : Type 0 where
  pub thread : d.machine.threads t ≡ c.machine.threads t
  pub turns : (d.course t).turns ≡ (c.course t).turns
  pub ended : (d.course t).ended ≡ (c.course t).ended

same_quiet : (c d : Core) (t : ℕ) → Quiet c d → IsSame c d t
same_quiet c d t quiet = record { thread = ap (λ (m : State). m.threads t) quiet.machine; turns = quiet.turns t; ended = quiet.ended t }

-- of another thread
same_turn : (image : Shown) (c : Core) (u t : ℕ) → t ≢ u → IsSame c (after_turn image c u) t
same_turn image c u t ne =
    let course : (after_turn image c u).course t ≡ c.course t = pick_other t u _ (c.course t) ne in record {
      thread = (turn_apart image c.machine u _ (covers_block image (c.machine.threads u))).threads t ne;
      turns = ap (λ (x : Course). x.turns) course;
      ended = ap (λ (x : Course). x.ended) course;
    }

same_commit : (c : Core) (w u t : ℕ) → t ≢ u → IsSame c (after_commit c w u) t
same_commit c w u t ne =
    let course : (after_commit c w u).course t ≡ c.course t = pick_other t u _ (c.course t) ne in
    record { thread = refl; turns = ap (λ (x : Course). x.turns) course; ended = ap (λ (x : Course). x.ended) course }

-- which is another where it has ended, or its block has not
apart_running : (c : Core) (t u : ℕ) → is_running (c.machine.threads t).status ≡ false → is_running (c.machine.threads u).status ≡ true → t ≡ u → ⊥
apart_running c t u ended runs same = grind arith

apart_ended : (c : Core) (t u : ℕ) → (c.course t).ended ≡ None → is_some (c.course u).ended ≡ true → t ≡ u → ⊥
apart_ended c t u none some same = grind arith

module _ (image : Shown) {c d : Core} {t : ℕ} (same : IsSame c d t) where
  same_wants : (k : ℕ) → Wants image c t k → Wants image d t k
  same_wants k w = grind arith

  same_ended : IsEnded c t → IsEnded d t
  same_ended e = grind arith

  same_block : IsBlock image c t → IsBlock image d t
  same_block b = grind arith

-- ---- what is known where an event may come

abbrev Says : Shown → Limits → Core → Event → Type 0
Says image limits c (Claim w t) = is_worker limits w ≡ true
Says image limits c (Turn w t) = MayTurn image c t
Says image limits c (Commit w t) = (is_worker limits w ≡ true) × (is_some (c.course t).ended ≡ true)
Says image limits c (Enter w t k) =
    (is_at (c.course t).place w ≡ true) × (runs c t ≡ true) × ((c.course t).turns ≡ 0) × (next_lock image (c.machine.threads t) ≡ Some k)
Says image limits c (Take w t k) = (is_at (c.course t).place w ≡ true) × (is_first (c.custody k).line t ≡ true) × (is_free_lock (c.custody k).place ≡ true)
Says image limits c (Ship w t k) = Behind (c.custody k).line t
Says image limits c (Adopt w t k) = (is_worker limits w ≡ true) × Passes c w t k
Says image limits c (Grant w t k) = Passes c w t k
Says image limits c (Leave w k) = is_single (c.custody k).line ≡ true
Says image limits c (Free w k) = (c.custody k).left ≡ true
Says image limits c (HandBack w t) = has_entered (next_lock image (c.machine.threads t)) t c ≡ false
Says image limits c (Park w t) = has_entered (next_lock image (c.machine.threads t)) t c ≡ false
Says image limits c (Finish w t) = (runs c t ≡ false) × ((c.course t).turns ≡ 0)

says : (image : Shown) (limits : Limits) (c : Core) (e : Event) → is_enabled image limits c e ≡ true → Says image limits c e
unfolding is_enabled
says image limits c (Turn w t) on = may_turn image limits c w t on
says image limits c e on = grind (arith, nat_tests)

-- ---- after an event

module _ (image : Shown) (limits : Limits) (c : Core) (s : Stands image limits c) where
  -- who is due a lock wants it, and so no other
  due_wants : (t k : ℕ) → Due (c.custody k) t → Wants image c t k
  due_wants t k (inl out) = ((s.fits t k).out out).0
  due_wants t k (inr given) = ((s.fits t k).given given).0

  due_once : (t j k : ℕ) → Due (c.custody j) t → Due (c.custody k) t → j ≡ k
  due_once t j k a b = (let v = due_wants t j a in let w = due_wants t k b in same_Some j k (sym v.next ∙ w.next))

  due_behind : (t k : ℕ) → Behind (c.custody k).line t → Due (c.custody k) t
  due_behind t k b =
      (let x = c.custody k in inl (out_behind (is_in_line x.line t) (is_free_lock x.place) x.left (is_first x.line t) b.0 b.1))

  -- the thread of a turn is not due a lock afterwards
  turn_not_due : (u t k : ℕ) → MayTurn image c u → Wants image c t k → Due (custody_on (next_lock image (c.machine.threads u)) u k (c.custody k)) t → t ≡ u → ⊥
  turn_not_due u t k may wants due same =
      let next : next_lock image (c.machine.threads u) ≡ Some k = ap (λ v. next_lock image (c.machine.threads v)) (sym same) ∙ wants.next in
      let take : (is_between c u && is_granted (c.custody k).place u) ≡ true = ap (λ o. may_take o u c) (sym next) ∙ may.take in
      let first = given_first (c.custody k) u (s.staged k) (and_parts (is_between c u) _ take).1 in
      taken_not_due (c.custody k) t u k same first.0 first.1 (subst (λ o. Due (custody_on o u k (c.custody k)) t) next due)

  -- who is given back has entered no line
  not_entered : (u k : ℕ) → has_entered (next_lock image (c.machine.threads u)) u c ≡ false → is_out (c.custody k) u ≡ true → ⊥
  not_entered u k none out = (let wants = due_wants u k (inl out) in both_ways _ none (ap (λ o. has_entered o u c) wants.next ∙ out))

  -- who is shipped for a lock was granted none
  not_granted : (u j k : ℕ) → Behind (c.custody j).line u → is_granted (c.custody k).place u ≡ true → ⊥
  not_granted u j k behind given =
      let same = due_once u k j (inr given) (due_behind u j behind) in
      both_ways _ behind.1 (subst (λ i. is_first (c.custody i).line u ≡ true) same (given_first (c.custody k) u (s.staged k) given).1)

  -- ---- what goes on with threads

  wants_after : (e : Event) → is_enabled image limits c e ≡ true → (t k : ℕ) → Due ((effect image c e).custody k) t → Wants image c t k
      → Wants image (effect image c e) t k
  unfolding effect
  wants_after (Turn w u) on t k due wants = same_wants image (same_turn image c u t (turn_not_due u t k (may_turn image limits c w u on) wants due)) k wants
  wants_after (Commit w u) on t k due wants =
      same_wants image (same_commit c w u t (apart_ended c t u wants.ended (says image limits c (Commit w u) on).1)) k wants
  wants_after e on t k due wants = same_wants image (same_quiet c (effect image c e) t (quiet_event image limits c e on refl)) k wants

  ended_after : (e : Event) → is_enabled image limits c e ≡ true → (t : ℕ) → IsEnded c t → IsEnded (effect image c e) t
  unfolding effect
  ended_after (Turn w u) on t ended =
      (let may = may_turn image limits c w u on in same_ended image (same_turn image c u t (apart_running c t u ended.status may.running)) ended)
  ended_after (Commit w u) on t ended =
      same_ended image (same_commit c w u t (apart_ended c t u ended.block (says image limits c (Commit w u) on).1)) ended
  ended_after e on t ended = same_ended image (same_quiet c (effect image c e) t (quiet_event image limits c e on refl)) ended

  block_turn : (u : ℕ) → MayTurn image c u → IsBlock image (after_turn image c u) u
  block_turn u may =
      let d = c.machine.threads u in
      let mine : (after_turn image c u).course u ≡ course_on (c.course u) (next_lock image d) (end_here image c u) = pick_mine u _ (c.course u) in
      let thread = after_thread image c.machine u in
      record {
        start = λ h. absurd (let z : (c.course u).turns + 1 ≡ 0 = ap (λ (x : Course). x.turns) (sym mine) ∙ h in omega arith);
        goes = λ h. (
            let g = goes_on d (next_act image d c.machine.locks) ((c.course u).turns + 1) (next_lock image ((after image c.machine u).threads u)) (ap (λ (x : Course). x.ended) (sym mine) ∙ h) in
            inr (ap (λ (x : Thread). is_running x.status) thread ∙ ap is_running g.2 ∙ may.running, g.0));
      }

  block_commit : (w u : ℕ) → IsBlock image (after_commit c w u) u
  block_commit w u =
      let mine : (after_commit c w u).course u ≡ course_past (c.course u) = pick_mine u _ (c.course u) in
      record { start = λ h. ap (λ (x : Course). x.ended) mine; goes = λ h. inl (ap (λ (x : Course). x.turns) mine) }

  blocks_after : (e : Event) → is_enabled image limits c e ≡ true → (t : ℕ) → IsBlock image (effect image c e) t
  unfolding effect
  blocks_after (Turn w u) on t = elim (eqb_tells t u) [
    | inl h ↦ subst (IsBlock image (after_turn image c u)) (sym h.1) (block_turn u (may_turn image limits c w u on))
    | inr h ↦ same_block image (same_turn image c u t h.1) (s.blocks t)
  ]
  blocks_after (Commit w u) on t = elim (eqb_tells t u) [
    | inl h ↦ subst (IsBlock image (after_commit c w u)) (sym h.1) (block_commit w u)
    | inr h ↦ same_block image (same_commit c w u t h.1) (s.blocks t)
  ]
  blocks_after e on t = same_block image (same_quiet c (effect image c e) t (quiet_event image limits c e on refl)) (s.blocks t)

  abbrev HoldsNone : Thread → Type 0
  HoldsNone d = (k : ℕ) → is_running d.status ≡ false → d.held k ≡ false

  ends_after : (e : Event) → is_enabled image limits c e ≡ true → (t : ℕ) → HoldsNone ((effect image c e).machine.threads t)
  unfolding effect
  ends_after (Turn w u) on t = elim (eqb_tells t u) [
    | inl h ↦ subst (λ v. HoldsNone ((after image c.machine u).threads v)) (sym h.1) (subst HoldsNone (sym (after_thread image c.machine u))
        (λ k ended. after_end (c.machine.threads u) (next_act image (c.machine.threads u) c.machine.locks) (may_turn image limits c w u on).running ended k))
    | inr h ↦ (let same = same_turn image c u t h.1 in subst HoldsNone (sym same.thread) (s.ends t))
  ]
  ends_after (Commit w u) on t = s.ends t
  ends_after e on t = (let quiet = quiet_event image limits c e on refl in subst (λ (m : State). HoldsNone (m.threads t)) (sym quiet.machine) (s.ends t))

  staged_after : (e : Event) → is_enabled image limits c e ≡ true → (k : ℕ) → IsStaged ((effect image c e).custody k)
  staged_after e on k = (let y = s.staged k in record {
    granted = y.granted ++ grants_of k (e ∷ []);
    locked = y.locked ++ locks_by image k c (e ∷ []);
    entered = y.entered ++ enters_of k (e ∷ []);
    served = served_after image limits k (e ∷ []) c y.granted y.locked y.entered y.served (on, tt);
  })

  -- ---- and with a thread's place and a lock's custody

  abbrev Stays : ℕ → ℕ → ThreadPlace → Custody → Type 0
  Stays t k at x = Meets image limits (Wants image c t k) (IsEnded c t) at x t k

  stays : AllMeet image limits c c
  stays t k = record { fits = s.fits t k; seat = s.seated t; loose = s.loose k; known = s.known k }

  -- the lock is passed on
  passed_on : (w u j run : ℕ) (at : ThreadPlace) → Passes c w u j → is_free_to_go at ≡ true → IsSeated limits (IsEnded c u) at
      → ((k : ℕ) → k ≢ j → Stays u k at (c.custody k)) → AllMeet image limits c (with_place (with_custody c j (passed_to (c.custody j) u run)) u at)
  passed_on w u j run at p go seat mine =
      passed c Stays stays u j at (passed_to (c.custody j) u run)
      (granted_next (stays u j) at run p.left p.second p.waiting go seat) mine
      (λ t ne. granted_other (stays t j) (length image.entries) u run ne (s.lines j) p.left p.second)

  -- a turn or a block leaves each thread where it is
  stays_place : (u t k : ℕ) (x : Course) (y : Custody) → x.place ≡ (c.course u).place → Stays t k (c.course t).place y
      → Stays t k (if t == u then x else c.course t).place y
  stays_place u t k x y same old = subst (λ p. Stays t k p y) (sym (changed_same c.course (λ (z : Course). z.place) u x t same)) old

  stays_after : (e : Event) → is_enabled image limits c e ≡ true → AllMeet image limits c (effect image c e)
  unfolding effect
  stays_after (Claim w u) on = moved c Stays stays u (At w) (λ k. claimed (stays u k) w (says image limits c (Claim w u) on))
  stays_after (Turn w u) on =
      λ t k. stays_place u t k _ _ refl (turned (stays t k) (next_lock image (c.machine.threads u)) u (λ next. next_known image (c.machine.threads u) k next))
  stays_after (Commit w u) on =
      λ t k. stays_place u t k _ _ refl (committed (stays t k) w u _ (release_of (c.course u)) (says image limits c (Commit w u) on).0)
  stays_after (Enter w u j) on =
      (let y = says image limits c (Enter w u j) on in
      let wants : Wants image c u j = record { next = y.3; runs = y.1; turns = y.2; ended = (s.blocks u).start y.2 } in
      let kept = at_kept (c.course u).place w j y.0 in
      changed c Stays stays j _ (λ t. entered_by (stays t j) u
      (λ same. subst (λ v. Wants image c v j × (is_kept (c.course v).place j ≡ true)) (sym same) (wants, kept))))
  stays_after (Take w u j) on =
      (let y = says image limits c (Take w u j) on in
      let free = at_free (c.course u).place w y.0 in
      changed c Stays stays j _ (λ t. granted_first (stays t j) u y.2 y.1 (λ same. subst (λ v. is_free_to_go (c.course v).place ≡ true) (sym same) free)))
  stays_after (Ship w u j) on =
      (let y = says image limits c (Ship w u j) on in
      moved c Stays stays u (Waiting j) (λ k. shipped (stays u k) j
      (λ out. due_once u j k (due_behind u j y) (inl out)) (not_granted u j k y) (λ same. subst (λ i. Behind (c.custody i).line u) same y)))
  stays_after (Adopt w u j) on =
      (let y = says image limits c (Adopt w u j) on in
      let to = λ (k : ℕ). claimed (stays u k) w y.0 in
      passed_on w u j _ (At w) y.1 refl (to j).seat (λ k ne. to k))
  stays_after (Grant w u j) on =
      (let p = says image limits c (Grant w u j) on in
      let due = due_behind u j ((s.fits u j).waiting p.waiting) in
      passed_on w u j _ Ready p refl (record { worker = λ v h. absurd (cc); done = λ h. absurd (cc) })
      (λ k ne. given_back (stays u k) Ready refl (λ out. ne (due_once u k j (inl out) due))))
  stays_after (Leave w j) on = changed c Stays stays j _ (λ t. left_alone (stays t j) (says image limits c (Leave w j) on))
  stays_after (Free w j) on = changed c Stays stays j _ (λ t. freed_now (stays t j) (says image limits c (Free w j) on))
  stays_after (HandBack w u) on = moved c Stays stays u Ready (λ k. given_back (stays u k) Ready refl (not_entered u k (says image limits c (HandBack w u) on)))
  stays_after (Park w u) on = moved c Stays stays u Parked (λ k. given_back (stays u k) Parked refl (not_entered u k (says image limits c (Park w u) on)))
  stays_after (Finish w u) on =
      (let y = says image limits c (Finish w u) on in
      let ended : IsEnded c u = record { status = y.0; block = (s.blocks u).start y.1 } in
      moved c Stays stays u Done (λ k. finished (stays u k) (λ (wants : Wants image c u k). both_ways _ y.0 wants.runs) ended))

  meets_after : (e : Event) → is_enabled image limits c e ≡ true → AllMeet image limits (effect image c e) (effect image c e)
  meets_after e on t k = meets_more (stays_after e on t k) (wants_after e on t k) (ended_after e on t)

-- ---- all events

pub stands_after : (image : Shown) (limits : Limits) (c : Core) (e : Event) → is_enabled image limits c e ≡ true → Stands image limits c → Stands image limits (effect image c e)
stands_after image limits c e on s =
    let meets = meets_after image limits c s e on in
    record {
      sound = sound_after image limits c e on s.sound;
      tracks = tracked_after image limits c e on s.sound s.tracks;
      lines = lines_after image limits c e on s.lines;
      staged = staged_after image limits c s e on;
      blocks = blocks_after image limits c s e on;
      seated = λ t. (meets t 0).seat;
      loose = λ k. (meets 0 k).loose;
      known = λ k. (meets 0 k).known;
      fits = λ t k. (meets t k).fits;
      ends = ends_after image limits c s e on;
    }

pub stands_all : (image : Shown) (limits : Limits) (es : List Event) (c : Core) → Stands image limits c → AreEnabled image limits c es → Stands image limits (after_all image c es)
stands_all image limits [] c s on = s
stands_all image limits (e ∷ es) c s on = stands_all image limits es (effect image c e) (stands_after image limits c e on.0 s) on.1

pub first_stands : (image : Shown) (limits : Limits) (fuel : ℕ) → Stands image limits (first_core image fuel)
first_stands image limits fuel = record {
  sound = first_sound image fuel;
  tracks = first_tracked image fuel;
  lines = first_lines image fuel;
  staged = λ k. record { granted = []; locked = []; entered = []; served = record { gone = []; all = refl; stage = (refl, refl, refl) } };
  blocks = λ t. record { start = λ h. refl; goes = λ h. inl refl };
  seated = λ t. record { worker = λ w h. absurd (cc); done = λ h. absurd (cc) };
  loose = λ k w h. absurd (cc);
  known = λ k t h. absurd (cc);
  fits = λ t k. record { out = λ h. absurd (cc); given = λ h. absurd (cc); waiting = λ h. absurd (cc) };
  ends = λ t k h. false_from_ne_true _ (started_none image fuel t k);
}

pub story_stands : (s : Story) → Stands s.image s.limits (last_core s)
story_stands s = stands_all s.image s.limits s.events (first_core s.image s.fuel) (first_stands s.image s.limits s.fuel) s.enabled
