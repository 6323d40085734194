-- Where not all is over, something may come that gives no thread back.
use Rattle.std.proofs.Common.{◌≡◌, ◌⊎◌, ℕ, zero, suc, ◌+◌, ◌<◌, ◌≤◌, Bool, true, false, not, ◌==◌, List, [], ◌∷◌, length, refl, sym, ap, subst, ◌∙◌, arith, inl, inr}
use Rattle.std.specs.Cmp.Derive.{both_true}
use Rattle.std.specs.Prelude.{Option, Some, None, nat_lt, is_some}
use Rattle.std.proofs.lemmas.Bool.{both_ways}
use Rattle.std.proofs.lemmas.Bool.Decides.{nat_tests}
use Rattle.tc_isa.specs.Sets.{has}
use Rattle.tc_elf.specs.Shown.{Shown}
use Rattle.tc_elf.specs.declared.limits.TheConstants.{MAX_GUARDS}
use Rattle.tc_journal.specs.declared.block.End.{End}
use Rattle.tc_turn.specs.Turn.{is_running, next_lock}
use Rattle.tc_turn.proofs.Turns.{next_known, next_free}
use Rattle.tc_mutex_spec.proofs.Replaying.{next_above}
use Rattle.tc_mutex_spec.proofs.Sums.{all_or}
use Rattle.tc_core.specs.declared.event.Event.{Event}
use Rattle.tc_core.specs.declared.event.Event.TheVariants.{Claim, Turn, Commit, Enter, Take, Ship, Adopt, Grant, Leave, Free, Finish}
use Rattle.tc_core.specs.declared.place.LockPlace.TheVariants as place
use Rattle.tc_core.specs.Lines.{is_in_line, is_first, is_single, rest_of}
use Rattle.tc_core.specs.Core.{Core, Limits, LockPlace, ThreadPlace, Ready, Waiting, Parked, Done, At, With, Granted, Loose, is_at, is_claimable, is_waiting, is_free_lock, is_granted, is_loose, is_number, with_of}
use Rattle.tc_core.specs.Events.{is_enabled, has_thread, has_lock, may_take, may_pass, adopts, held_past}
use Rattle.tc_core.specs.Alive.{is_back, IsOver}
use Rattle.tc_core.proofs.Served.{Stage}
use Rattle.tc_core.proofs.Standing.{Stands, Wants, is_kept, is_free_to_go, none_some, out_behind, out_free, first_in, first_one, given_first, line_below, rest_behind}
use Rattle.tc_lemmas.proofs.Tests.{eq_self}

-- an event that may come at c, and gives no thread back
pub record Goes (image : Shown) (limits : Limits) (c : Core) : Type 0 where
  pub event : Event
  pub enabled : is_enabled image limits c event ≡ true
  pub onward : is_back event ≡ false

below_test : (n m : ℕ) → n < m → nat_lt n m ≡ true
below_test n m lt = grind (arith, nat_tests)

zero_test : (n : ℕ) → n ≡ 0 → (n == 0) ≡ true
zero_test n e = ap (λ m. m == 0) e ∙ refl

module _ (image : Shown) (limits : Limits) (c : Core) (s : Stands image limits c) (some : 0 < limits.workers) (few : length image.guards ≤ MAX_GUARDS) where
  has_t : (w t : ℕ) → t < length image.entries → is_at (c.course t).place w ≡ true → has_thread image limits c w t ≡ true
  has_t w t lt at = both_true ((s.seated t).worker w at) (both_true (below_test t (length image.entries) lt) at)

  has_k : (w k : ℕ) → k < length image.guards → is_loose (c.custody k).place w ≡ true → has_lock image limits c w k ≡ true
  has_k w k lt loose = both_true (s.loose k w loose) (both_true (below_test k (length image.guards) lt) loose)

  -- the events, each where it may come
  go_claim : (t : ℕ) → t < length image.entries → is_claimable (c.course t).place ≡ true → Goes image limits c
  unfolding is_enabled
  go_claim t lt e = record { event = Claim 0 t; enabled = both_true (below_test 0 limits.workers some) (both_true (below_test t (length image.entries) lt) e); onward = refl }

  go_commit : (w t : ℕ) → has_thread image limits c w t ≡ true → is_some (c.course t).ended ≡ true → Goes image limits c
  unfolding is_enabled
  go_commit w t at e = record { event = Commit w t; enabled = both_true at e; onward = refl }

  go_finish : (w t : ℕ) → has_thread image limits c w t ≡ true → is_running (c.machine.threads t).status ≡ false → (c.course t).turns ≡ 0 → Goes image limits c
  unfolding is_enabled
  go_finish w t at run z = record { event = Finish w t; enabled = both_true at (both_true (ap not run) (zero_test _ z)); onward = refl }

  go_turn : (w t : ℕ) → has_thread image limits c w t ≡ true → is_running (c.machine.threads t).status ≡ true → (c.course t).ended ≡ None → may_take (next_lock image (c.machine.threads t)) t c ≡ true → Goes image limits c
  unfolding is_enabled
  go_turn w t at run e take = record { event = Turn w t; enabled = both_true at (both_true run (both_true (ap (λ o. not (is_some o)) e) take)); onward = refl }

  go_enter : (w t k : ℕ) → has_thread image limits c w t ≡ true → k < length image.guards → is_running (c.machine.threads t).status ≡ true → (c.course t).turns ≡ 0 → next_lock image (c.machine.threads t) ≡ Some k → is_in_line (c.custody k).line t ≡ false → Goes image limits c
  unfolding is_enabled
  go_enter w t k at lt run z next out = record {
    event = Enter w t k;
    enabled = both_true at (both_true (below_test k (length image.guards) lt) (both_true run (both_true (zero_test _ z) (both_true (ap (λ o. is_number o k) next ∙ eq_self k) (ap not out)))));
    onward = refl;
  }

  go_take : (w t k : ℕ) → has_thread image limits c w t ≡ true → k < length image.guards → is_first (c.custody k).line t ≡ true → is_free_lock (c.custody k).place ≡ true → Goes image limits c
  unfolding is_enabled
  go_take w t k at lt first free = record { event = Take w t k; enabled = both_true at (both_true (below_test k (length image.guards) lt) (both_true first free)); onward = refl }

  go_ship : (w t k : ℕ) → has_thread image limits c w t ≡ true → k < length image.guards → is_in_line (c.custody k).line t ≡ true → is_first (c.custody k).line t ≡ false → Goes image limits c
  unfolding is_enabled
  go_ship w t k at lt i f = record { event = Ship w t k; enabled = both_true at (both_true (below_test k (length image.guards) lt) (both_true i (ap not f))); onward = refl }

  go_pass_by : (w t k : ℕ) → may_pass image limits c w t k ≡ true → (b : Bool) → adopts limits c k ≡ b → Goes image limits c
  unfolding is_enabled
  go_pass_by w t k may true e = record { event = Adopt w t k; enabled = both_true may e; onward = refl }
  go_pass_by w t k may false e = record { event = Grant w t k; enabled = both_true may (ap not e); onward = refl }

  go_pass : (w t k : ℕ) → may_pass image limits c w t k ≡ true → Goes image limits c
  go_pass w t k may = go_pass_by w t k may (adopts limits c k) refl

  go_leave : (w k : ℕ) → has_lock image limits c w k ≡ true → (c.custody k).left ≡ false → is_single (c.custody k).line ≡ true → Goes image limits c
  unfolding is_enabled
  go_leave w k at left one = record { event = Leave w k; enabled = both_true at (both_true (ap not left) one); onward = refl }

  go_free : (w k : ℕ) → has_lock image limits c w k ≡ true → (c.custody k).left ≡ true → Goes image limits c
  unfolding is_enabled
  go_free w k at left = record { event = Free w k; enabled = both_true at left; onward = refl }

  -- ---- a lock that is loose

  -- its second goes on
  second_goes : (w t k : ℕ) → k < length image.guards → is_loose (c.custody k).place w ≡ true → (c.custody k).left ≡ false → is_first (rest_of (c.custody k).line) t ≡ true → Goes image limits c
  second_goes w t k lt loose left second =
      let b = rest_behind (length image.entries) (c.custody k).line t (s.lines k) (first_in (rest_of (c.custody k).line) t second) in
      let o = (s.fits t k).out (out_behind (is_in_line (c.custody k).line t) (is_free_lock (c.custody k).place) (c.custody k).left (is_first (c.custody k).line t) b.0 b.1) in
      let is_t = line_below image c k t s.lines b.0 in
      go is_t b.0 b.1 (c.course t).place refl o.1
    where
      go : t < length image.entries → is_in_line (c.custody k).line t ≡ true → is_first (c.custody k).line t ≡ false → (p : ThreadPlace) → (c.course t).place ≡ p → is_kept p k ≡ true → Goes image limits c
      go is_t i f Ready e h = absurd (cc)
      go is_t i f (Waiting j) e h =
          go_pass w t k (both_true (has_k w k lt loose) (both_true (ap not left) (both_true (below_test t (length image.entries) is_t) (both_true second (ap (λ p. is_waiting p k) e ∙ h)))))
      go is_t i f Parked e h = absurd (cc)
      go is_t i f Done e h = absurd (cc)
      go is_t i f (At v) e h = go_ship v t k (has_t v t is_t (ap (λ p. is_at p v) e ∙ eq_self v)) lt i f

  loose_goes : (w k : ℕ) → k < length image.guards → is_loose (c.custody k).place w ≡ true → Goes image limits c
  loose_goes w k lt loose = by_left (c.custody k).left refl
    where
      by_line : (line : List ℕ) → (c.custody k).line ≡ line → (t : ℕ) → is_first line t ≡ true → (c.custody k).left ≡ false → Goes image limits c
      by_line [] e t first left = absurd (cc)
      by_line (u ∷ []) e t first left = go_leave w k (has_k w k lt loose) left (ap is_single e)
      by_line (u ∷ v ∷ vs) e t first left = second_goes w v k lt loose left (ap (λ l. is_first (rest_of l) v) e ∙ eq_self v)

      by_stage : (p : LockPlace) (left : Bool) (granted locked gone : List ℕ) → is_loose p w ≡ true → left ≡ false → Stage p left (c.custody k).line gone granted locked → (t : ℕ) × (is_first (c.custody k).line t ≡ true)
      by_stage place.Free left granted locked gone h z st = absurd (cc)
      by_stage (With u) left granted locked gone h z st = absurd (cc)
      by_stage (Granted u) left granted locked gone h z st = absurd (cc)
      by_stage (Loose v) true granted locked gone h z st = absurd (cc)
      by_stage (Loose v) false granted locked gone h z st = (st.0, st.1)

      by_left : (b : Bool) → (c.custody k).left ≡ b → Goes image limits c
      by_left true e = go_free w k (has_k w k lt loose) e
      by_left false e = (
          let y = s.staged k in let v = y.served in
          let f = by_stage (c.custody k).place (c.custody k).left y.granted y.locked v.gone loose e v.stage in
          by_line (c.custody k).line refl f.0 f.1 e)

  -- ---- a lock that a thread has

  -- where it is with a thread, that is the first of the line
  with_first : (t k : ℕ) → (c.custody k).place ≡ With t → is_first (c.custody k).line t ≡ true
  with_first t k e = (let y = s.staged k in let v = y.served in go (c.custody k).place e v.gone y.granted y.locked v.stage)
    where
      go : (p : LockPlace) → p ≡ With t → (gone granted locked : List ℕ) → Stage p (c.custody k).left (c.custody k).line gone granted locked → is_first (c.custody k).line t ≡ true
      go place.Free h gone granted locked st = absurd (cc)
      go (With u) h gone granted locked st = (let same : u ≡ t = cc in subst (λ v. is_first (c.custody k).line v ≡ true) same st.1)
      go (Granted u) h gone granted locked st = absurd (cc)
      go (Loose w) h gone granted locked st = absurd (cc)

  -- and is held where the block has not ended
  with_held : (t k : ℕ) → (c.custody k).place ≡ With t → (c.course t).ended ≡ None → (c.machine.threads t).held k ≡ true
  with_held t k e none =
      let tr = s.tracks in
      let is : has (c.course t).held k ≡ true = tr.with t k ∙ ap (λ p. is_number (with_of p) t) e ∙ eq_self t in
      sym (tr.kept t k) ∙ ap (λ o. has (held_past (c.course t).held o) k) none ∙ is

  with_not_done : (t k : ℕ) → (c.custody k).place ≡ With t → (c.course t).place ≡ Done → ⊥
  with_not_done t k e h = (let d = (s.seated t).done h in both_ways _ (s.ends t k d.status) (with_held t k e d.block))

  -- ---- a thread that is at a worker

  -- it wants the lock, in whose line it is the first
  first_goes : (w t k : ℕ) → has_thread image limits c w t ≡ true → k < length image.guards → Wants image c t k → is_first (c.custody k).line t ≡ true → Goes image limits c
  first_goes w t k at lt wants first = go (c.custody k).place refl
    where
      go : (p : LockPlace) → (c.custody k).place ≡ p → Goes image limits c
      go place.Free e = go_take w t k at lt first (ap is_free_lock e)
      go (With u) e = absurd (
          let same : u ≡ t = first_one (c.custody k).line u t (with_first u k e) first in
          let held = with_held t k (e ∙ ap (λ v. With v) same) wants.ended in
          both_ways _ (next_free image (c.machine.threads t) k wants.next) held)
      go (Granted u) e = (
          let g : is_granted (c.custody k).place u ≡ true = ap (λ p. is_granted p u) e ∙ eq_self u in
          let same : u ≡ t = first_one (c.custody k).line u t (given_first (c.custody k) u (s.staged k) g).1 first in
          go_turn w t at wants.runs wants.ended (ap (λ o. may_take o t c) wants.next ∙ both_true (zero_test _ wants.turns) (subst (λ v. is_granted (c.custody k).place v ≡ true) same g)))
      go (Loose v) e = loose_goes v k lt (ap (λ p. is_loose p v) e ∙ eq_self v)

  wants_goes : (w t k : ℕ) → has_thread image limits c w t ≡ true → Wants image c t k → Goes image limits c
  wants_goes w t k at wants = go (is_in_line (c.custody k).line t) (is_first (c.custody k).line t) refl refl
    where
      low : k < length image.guards
      low = next_known image (c.machine.threads t) k wants.next

      go : (i f : Bool) → is_in_line (c.custody k).line t ≡ i → is_first (c.custody k).line t ≡ f → Goes image limits c
      go false f e h = go_enter w t k at low wants.runs wants.turns wants.next e
      go true false e h = go_ship w t k at low e h
      go true true e h = first_goes w t k at low wants h

  at_goes : (w t : ℕ) → has_thread image limits c w t ≡ true → Goes image limits c
  at_goes w t at = by_end (c.course t).ended refl
    where
      none : (c.course t).ended ≡ None → is_running (c.machine.threads t).status ≡ true → (o : Option ℕ) → next_lock image (c.machine.threads t) ≡ o → Goes image limits c
      none e run None next = go_turn w t at run e (ap (λ o. may_take o t c) next)
      none e run (Some k) next = elim ((s.blocks t).goes e) [
        | inl z ↦ wants_goes w t k at (record { next = next; runs = run; turns = z; ended = e })
        | inr y ↦ absurd (none_some (next_lock image (c.machine.threads t)) k y.1 next)
      ]

      by_status : (b : Bool) → is_running (c.machine.threads t).status ≡ b → (c.course t).ended ≡ None → Goes image limits c
      by_status true run e = none e run (next_lock image (c.machine.threads t)) refl
      by_status false run e = elim ((s.blocks t).goes e) [
        | inl z ↦ go_finish w t at run z
        | inr y ↦ absurd (both_ways _ run y.0)
      ]

      by_end : (o : Option End) → (c.course t).ended ≡ o → Goes image limits c
      by_end None e = by_status (is_running (c.machine.threads t).status) refl e
      by_end (Some x) e = go_commit w t at (ap is_some e)

  free_goes : (t : ℕ) → t < length image.entries → (p : ThreadPlace) → (c.course t).place ≡ p → is_free_to_go p ≡ true → Goes image limits c
  free_goes t lt Ready e h = go_claim t lt (ap is_claimable e)
  free_goes t lt (Waiting j) e h = absurd (cc)
  free_goes t lt Parked e h = go_claim t lt (ap is_claimable e)
  free_goes t lt Done e h = absurd (cc)
  free_goes t lt (At w) e h = at_goes w t (has_t w t lt (ap (λ p. is_at p w) e ∙ eq_self w))

  -- ---- a lock that is free with somebody in its line

  head_goes : (t k : ℕ) → k < length image.guards → is_free_lock (c.custody k).place ≡ true → is_first (c.custody k).line t ≡ true → Goes image limits c
  head_goes t k lt free first =
      let i = first_in (c.custody k).line t first in
      let o = (s.fits t k).out (out_free (is_in_line (c.custody k).line t) (is_free_lock (c.custody k).place) (c.custody k).left (not (is_first (c.custody k).line t)) i free) in
      go (line_below image c k t s.lines i) (c.course t).place refl o.1
    where
      go : t < length image.entries → (p : ThreadPlace) → (c.course t).place ≡ p → is_kept p k ≡ true → Goes image limits c
      go is_t Ready e h = absurd (cc)
      go is_t (Waiting j) e h = absurd (both_ways _ ((s.fits t k).waiting (ap (λ p. is_waiting p k) e ∙ h)).1 first)
      go is_t Parked e h = absurd (cc)
      go is_t Done e h = absurd (cc)
      go is_t (At v) e h = go_take v t k (has_t v t is_t (ap (λ p. is_at p v) e ∙ eq_self v)) lt first free

  granted_goes : (t k : ℕ) → (c.custody k).place ≡ Granted t → Goes image limits c
  granted_goes t k e =
      let g : is_granted (c.custody k).place t ≡ true = ap (λ p. is_granted p t) e ∙ eq_self t in
      let y = (s.fits t k).given g in
      free_goes t (line_below image c k t s.lines (first_in (c.custody k).line t (given_first (c.custody k) t (s.staged k) g).1)) (c.course t).place refl y.1

  -- ---- a thread that waits

  line_head : (line : List ℕ) (t : ℕ) → is_in_line line t ≡ true → (u : ℕ) × (is_first line u ≡ true)
  line_head [] t e = absurd (cc)
  line_head (v ∷ vs) t e = (v, eq_self v)

  -- a thread that holds a lock wants a greater one alone
  wants_above : (t j k : ℕ) → (c.custody k).place ≡ With t → Wants image c t j → k < j
  wants_above t j k e wants =
      let sound = s.sound in
      let bound : (other : ℕ) → (c.machine.threads t).held other ≡ true → other < 32 = λ other h. (let l = s.known other t (sound.with t other h) in omega arith) in
      (next_above image (c.machine.threads t) (omega arith) bound j wants.next).1 k (with_held t k e wants.ended)

  -- what a waiting thread's lock is at
  abbrev Further : ℕ → Type 0
  Further n = (u j : ℕ) → length image.guards ≤ j + n → is_waiting (c.course u).place j ≡ true → Goes image limits c

  by_place : (n u k : ℕ) → Further n → length image.guards ≤ k + suc n → (c.custody k).place ≡ With u → (p : ThreadPlace) → (c.course u).place ≡ p → Goes image limits c
  by_place n u k rec up e Ready f = free_goes u (line_below image c k u s.lines (first_in (c.custody k).line u (with_first u k e))) Ready f refl
  by_place n u k rec up e Parked f = free_goes u (line_below image c k u s.lines (first_in (c.custody k).line u (with_first u k e))) Parked f refl
  by_place n u k rec up e (At w) f = free_goes u (line_below image c k u s.lines (first_in (c.custody k).line u (with_first u k e))) (At w) f refl
  by_place n u k rec up e Done f = absurd (with_not_done u k e f)
  by_place n u k rec up e (Waiting j) f =
      let waits : is_waiting (c.course u).place j ≡ true = ap (λ p. is_waiting p j) f ∙ eq_self j in
      let d = (s.fits u j).waiting waits in
      let y = (s.fits u j).out (out_behind (is_in_line (c.custody j).line u) (is_free_lock (c.custody j).place) (c.custody j).left (is_first (c.custody j).line u) d.0 d.1) in
      let above = wants_above u j k e y.0 in
      rec u j (omega arith) waits

  by_lock : (n t k : ℕ) → Further n → length image.guards ≤ k + suc n → k < length image.guards → is_in_line (c.custody k).line t ≡ true → (p : LockPlace) → (c.custody k).place ≡ p → Goes image limits c
  by_lock n t k rec up lt i place.Free e = (let first = line_head (c.custody k).line t i in head_goes first.0 k lt (ap is_free_lock e) first.1)
  by_lock n t k rec up lt i (Granted u) e = granted_goes u k e
  by_lock n t k rec up lt i (Loose v) e = loose_goes v k lt (ap (λ p. is_loose p v) e ∙ eq_self v)
  by_lock n t k rec up lt i (With u) e = by_place n u k rec up e (c.course u).place refl

  -- it stands behind the first, and wants the lock
  waits_out : (t k : ℕ) → is_waiting (c.course t).place k ≡ true → (k < length image.guards) × (is_in_line (c.custody k).line t ≡ true)
  waits_out t k h =
      let b = (s.fits t k).waiting h in
      let o = (s.fits t k).out (out_behind (is_in_line (c.custody k).line t) (is_free_lock (c.custody k).place) (c.custody k).left (is_first (c.custody k).line t) b.0 b.1) in
      let wants = o.0 in
      (next_known image (c.machine.threads t) k wants.next, b.0)

  waits_goes : (n t k : ℕ) → length image.guards ≤ k + n → is_waiting (c.course t).place k ≡ true → Goes image limits c
  waits_goes zero t k up h = absurd (let b = waits_out t k h in let lt = b.0 in omega arith)
  waits_goes (suc n) t k up h = (let b = waits_out t k h in by_lock n t k (λ u j le w. waits_goes n u j le w) up b.0 b.1 (c.custody k).place refl)

  -- ---- all

  thread_goes : (t : ℕ) → t < length image.entries → (p : ThreadPlace) → (c.course t).place ≡ p → Goes image limits c ⊎ ((c.course t).place ≡ Done)
  thread_goes t lt Ready e = inl (free_goes t lt Ready e refl)
  thread_goes t lt (Waiting k) e = inl (waits_goes (length image.guards) t k (omega arith) (ap (λ p. is_waiting p k) e ∙ eq_self k))
  thread_goes t lt Parked e = inl (free_goes t lt Parked e refl)
  thread_goes t lt Done e = inr e
  thread_goes t lt (At w) e = inl (free_goes t lt (At w) e refl)

  abbrev Home : ℕ → Type 0
  Home k = ((c.custody k).place ≡ place.Free) × ((c.custody k).line ≡ [])

  lock_goes : ((t : ℕ) → t < length image.entries → (c.course t).place ≡ Done) → (k : ℕ) → k < length image.guards → (p : LockPlace) → (c.custody k).place ≡ p → Goes image limits c ⊎ Home k
  lock_goes all k lt place.Free e = by_line (c.custody k).line refl
    where
      by_line : (line : List ℕ) → (c.custody k).line ≡ line → Goes image limits c ⊎ Home k
      by_line [] l = inr (e, l)
      by_line (u ∷ us) l = inl (head_goes u k lt (ap is_free_lock e) (ap (λ x. is_first x u) l ∙ eq_self u))
  lock_goes all k lt (Granted u) e = inl (granted_goes u k e)
  lock_goes all k lt (With u) e = absurd (with_not_done u k e (all u (line_below image c k u s.lines (first_in (c.custody k).line u (with_first u k e)))))
  lock_goes all k lt (Loose v) e = inl (loose_goes v k lt (ap (λ p. is_loose p v) e ∙ eq_self v))

pub over_or_goes : (image : Shown) (limits : Limits) (c : Core) → Stands image limits c → 0 < limits.workers → length image.guards ≤ MAX_GUARDS → IsOver image c ⊎ Goes image limits c
over_or_goes image limits c s some few = by_threads (all_or (λ t. (c.course t).place ≡ Done) (length image.entries) (λ t lt. thread_goes image limits c s some few t lt (c.course t).place refl))
  where
    by_locks : ((t : ℕ) → t < length image.entries → (c.course t).place ≡ Done) → Goes image limits c ⊎ ((k : ℕ) → k < length image.guards → ((c.custody k).place ≡ place.Free) × ((c.custody k).line ≡ [])) → IsOver image c ⊎ Goes image limits c
    by_locks all (inl g) = inr g
    by_locks all (inr home) = inl (record { threads = all; ended = λ t lt. (let d = (s.seated t).done (all t lt) in d.status); locks = λ k lt. (home k lt).0; lines = λ k lt. (home k lt).1 })

    by_threads : Goes image limits c ⊎ ((t : ℕ) → t < length image.entries → (c.course t).place ≡ Done) → IsOver image c ⊎ Goes image limits c
    by_threads (inl g) = inr g
    by_threads (inr all) = by_locks all (all_or (λ k. ((c.custody k).place ≡ place.Free) × ((c.custody k).line ≡ [])) (length image.guards) (λ k lt. lock_goes image limits c s some few all k lt (c.custody k).place refl))
