-- What a commit makes of the machine: the block that it writes is the one that was sealed, and its locks are with its thread or loose.
use Rattle.std.proofs.Common.{◌≡◌, ◌≢◌, ℕ, zero, suc, ◌+◌, ◌-◌, ◌<◌, ◌==◌, ◌&&◌, not, Bool, true, false, if◌then◌else◌, List, [], ◌∷◌, ◌++◌, length, refl, sym, ap, ◌∙◌, subst, arith, eqb-true, Option, Some, None}
use Rattle.std.specs.Prelude.{is_some}
use Rattle.tc_isa.specs.Sets.{has}
use Rattle.tc_elf.specs.Shown.{Shown}
use Rattle.tc_journal.specs.Batch.{is_section}
use Rattle.tc_journal.specs.History.{of_thread}
use Rattle.tc_journal.specs.declared.block.Block.{Block}
use Rattle.tc_journal.specs.declared.block.Kind.{Kind}
use Rattle.tc_journal.specs.declared.block.Kind.TheVariants.{Start, On, Taken, Adopted, Granted as As_granted}
use Rattle.tc_turn.specs.Turn.{Thread, next_lock, no_thread}
use Rattle.tc_turn.proofs.Turns.{goes_on, next_known}
use Rattle.tc_mutex_spec.specs.Machine.{State}
use Rattle.tc_mutex_spec.specs.Blocks.{has_block, is_first, locks_of_block}
use Rattle.tc_segment.specs.View.{sealed_block}
use Rattle.tc_context.specs.View.{PackageView, bare, kind_of}
use Rattle.tc_queue.specs.declared.turn.Turn.{Turn}
use Rattle.tc_core.specs.Core.{Core, Limits, is_number, with_of}
use Rattle.tc_core.specs.Events.{custody_on, custody_past, effect, release_of}
use Rattle.tc_core.specs.Stories.{AreEnabled, after_all}
use Rattle.tc_core.specs.declared.event.Event.{Event}
use Rattle.tc_core.specs.declared.event.Event.TheVariants.{Commit, Turn as Turn_by}
use Rattle.tc_core.specs.declared.place.Custody.{Custody}
use Rattle.tc_core.specs.declared.place.Release.{Release}
use Rattle.tc_core.specs.declared.place.LockPlace.{LockPlace}
use Rattle.tc_core.specs.declared.place.LockPlace.TheVariants.{With, Loose}
use Rattle.tc_told.specs.Written.{Written, write, write_all}
use Rattle.tc_told.proofs.Custodies.{past_kept}
use Rattle.tc_told.proofs.Front.{block_on}
use Rattle.tc_told.proofs.Leads.{write_all-append}
use Rattle.tc_told.proofs.Ruled.{IsThreadAt, Ruled, on_turn, base_thread}
use Rattle.tc_told.proofs.Standing.{stand_of}
use Rattle.tc_hall.specs.declared.board.HallTerms.{HallTerms}
use Rattle.tc_hall.specs.declared.board.Knows.{Knows}
use Rattle.tc_hall.specs.Rule.{locks}
use Rattle.tc_hall.specs.Shown.{with_pass}
use Rattle.tc_hall.specs.Standing.{Standing, StandsAs, IsRunAs, standing_of, away, entered, granted as granted_at, held, loose, followed, closed}
use Rattle.tc_hall.specs.Order.{Operation, commit, MayDo}
use Rattle.tc_hall.specs.Ties.{RunsThrough, Shows, after_events, machine_limits, turns_by}
use Rattle.tc_hall.specs.Lift.{operation, events_of, start_of}
use Rattle.tc_hall.proofs.Cases as cases
use Rattle.tc_hall.proofs.Lifting.{lifting}
use Rattle.tc_hall.proofs.Moves as moves
use Rattle.tc_hall.proofs.Through.{IsPartway, last_event, partway, then_event}
use Rattle.tc_run.specs.Run.{beats_of, events_at, events_in, line_beats}
use Rattle.tc_run.proofs.Agree.{Agrees, Live, Run, Step, core_at, custody_at, first_in, given_first, hall_at, line_at, then_run, written_at, may_do}
use Rattle.tc_run.proofs.After.{core_then, steps_of, written_then}
use Rattle.tc_run.proofs.Hands.{core_is, kept_at, ruled_at, shown_at, stands_at}
use Rattle.tc_run.proofs.Lifting.{has_not, lifts_on, truth}
use Rattle.tc_run.proofs.Lifting as lifts
use Rattle.tc_told.proofs.Committed.{same_sets}
use Rattle.tc_law.proofs.Following.{first_is}

-- ---- turns

-- events behind others, from where those lead
enabled_after : (k : HallTerms) (c : Core) (xs ys : List Event) → AreEnabled k.image.value (machine_limits k) c (xs ++ ys) → AreEnabled k.image.value (machine_limits k) (after_events k c xs) ys
enabled_after k c [] ys on = on
enabled_after k c (x ∷ xs) ys on = enabled_after k (effect k.image.value c x) xs ys on.1

-- turns leave the next blocks and the history
turned : (image : Shown) (s : Written) (w t n : ℕ) → write_all image s (turns_by w t n) ≡ record { core = after_all image s.core (turns_by w t n); next = s.next; history = s.history }
turned image s w t zero = refl
turned image s w t (suc n) = turned image (write image s (Turn_by w t)) w t n

turns_ruled : (image : Shown) (limits : Limits) (fuel : ℕ) (base : State) (s : Written) (w t n : ℕ) (e : Event) → Ruled image limits fuel base s → AreEnabled image limits s.core (turns_by w t n ++ e ∷ [])
    → Ruled image limits fuel base (write_all image s (turns_by w t n))
turns_ruled image limits fuel base s w t zero e is on = is
turns_ruled image limits fuel base s w t (suc n) e is on = turns_ruled image limits fuel base (write image s (Turn_by w t)) w t n e (on_turn image limits fuel base s is w t on.0) on.1

-- the kind of a block that begins no section, by the thread's blocks before it
plain_kind : (kind : Kind) (h : List Block) (t : ℕ) → is_section kind ≡ false → is_first kind ≡ not (has_block h t) → kind ≡ kind_of None (of_thread h t)
plain_kind kind h t e f = by kind (of_thread h t) e (f ∙ sym (first_is h t (of_thread h t) refl))
  where
    by : (kind : Kind) (log : List Block) → is_section kind ≡ false → is_first kind ≡ is_first (kind_of None log) → kind ≡ kind_of None log
    by Start [] e f = refl
    by Start (x ∷ log) e f = absurd (cc f)
    by On [] e f = absurd (cc f)
    by On (x ∷ log) e f = refl
    by Taken log e f = absurd (cc e)
    by Adopted log e f = absurd (cc e)
    by As_granted log e f = absurd (cc e)

on_none : (o : Option ℕ) (t i : ℕ) (x : Custody) → ((lock : ℕ) → o ≡ Some lock → lock ≢ i) → custody_on o t i x ≡ x
on_none None t i x other = refl
on_none (Some lock) t i x other = by (i == lock) refl
  where
    by : (b : Bool) → (i == lock) ≡ b → (if b then record x { place = With t } else x) ≡ x
    by true e = absurd (other lock refl (sym (eqb-true i lock e)))
    by false e = refl

-- who has a lock that a block changes has it, or has released it
first_on : (o : Option ℕ) (t i : ℕ) (x : Custody) (us : List Turn) → given_first x.place x.left us ≡ first_in us → given_first (custody_on o t i x).place (custody_on o t i x).left us ≡ first_in us
first_on None t i x us e = e
first_on (Some lock) t i x us e = by (i == lock)
  where
    by : (b : Bool) → given_first (if b then record x { place = With t } else x).place (if b then record x { place = With t } else x).left us ≡ first_in us
    by true = refl
    by false = e

left_on : (o : Option ℕ) (t i : ℕ) (x : Custody) → (custody_on o t i x).left ≡ x.left
left_on None t i x = refl
left_on (Some lock) t i x = by (i == lock)
  where
    by : (b : Bool) → (if b then record x { place = With t } else x).left ≡ x.left
    by true = refl
    by false = refl

first_past : (w t : ℕ) (holds : Bool) (release : Option Release) (x : Custody) (us : List Turn) → x.left ≡ false → given_first x.place x.left us ≡ first_in us
    → given_first (custody_past w t holds release x).place (custody_past w t holds release x).left us ≡ first_in us
first_past w t holds release x us left e = by (is_number (with_of x.place) t && not holds)
  where
    by : (b : Bool) → given_first (if b then record x { place = Loose w; last = release } else x).place (if b then record x { place = Loose w; last = release } else x).left us ≡ first_in us
    by true = ap (λ (b : Bool). if b then [] else first_in us) left
    by false = e

module _ (k : HallTerms) (r : Run k) (a : Agrees k r) (m : Step k r) (stamp : ℕ) (b : Block) (q : PackageView) (is : m.made.operation ≡ commit stamp b q) where
  abbrev image : Shown
  image = k.image.value

  abbrev limits : Limits
  limits = machine_limits k

  abbrev v : Knows
  v = m.made.knew

  abbrev w : ℕ
  w = v.worker

  abbrev t : ℕ
  t = q.context.thread

  abbrev n : ℕ
  n = b.turns

  abbrev c : Core
  c = core_at k r

  -- the core after so many turns, and after all of the block
  abbrev through_to : ℕ → Core
  through_to j = after_events k c (turns_by w t j)

  abbrev mid : Core
  mid = through_to n

  abbrev next : Option ℕ
  next = next_lock image (c.machine.threads t)

  may : MayDo k (hall_at k r) m.made.pass v (commit stamp b q)
  may = may_do k r m (commit stamp b q) is

  live : Live k r m.made.pass v
  live = record { pass = m.may.pass; live = m.may.live }

  shown : Shows k (hall_at k r) c
  shown = shown_at k r a

  through : RunsThrough k w t n b.end c
  through = lifts.through k r a m.made.pass v live stamp b q may

  enabled : AreEnabled image limits c (turns_by w t n ++ Commit w t ∷ [])
  enabled =
      enabled_after k (start_of k) (events_in k r.order) (turns_by w t n ++ Commit w t ∷ [])
      (subst (λ (o : Operation). AreEnabled image limits (start_of k) (events_of (line_beats w o ++ operation m.made (events_at k c v o) ∷ beats_of k r.order))) is
      (lifting k r.first r.opens (beats_of k (m.made ∷ r.order)) (lifts_on k r a m)).enabled)

  part : (j : ℕ) → IsPartway image c t j (through_to j)
  part = partway image c t w shown.between

  some_turns : 0 < n
  some_turns = (let e = may.1.ran.bounds.some_turns in let same : may.1.ran.block.turns ≡ n = ap (λ (z : Block). z.turns) may.2 in omega (arith, e, same))

  -- ---- what was written, with the core named

  abbrev at : Written
  at = record { core = c; next = (written_at k r).next; history = (written_at k r).history }

  at_is : written_at k r ≡ at
  at_is = λ i. record { core = core_is k r i; next = (written_at k r).next; history = (written_at k r).history }

  abbrev base : State
  base = (ruled_at k r a).0

  ruled : Ruled image limits k.fuel base at
  ruled = subst (Ruled image limits k.fuel base) at_is (ruled_at k r a).1

  abbrev at_end : Written
  at_end = record { core = mid; next = at.next; history = at.history }

  ruled_end : Ruled image limits k.fuel base at_end
  ruled_end = subst (Ruled image limits k.fuel base) (turned image at w t n) (turns_ruled image limits k.fuel base at w t n (Commit w t) ruled enabled)

  written_is : written_at k (then_run k r m) ≡ write image at_end (Commit w t)
  written_is =
      written_then k m.made r.order
      ∙ (ap (λ (o : Operation). write_all image (written_at k r) (steps_of k c v o)) is
      ∙ (ap (λ (s : Written). write_all image s (turns_by w t n ++ Commit w t ∷ [])) at_is
      ∙ (write_all-append image (turns_by w t n) (Commit w t ∷ []) at ∙ ap (λ (s : Written). write image s (Commit w t)) (turned image at w t n))))

  core_after_it : core_at k (then_run k r m) ≡ effect image mid (Commit w t)
  core_after_it = core_then k m.made r.order ∙ (ap (λ (o : Operation). after_events k c (steps_of k c v o)) is ∙ then_event image (Turn_by w t) (Commit w t) n c)

  -- ---- the block

  runs_for : b.thread ≡ t
  runs_for = lifts.runs_for k r a m.made.pass v live stamp b q may

  in_block : (lock : ℕ) → next ≡ Some lock → has b.held lock ≡ true
  in_block = lifts.in_block k r a m.made.pass v live stamp b q may

  stands_run : (i : ℕ) → has b.held i ≡ true → IsRunAs b (standing_of i v.calls)
  stands_run = lifts.stands_run k r a m.made.pass v live stamp b q may

  base_is : base.threads t ≡ c.machine.threads t
  base_is = base_thread image limits k.fuel base at ruled t (shown.between t).0

  thread_at : IsThreadAt image at.history mid.custody t (mid.course t).held (at.next t).pc (base.threads t) (stand_of image base at_end t)
  thread_at = ruled_end.threads t

  began : 0 < (mid.course t).turns
  began = (let e = (part n).turns in let some = some_turns in omega (arith, e, some))

  held_by : (j : ℕ) → has (mid.course t).held j ≡ has b.held j
  held_by j = thread_at.locks began j ∙ (ap (λ (d : Thread). locks_of_block d.held (next_lock image d) j) base_is ∙ sym (lifts.held_before k r a m.made.pass v live stamp b q may j))

  section_kind : (lock : ℕ) → next ≡ Some lock → (at.next t).kind ≡ b.kind
  section_kind lock e = by (standing_of lock v.calls) refl (stands_run lock (in_block lock e))
    where
      below : lock < locks k
      below = next_known image (c.machine.threads t) lock e

      by : (s : Standing) → StandsAs v lock s → IsRunAs b s → (at.next t).kind ≡ b.kind
      by (granted_at u kind) stands runs = (let so = truth k r a m.made.pass v live lock (granted_at u kind) below stands in ap (λ (z : ℕ). (at.next z).kind) (sym runs_for ∙ sym runs.0) ∙ (so.3 ∙ sym runs.1))
      by (held u) stands runs = (let so = truth k r a m.made.pass v live lock (held u) below stands in absurd (has_not image c t lock shown.between (stands_at k r a).tracks (so.0 ∙ ap (λ (z : ℕ). With z) (runs ∙ runs_for)) e))
      by away stands runs = absurd runs
      by (entered u before) stands runs = absurd runs
      by (loose u) stands runs = absurd runs
      by (followed u x) stands runs = absurd runs
      by (closed u) stands runs = absurd runs

  kind_is : (o : Option ℕ) → next ≡ o → (at.next t).kind ≡ b.kind
  kind_is (Some lock) e = section_kind lock e
  kind_is None e =
      let first_is : next_lock image (base.threads t) ≡ None = ap (λ (d : Thread). next_lock image d) base_is ∙ e in
      let none : is_section (at.next t).kind ≡ false = thread_at.section began ∙ ap is_some first_is in
      let plain : is_section may.1.ran.block.kind ≡ false = may.1.ran.section ∙ ap is_some (lifts.next_is k r a m.made.pass v live stamp b q may ∙ e) in
      let o = moves.is_out k (hall_at k r) (kept_at k r) m.made.pass t v (bare may.1.before) live.pass may.1.has in
      let log : may.1.before.log ≡ of_thread at.history t = a.written.logs t (bare may.1.before) o.0 (with_pass m.made.pass v live.pass may.1.has) in
      plain_kind (at.next t).kind at.history t none (thread_at.starts none)
      ∙ (ap (λ (h : List Block). kind_of None h) (sym log) ∙ (sym (may.1.ran.first plain) ∙ ap (λ (z : Block). z.kind) may.2))

  abbrev block : Block
  block = record { stamp = length at.history; thread = t; turns = (mid.course t).turns; held = (mid.course t).held; kind = (at.next t).kind; worker = w; pc = (at.next t).pc; end = b.end }

  stamp_is : length at.history ≡ stamp
  stamp_is = sym a.written.clock ∙ may.0

  pc_is : (at.next t).pc ≡ b.pc
  pc_is = thread_at.from ∙ (ap (λ (d : Thread). d.regs.pc) (base_is ∙ lifts.from_before k r a m.made.pass v live stamp b q may) ∙ (sym may.1.ran.pc ∙ ap (λ (z : Block). z.pc) may.2))

  same_block : block ≡ sealed_block stamp w b
  same_block =
      let held_is = same_sets (mid.course t).held b.held held_by in
      let kind : (at.next t).kind ≡ b.kind = kind_is next refl in
      λ i. record { stamp = stamp_is i; thread = sym runs_for i; turns = (part n).turns i; held = held_is i; kind = kind i; worker = w; pc = pc_is i; end = b.end }

  pub history_is : (written_at k (then_run k r m)).history ≡ (written_at k r).history ++ sealed_block stamp w b ∷ []
  history_is = ap (λ (s : Written). s.history) written_is ∙ (ap (block_on at.history w t (at.next t) (mid.course t)) through.ends ∙ ap (λ (z : Block). at.history ++ z ∷ []) same_block)

  -- ---- the locks

  later_none : (j : ℕ) → suc j < n → next_lock image ((through_to (suc j)).machine.threads t) ≡ None
  later_none j lt = ap (λ (x : State). next_lock image (x.threads t)) (part (suc j)).machine ∙ (goes_on no_thread _ (j + 1) _ (sym (part (suc j)).ended ∙ through.goes_on (suc j) lt)).0

  -- only the first turn takes a lock
  taken_first : (j : ℕ) → j < n → (i : ℕ) → (through_to (suc j)).custody i ≡ custody_on next t i (c.custody i)
  unfolding effect
  taken_first zero lt i = refl
  taken_first (suc j) lt i =
      ap (λ (x : Core). x.custody i) (last_event image (Turn_by w t) (suc j) c)
      ∙ (ap (λ (o : Option ℕ). custody_on o t i ((through_to (suc j)).custody i)) (later_none j lt) ∙ taken_first j (omega (arith, lt)) i)

  taken_is : (i : ℕ) → mid.custody i ≡ custody_on next t i (c.custody i)
  taken_is i = (let some = some_turns in let whole : suc (n - 1) ≡ n = omega (arith, some) in subst (λ (z : ℕ). (through_to z).custody i ≡ custody_on next t i (c.custody i)) whole (taken_first (n - 1) (omega (arith, some)) i))

  pub custody_is : (i : ℕ) → custody_at k (then_run k r m) i ≡ custody_past w t ((mid.machine.threads t).held i) (release_of (mid.course t)) (custody_on next t i (c.custody i))
  unfolding effect
  custody_is i = ap (λ (x : Core). x.custody i) core_after_it ∙ ap (custody_past w t ((mid.machine.threads t).held i) (release_of (mid.course t))) (taken_is i)

  -- a lock that the block had not is as it was
  pub custody_else : (i : ℕ) → has b.held i ≡ false → custody_at k (then_run k r m) i ≡ c.custody i
  custody_else i out =
      let without : is_number (with_of (mid.custody i).place) t ≡ false = sym (ruled_end.tracks.with t i) ∙ (held_by i ∙ out) in
      let other : custody_on next t i (c.custody i) ≡ c.custody i = on_none next t i (c.custody i) (λ lock e same. cases.apart (has b.held i) out (ap (has b.held) (sym same) ∙ in_block lock e)) in
      custody_is i
      ∙ (past_kept w t ((mid.machine.threads t).held i) (release_of (mid.course t)) (custody_on next t i (c.custody i)) (ap (λ (x : Custody). is_number (with_of x.place) t) (sym (taken_is i)) ∙ without) ∙ other)

  -- who has a lock of the block has it after it, or has released it
  pub given_still : (i : ℕ) → i < locks k → has b.held i ≡ true → given_first (c.custody i).place (c.custody i).left (line_at k r i) ≡ given_first (custody_at k (then_run k r m) i).place (custody_at k (then_run k r m) i).left (line_at k r i)
  given_still i below e = by (standing_of i v.calls) refl (stands_run i e)
    where
      so_first : (c.custody i).left ≡ false → given_first (c.custody i).place (c.custody i).left (line_at k r i) ≡ first_in (line_at k r i)
          → given_first (c.custody i).place (c.custody i).left (line_at k r i) ≡ given_first (custody_at k (then_run k r m) i).place (custody_at k (then_run k r m) i).left (line_at k r i)
      so_first left first =
          first
          ∙ sym (ap (λ (x : Custody). given_first x.place x.left (line_at k r i)) (custody_is i)
          ∙ first_past w t ((mid.machine.threads t).held i) (release_of (mid.course t)) (custody_on next t i (c.custody i)) (line_at k r i) (left_on next t i (c.custody i) ∙ left) (first_on next t i (c.custody i) (line_at k r i) first))

      by : (s : Standing) → StandsAs v i s → IsRunAs b s → given_first (c.custody i).place (c.custody i).left (line_at k r i) ≡ given_first (custody_at k (then_run k r m) i).place (custody_at k (then_run k r m) i).left (line_at k r i)
      by (granted_at u kind) stands runs = (let so = truth k r a m.made.pass v live i (granted_at u kind) below stands in so_first so.1 (ap (λ (p : LockPlace). given_first p (c.custody i).left (line_at k r i)) so.0))
      by (held u) stands runs = (let so = truth k r a m.made.pass v live i (held u) below stands in so_first so.1 (ap (λ (p : LockPlace). given_first p (c.custody i).left (line_at k r i)) so.0))
      by away stands runs = absurd runs
      by (entered u before) stands runs = absurd runs
      by (loose u) stands runs = absurd runs
      by (followed u x) stands runs = absurd runs
      by (closed u) stands runs = absurd runs
