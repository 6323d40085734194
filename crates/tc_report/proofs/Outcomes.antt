-- What a run leaves is what its history leads to.
use Rattle.std.proofs.Common.{◌≡◌, ℕ, ◌<◌, ◌++◌, List, map, length, refl, sym, ap, ◌∙◌, subst, append_assoc, arith}
use Rattle.std.specs.Prelude.{All}
use Rattle.std.specs.List.{range_with_len}
use Rattle.std.proofs.lemmas.List.{length-map}
use mathlib.Core.Option.{some}
use lib.ListN.{get_elem?}
use Rattle.tc_isa.specs.declared.options.Options.{Options}
use Rattle.atomic_table.proofs.Lists.{at_map}
use Rattle.tc_elf.specs.Shown.{Shown, guard_at}
use Rattle.tc_journal.specs.Batch.{PassesOn}
use Rattle.tc_journal.specs.Handing.{Delegates}
use Rattle.tc_journal.specs.History.{of_lock}
use Rattle.tc_journal.specs.Line.{history_text}
use Rattle.tc_journal.specs.declared.block.Block.{Block}
use Rattle.tc_turn.specs.Turn.{mutex_at_start}
use Rattle.tc_turn.specs.Replay.{Entry, unowned, replayed, AreReplayed}
use Rattle.tc_mutex_spec.specs.Machine.{State, start}
use Rattle.tc_mutex_spec.specs.Blocks.{IsComplete, end_after}
use Rattle.tc_mutex_spec.specs.Entries.{HasJournal, entries_by}
use Rattle.tc_mutex_spec.proofs.Entries.{entries_blocks}
use Rattle.tc_segment.specs.View.{LockView, IsSoundLock, IsStrict, block_in, blocks_of, kept, lock_of, with_closed}
use Rattle.tc_context.specs.Whole.{thread_in}
use Rattle.tc_context.specs.View.{PackageView, bare}
use Rattle.tc_law.specs.Lawful.{IsStateAfter, Lawful, AreStrict}
use Rattle.tc_mutex_spec.proofs.ListLaws.{there}
use Rattle.tc_report.specs.Legal.{finished_in, guarded_in, results_after, IsLegalRun}
use Rattle.tc_report.specs.Outcome.{IsOutcome}
use Rattle.tc_report.specs.Report.{finished_of, guarded_of, package_text, state_text, packages_text, states_text, thread_text, lock_text, threads_text, locks_text, last_line, head_text, tail_text, report_text}
use Rattle.tc_report.specs.Summary.{demo_line, blocks_line, end_line, ends_text, packages_ends, summary_text}
use Rattle.tc_report.proofs.Ranges.{text_by_number}
use Rattle.tc_lemmas.proofs.Lists.{something_at}

-- where the law holds and each thread has ended, the packages and lock states are the outcome
pub outcome : (image : Shown) (o : Options) (h : List Block) (packages : List PackageView) (states : List LockView) → Lawful image o.fuel o.limit h (map bare packages) (map kept states)
    → IsComplete image (end_after image o.fuel h) → IsOutcome image o.fuel h packages states
outcome image o h packages states law complete = record {
  all_packages = sym (length-map packages bare) ∙ law.all_packages;
  all_states = sym (length-map states kept) ∙ law.all_states;
  packages_after = λ t p e. law.packages_after t (bare p) (at_map bare packages t p e);
  states_after = λ k l e.
      let after = law.states_after k (kept l) (at_map kept states k l e) in
      subst (λ n. IsStateAfter image o.fuel n h k (kept l)) (sym after.follows.bound) after;
  complete = complete;
}

-- the outcome is told as the machine has it
module _ (image : Shown) (fuel : ℕ) (h : List Block) (packages : List PackageView) (states : List LockView) (is : IsOutcome image fuel h packages states) where
  abbrev last : State
  last = end_after image fuel h

  thread_is : (t : ℕ) (p : PackageView) → get_elem? packages t ≡ some p → finished_of p ≡ finished_in last t
  thread_is t p e =
      let thread : thread_in p.context ≡ last.threads t = (is.packages_after t p e).follows.thread in
      λ i. record { status = (thread i).status; fuel = (thread i).fuel; regs = (thread i).regs }

  lock_is : (k : ℕ) (l : LockView) → get_elem? states k ≡ some l → guarded_of (guard_at image k).start l ≡ guarded_in image last k
  lock_is k l e =
      let lock : lock_of l ≡ unowned (last.locks k) = (is.states_after k l e).follows.lock in
      λ i. record { start = (guard_at image k).start; bytes = (lock i).bytes; broken = (lock i).broken; sections = (lock i).sections }

  threads_told : packages_text packages ≡ threads_text (results_after image fuel h).threads
  threads_told =
      text_by_number package_text thread_text (finished_in last) 0 packages (λ i j p e s. let same : j ≡ i = omega (arith, s) in ap (λ x. thread_text (j, x)) (thread_is j p (ap (get_elem? packages) same ∙ e)))
      ∙ ap (λ n. threads_text (map (finished_in last) (range_with_len 0 n))) is.all_packages

  locks_told : states_text image states ≡ locks_text (results_after image fuel h).locks
  locks_told =
      text_by_number (state_text image) lock_text (guarded_in image last) 0 states (λ i j l e s. let same : j ≡ i = omega (arith, s) in ap (λ x. lock_text (j, x)) (lock_is j l (ap (get_elem? states) same ∙ e)))
      ∙ ap (λ n. locks_text (map (guarded_in image last) (range_with_len 0 n))) is.all_states

  ends_told : packages_ends packages ≡ ends_text (results_after image fuel h).threads
  ends_told =
      text_by_number (λ (p : ℕ × PackageView). end_line (p.0, finished_of p.1)) end_line (finished_in last) 0 packages (λ i j p e s. let same : j ≡ i = omega (arith, s) in ap (λ x. end_line (j, x)) (thread_is j p (ap (get_elem? packages) same ∙ e)))
      ∙ ap (λ n. ends_text (map (finished_in last) (range_with_len 0 n))) is.all_packages

  -- so the report is the text over them
  pub told : (o : Options) → report_text image o (results_after image fuel h) ≡ head_text image o ++ history_text h ++ tail_text image packages states
  unfolding report_text
  told o =
      let front = head_text image o ++ history_text h in
      let threads = packages_text packages in
      let locks = states_text image states in
      (λ i. front ++ sym threads_told i ++ sym locks_told i ++ last_line)
      ∙ append_assoc (front ++ threads) locks last_line
      ∙ append_assoc front threads (locks ++ last_line)
      ∙ ap (λ tail. front ++ tail) (sym (append_assoc threads locks last_line))

  -- and so is the summary
  pub summed : (rounds : ℕ) → summary_text rounds (results_after image fuel h)
      ≡ demo_line rounds ++ blocks_line h ++ packages_ends packages ++ states_text image states ++ last_line
  unfolding summary_text
  summed rounds i = demo_line rounds ++ blocks_line h ++ sym ends_told i ++ sym locks_told i ++ last_line

-- a lock state that is sound, after the history
module _ (image : Shown) (fuel limit : ℕ) (h : List Block) (k : ℕ) (l : LockView) (after : IsStateAfter image fuel limit h k (kept l)) (sound : IsSoundLock l) (strict : IsStrict l) where
  number : l.number ≡ k
  number = after.follows.number

  of : l.journal.image ≡ image
  of = after.follows.of

  blocks_are : blocks_of l ≡ of_lock h k
  blocks_are = ap (map block_in) after.follows.entries ∙ entries_blocks image k (start image fuel) h

  all_entries : with_closed l.journal.sealed l.journal.closed ≡ entries_by image fuel h k
  all_entries = ap (with_closed l.journal.sealed) after.closed ∙ after.follows.entries

  pub passes_on : PassesOn k (of_lock h k)
  passes_on = subst (λ (x : ℕ × List Block). PassesOn x.0 x.1) (λ i. (number i, blocks_are i)) (sound.passes strict)

  pub has_journal : HasJournal image fuel h (end_after image fuel h) k
  has_journal = record {
    blocks = entries_blocks image k (start image fuel) h;
    replays = subst (λ (x : Shown × ℕ × List Entry). AreReplayed x.0 x.1 (mutex_at_start x.0 x.1) x.2) (λ i. (of i, number i, all_entries i)) sound.replays;
    end = sym (sym after.follows.lock ∙ sound.rest after.opened ∙ (λ i. replayed (of i) (number i) (mutex_at_start (of i) (number i)) (all_entries i)));
  }

-- the history of an outcome whose lock states are sound is that of a legal run
module _ (image : Shown) (o : Options) (h : List Block) (packages : List PackageView) (states : List LockView) (law : Lawful image o.fuel o.limit h (map bare packages) (map kept states))
    (complete : IsComplete image (end_after image o.fuel h)) (workers : All (λ (b : Block). b.worker < o.workers) h) (all_sound : All IsSoundLock states) (all_strict : AreStrict states)
    (delegates : Delegates h) where
  record IsSoundState (k : ℕ) : Type 0 where
    pub state : LockView
    pub after : IsStateAfter image o.fuel o.limit h k (kept state)
    pub sound : IsSoundLock state
    pub strict : IsStrict state

  state_of : (k : ℕ) → k < length image.guards → IsSoundState k
  state_of k lt =
      let count : length states ≡ length image.guards = sym (length-map states kept) ∙ law.all_states in
      let here = something_at states k (omega (arith, count)) in
      let place = there states k here.0 here.0 here.1 in
      record { state = here.0; after = law.states_after k (kept here.0) (at_map kept states k here.0 here.1); sound = subst IsSoundLock place.1 (all_sound k here.0 place.0); strict = all_strict k here.0 here.1 }

  pub legal : IsLegalRun image o (results_after image o.fuel h)
  legal = record {
    last = end_after image o.fuel h;
    history = law.history;
    tells = law.tells;
    complete = complete;
    workers = workers;
    obeys = λ k lt. law.obeys k;
    passes = λ k lt. let s = state_of k lt in passes_on image o.fuel o.limit h k s.state s.after s.sound s.strict;
    handed = delegates.handed;
    runs_on = delegates.runs_on;
    stays = delegates.stays;
    journals = λ k lt. let s = state_of k lt in has_journal image o.fuel o.limit h k s.state s.after s.sound s.strict;
    threads = refl;
    locks = refl;
  }
