-- A package's block at the end of a history, with its log and its journals.
use Rattle.std.proofs.Common.{◌≡◌, ◌≢◌, ℕ, ◌-◌, Bool, true, false, not, List, [], ◌∷◌, ◌++◌, map, length, set, refl, sym, ap, subst, ◌∙◌, arith, inl, inr, length-append}
use Rattle.std.specs.Prelude.{Some, None, IfSome, is_some, if◌then◌else◌}
use Rattle.std.specs.Option.{option_map}
use Rattle.std.proofs.lemmas.List.{append-nil}
use Rattle.std.proofs.lemmas.List.Elements.{filter-append}
use Rattle.tc_journal.proofs.Batching.{obeys-more, passes-more}
use Rattle.tc_isa.specs.Sets.{has}
use Rattle.tc_elf.specs.Shown.{Shown}
use Rattle.tc_journal.specs.Batch.{ends_section, last_of, may_follow, passes_on, Obeys, PassesOn}
use Rattle.tc_journal.specs.History.{schedule, of_thread, of_lock}
use Rattle.tc_journal.specs.declared.block.Block.{Block}
use Rattle.tc_journal.proofs.Rows.{own_more, other_more}
use Rattle.tc_turn.specs.Turn.{Thread, next_lock}
use Rattle.tc_turn.specs.Replay.{Entry, unowned}
use Rattle.tc_mutex_spec.specs.Machine.{State, start, spread, IsHeldByOwner}
use Rattle.tc_mutex_spec.specs.Locality.{Agree, Apart}
use Rattle.tc_mutex_spec.specs.Blocks.{locks_of_block, Runs, Stands, is_first, has_block, Tells}
use Rattle.tc_mutex_spec.specs.Entries.{entry_of, with_front, entries_by}
use Rattle.tc_mutex_spec.proofs.BlocksAlike.{covers_block, runs_apart}
use Rattle.tc_mutex_spec.proofs.Entries.{entries_more, entries_blocks, seen_none, seen_some}
use Rattle.tc_mutex_spec.proofs.Folding.{run_from-is-turns, tells-more, tells-run}
use Rattle.tc_mutex_spec.proofs.Holds.{holds_turns, holds_start}
use Rattle.tc_mutex_spec.proofs.Owners.{no_owner}
use Rattle.tc_segment.specs.View.{LockView, IsStrict, Journal, kept, lock_of, block_in, blocks_of, with_journal, sealed_block, sealed_list, sealed_as}
use Rattle.tc_context.specs.Locks.{EachLock, lock_in, mutex_or}
use Rattle.tc_context.specs.Whole.{thread_in, mutex_at, whole, set_of, journal_in, journal_at, block_locks, entered}
use Rattle.tc_context.specs.View.{PackageView, kind_of, waiting_in, Allows, sealed_log, with_seal}
use Rattle.tc_context.specs.Ran.{DidRun}
use Rattle.tc_law.specs.History.{ThreadFollows, StateFollows, Follows, Grows}
use Rattle.tc_context.proofs.Moved.{map_some}
use Rattle.tc_mutex_spec.proofs.Going.{in_block}
use Rattle.tc_context.proofs.Partway.{block_inside}
use Rattle.tc_context.proofs.Staging.{both_ways, some_of, closed_none}
use Rattle.tc_context.proofs.Running.{entered_rest, block_follows, block_passes, sealed_at}
use Rattle.tc_mutex_spec.proofs.EntriesAlike.{entry_same}

pub first_is : (h : List Block) (t : ℕ) (log : List Block) → of_thread h t ≡ log → is_first (kind_of None log) ≡ not (has_block h t)
first_is h t [] e = ap not (sym (seen_none h t e))
first_is h t (b ∷ log) e = ap not (sym (seen_some h t b log e))

-- the entries of a lock that is none of the block stay
entries_still : (image : Shown) (fuel : ℕ) (h : List Block) (m : State) (b : Block) (k : ℕ) → Tells image fuel h m → has b.held k ≡ false → entries_by image fuel (h ++ b ∷ []) k ≡ entries_by image fuel h k
entries_still image fuel h m b k told out =
    entries_more image k [] h (start image fuel) m b told
    ∙ ap (λ v. entries_by image fuel h k ++ with_front v (entry_of image k m b) []) out
    ∙ append-nil (entries_by image fuel h k)

pub set_last : (xs : List Block) (x y : Block) → set (xs ++ x ∷ []) (length xs) y ≡ xs ++ y ∷ []
set_last [] x y = refl
set_last (z ∷ xs) x y = ap (λ l. z ∷ l) (set_last xs x y)

set_end : (xs : List Block) (x y : Block) → set (xs ++ x ∷ []) (length (xs ++ x ∷ []) - 1) y ≡ xs ++ y ∷ []
set_end xs x y = ap (λ n. set (xs ++ x ∷ []) n y) (let e : length (xs ++ x ∷ []) - 1 ≡ length xs = omega (arith, length-append xs (x ∷ [])) in e) ∙ set_last xs x y

pub holds_told : (image : Shown) (fuel : ℕ) (h : List Block) (m : State) → Tells image fuel h m → IsHeldByOwner m
holds_told image fuel h m told = holds_turns image (spread (schedule h)) (start image fuel) m (holds_start image fuel) (sym (run_from-is-turns image (start image fuel) (schedule h)) ∙ tells-run image [] h (start image fuel) m told)

-- the sealed blocks of a lock state are those of the history
pub blocks_are : (image : Shown) (fuel limit : ℕ) (h : List Block) (m : State) (k : ℕ) (l : LockView) → StateFollows image fuel limit h m k l → blocks_of l ≡ of_lock h k
blocks_are image fuel limit h m k l was = ap (map block_in) was.entries ∙ entries_blocks image k (start image fuel) h

-- what a seal makes of a journal that has the block's entry, where nothing else waits
sealed_more : (v : Bool) (stamp worker : ℕ) (i j : Journal) (e : Entry) → i ≡ entered v e j → (v ≡ false → i.closed ≡ None)
    → (sealed_as stamp worker i).sealed ≡ j.sealed ++ with_front v (record { block = sealed_block stamp worker e.block; start = e.start; fuel = e.fuel; finish = e.finish; foreign = e.foreign }) []
sealed_more true stamp worker i j e is none = ap (λ (x : Journal). (sealed_as stamp worker x).sealed) is
sealed_more false stamp worker i j e is none = ap (sealed_list stamp worker i.sealed) (none refl) ∙ ap (λ (x : Journal). x.sealed) is ∙ sym (append-nil j.sealed)

-- a lock state that is in the package after the block, as it was before it
record Before (image : Shown) (p : PackageView) (b : Block) (k : ℕ) (l : LockView) : Type 0 where
  pub state : LockView
  pub there : lock_in p.context.locks k ≡ Some state
  pub journal : l.journal ≡ entered (has b.held k) (entry_of image k (whole p.context) b) state.journal

was_before : (image : Shown) (p v : PackageView) (ran : DidRun image p v) (k : ℕ) (l : LockView) → lock_in v.context.locks k ≡ Some l → Before image p ran.block k l
was_before image p v ran k l e =
    let b = ran.block in
    let y = map_some (entered (has b.held k) (entry_of image k (whole p.context) b)) (journal_at p.context k) l.journal (sym (ran.journals.entries k) ∙ ap (option_map journal_in) e) in
    let z = map_some journal_in (lock_in p.context.locks k) y.0 y.1 in
    record { state = z.0; there = z.1; journal = y.2 ∙ ap (entered (has b.held k) (entry_of image k (whole p.context) b)) z.2 }

-- a block keeps strict lock states strict
pub strict_still : (image : Shown) (p v : PackageView) → DidRun image p v → EachLock (λ k l. IsStrict l) p.context.locks → EachLock (λ k l. IsStrict l) v.context.locks
strict_still image p v ran strict k l e =
    let x = was_before image p v ran k l e in
    ap (λ (j : Journal). j.strict) x.journal ∙ (entered_rest (has ran.block.held k) (entry_of image k (whole p.context) ran.block) x.state.journal).2 ∙ strict k x.state x.there

module _ (image : Shown) (fuel limit : ℕ) (h : List Block) (m : State) (p v : PackageView) (was : Follows image fuel limit h m p) (ran : DidRun image p v) where
  abbrev t : ℕ
  t = p.context.thread

  abbrev b : Block
  b = ran.block

  before : (k : ℕ) (l : LockView) → lock_in v.context.locks k ≡ Some l → Before image p b k l
  before = was_before image p v ran

  follows_before : (k : ℕ) (l : LockView) (x : Before image p b k l) → StateFollows image fuel limit h m k x.state
  follows_before k l x = was.states k x.state x.there

  here : (k : ℕ) → block_locks image p.context k ≡ true → set_of p.context k ≡ true
  here = block_inside image (set_of p.context) (thread_in p.context) ran.covers

  -- nothing waits in a lock that isn't of the block
  none_waits : (k : ℕ) (l : LockView) → lock_in v.context.locks k ≡ Some l → has b.held k ≡ false → l.journal.closed ≡ None
  none_waits k l e out = closed_none l.journal.closed ((ran.sound.stored k l e).closed ∙ ap (λ o. waiting_in o k) ran.pending ∙ ap (λ x. if x then Some b else None) out)

  module _ (told : Tells image fuel h m) where
    -- a lock of the block is owned where the package has it as held
    owner_there : (k : ℕ) (l : LockView) → lock_in p.context.locks k ≡ Some l → block_locks image p.context k ≡ true → (w : Bool) → has p.context.guest.held k ≡ w → (m.locks k).owner ≡ (if w then Some t else None)
    owner_there k l e mine true held = (holds_told image fuel h m told t k).0 (ap (λ (d : Thread). d.held k) (sym was.thread.thread) ∙ held)
    owner_there k l e mine false free =
        let next : next_lock image (thread_in p.context) ≡ Some k = elim (in_block (has p.context.guest.held) (next_lock image (thread_in p.context)) k mine) [ inl before ↦ absurd (both_ways _ free before) | inr took ↦ took ] in
        no_owner image fuel h m k told (subst (λ bs. IfSome (last_of bs) (λ x. ends_section k x ≡ true)) (blocks_are image fuel limit h m k l (was.states k l e)) (ran.rests k l next e))

    lock_there : (k : ℕ) → block_locks image p.context k ≡ true → mutex_at p.context k ≡ m.locks k
    lock_there k mine =
        let l = some_of (lock_in p.context.locks k) (here k mine) in
        let s = was.states k l.0 l.1 in
        let o = owner_there k l.0 l.1 mine (has p.context.guest.held k) refl in
        ap (mutex_or t (has p.context.guest.held k)) l.1 ∙ (λ i. record { bytes = (s.lock i).bytes; broken = (s.lock i).broken; sections = (s.lock i).sections; owner = sym o i })

    pub agree : Agree t (block_locks image p.context) (whole p.context) m
    agree = record { thread = was.thread.thread; locks = lock_there }

    abbrev run : (to : State) × (Runs image m t b.turns b.end to) × (Agree t (block_locks image p.context) (whole v.context) to) × (Apart t (block_locks image p.context) m to)
    run = ran.runs.block m agree

    abbrev to : State
    to = run.0

    -- the package alone and the machine give the block the same entry
    same_entry : (k : ℕ) → entry_of image k (whole p.context) b ≡ entry_of image k m b
    same_entry k =
        let alone = ran.runs.block (whole p.context) (record { thread = refl; locks = λ j in_set. refl }) in
        entry_same image k (block_locks image p.context) (whole p.context) m alone.0 b
        (subst (λ u. Runs image (whole p.context) u b.turns b.end alone.0) (sym ran.thread) alone.1) (covers_block image (thread_in p.context))
        (subst (λ u. Agree u (block_locks image p.context) (whole p.context) m) (sym ran.thread) agree)

    module _ (stamp worker : ℕ) where
      abbrev c : Block
      c = sealed_block stamp worker b

      runs : Runs image m c.thread c.turns c.end to
      runs = subst (λ u. Runs image m u b.turns b.end to) (sym ran.thread) run.1

      d : thread_in p.context ≡ m.threads c.thread
      d = was.thread.thread ∙ ap m.threads (sym ran.thread)

      held : (k : ℕ) → has c.held k ≡ locks_of_block (m.threads c.thread).held (next_lock image (m.threads c.thread)) k
      held k = ran.held k ∙ ap (λ (x : Thread). locks_of_block x.held (next_lock image x) k) d

      stands : Stands image h m c to
      stands = record {
        runs = runs;
        held = held;
        pc = ran.pc ∙ ap (λ (x : Thread). x.regs.pc) d;
        section = ran.section ∙ ap (λ (x : Thread). is_some (next_lock image x)) d;
        first = λ out. ap is_first (ran.first out) ∙ first_is h c.thread p.log (ap (of_thread h) ran.thread ∙ sym was.thread.log);
      }

      pub grows : Grows image fuel h m c to
      grows = (let apart = runs_apart image m to c.thread c.turns c.end runs in record {
        tells = tells-more image [] h _ m to c told stands;
        runs = runs;
        threads = apart.threads;
        logs = λ u ne. other_more (λ (d : Block). d.thread) h c u (λ e. ne (sym e));
        locks = λ k out. apart.locks k (sym (held k) ∙ out);
        entries = λ k out. entries_still image fuel h m c k told out;
      })

      log_is : (with_seal stamp worker v).log ≡ of_thread (h ++ c ∷ []) v.context.thread
      log_is =
          ap (sealed_log stamp worker v.log) ran.pending ∙ ap (λ l. set l (length l - 1) c) ran.log ∙ set_end p.log b c
          ∙ ap (λ l. l ++ c ∷ []) (was.thread.log ∙ ap (of_thread h) (sym ran.thread)) ∙ sym (own_more (λ (d : Block). d.thread) h c) ∙ ap (of_thread (h ++ c ∷ [])) (ran.thread ∙ sym ran.runs.keeps.thread)

      lock_after : (k : ℕ) (l : LockView) → lock_in v.context.locks k ≡ Some l → (w : Bool) → has b.held k ≡ w → lock_of l ≡ unowned (to.locks k)
      lock_after k l e true mine = ap (λ o. unowned (mutex_or v.context.thread (has v.context.guest.held k) o)) (sym e) ∙ ap unowned (run.2.locks k (sym (ran.held k) ∙ mine))
      lock_after k l e false out =
          let x = before k l e in
          ap (λ o. unowned (mutex_or v.context.thread (has v.context.guest.held k) o)) (sym e) ∙ ap unowned (ran.runs.others k (sym (ran.held k) ∙ out))
          ∙ ap (λ o. unowned (mutex_or t (has p.context.guest.held k) o)) x.there ∙ (follows_before k l x).lock ∙ ap unowned (sym (grows.locks k out))

      state_after : (k : ℕ) (l : LockView) → lock_in v.context.locks k ≡ Some l → StateFollows image fuel limit (h ++ c ∷ []) to k (with_journal (sealed_as stamp worker) l)
      state_after k l e =
          let x = before k l e in
          let s = ran.sound.stored k l e in
          record {
            of = s.of ∙ ran.image_is ∙ was.thread.of;
            number = s.number;
            lock = lock_after k l e (has b.held k) refl;
            entries = sealed_more (has b.held k) stamp worker l.journal x.state.journal (entry_of image k (whole p.context) b) x.journal (none_waits k l e)
                ∙ (λ i. (follows_before k l x).entries i ++ with_front (has c.held k) (record (same_entry k i) { block = c }) []) ∙ sym (entries_more image k [] h (start image fuel) m c told);
            bound = ap (λ (j : Journal). j.limit) x.journal ∙ (entered_rest (has b.held k) (entry_of image k (whole p.context) b) x.state.journal).1 ∙ (follows_before k l x).bound;
          }

      pub follows_more : Follows image fuel limit (h ++ c ∷ []) to (with_seal stamp worker v)
      follows_more = record {
        thread = record { of = ran.image_is ∙ was.thread.of; number = refl; thread = run.2.thread ∙ ap to.threads (sym ran.runs.keeps.thread); log = log_is };
        states = λ k l e.
            (let x = map_some (with_journal (sealed_as stamp worker)) (lock_in v.context.locks k) l (sym (sealed_at stamp worker v.context.locks k) ∙ e) in
            subst (StateFollows image fuel limit (h ++ c ∷ []) to k) (sym x.2) (state_after k x.0 x.1));
      }

  -- the blocks of a lock in the package are those of the history
  blocks_there : (k : ℕ) (l : LockView) → lock_in v.context.locks k ≡ Some l → blocks_of l ≡ of_lock h k
  blocks_there k l e =
      let x = before k l e in
      ap (λ (j : Journal). map block_in j.sealed) x.journal ∙ ap (map block_in) (entered_rest (has b.held k) (entry_of image k (whole p.context) b) x.state.journal).0 ∙ blocks_are image fuel limit h m k x.state (follows_before k l x)

  -- the history obeys the batch limit with the block at its end
  obeys_still : (stamp worker : ℕ) → Allows v.context b worker → ((k : ℕ) → Obeys k limit (of_lock h k)) → (k : ℕ) → Obeys k limit (of_lock (h ++ sealed_block stamp worker b ∷ []) k)
  obeys_still stamp worker allows obeys k =
      let c = sealed_block stamp worker b in
      subst (Obeys k limit) (sym (filter-append (λ (x : Block). has x.held k) h (c ∷ []))) (by (has b.held k) refl)
    where
      by : (w : Bool) → has b.held k ≡ w → Obeys k limit (of_lock h k ++ (if w then sealed_block stamp worker b ∷ [] else []))
      by false out = subst (Obeys k limit) (sym (append-nil (of_lock h k))) (obeys k)
      by true mine =
          let l = some_of (lock_in v.context.locks k) (ran.runs.keeps.set k ∙ here k (sym (ran.held k) ∙ mine)) in
          let x = before k l.0 l.1 in
          let keeps = entered_rest (has b.held k) (entry_of image k (whole p.context) b) x.state.journal in
          let bound : l.0.journal.limit ≡ limit = ap (λ (j : Journal). j.limit) x.journal ∙ keeps.1 ∙ (follows_before k l.0 x).bound in
          let blocks = blocks_there k l.0 l.1 in
          obeys-more k limit [] (of_lock h k) (sealed_block stamp worker b) (obeys k)
          ((λ i. may_follow k (sym bound i) (sym blocks i) (sealed_block stamp worker b)) ∙ block_follows v b stamp worker ran.sound ran.pending allows k l.0 l.1 mine)

  -- and each section that is passed on is of another thread
  passes_still : EachLock (λ k l. IsStrict l) p.context.locks → (stamp worker : ℕ) → ((k : ℕ) → PassesOn k (of_lock h k)) → (k : ℕ) → PassesOn k (of_lock (h ++ sealed_block stamp worker b ∷ []) k)
  passes_still strict stamp worker passes k = subst (PassesOn k) (sym (filter-append (λ (x : Block). has x.held k) h (sealed_block stamp worker b ∷ []))) (by (has b.held k) refl)
    where
      by : (w : Bool) → has b.held k ≡ w → PassesOn k (of_lock h k ++ (if w then sealed_block stamp worker b ∷ [] else []))
      by false out = subst (PassesOn k) (sym (append-nil (of_lock h k))) (passes k)
      by true mine =
          let l = some_of (lock_in v.context.locks k) (ran.runs.keeps.set k ∙ here k (sym (ran.held k) ∙ mine)) in
          passes-more k [] (of_lock h k) (sealed_block stamp worker b) (passes k) (ap (λ bs. passes_on k bs (sealed_block stamp worker b)) (sym (blocks_there k l.0 l.1)) ∙ block_passes v b stamp worker ran.sound ran.pending k l.0 l.1 (strict_still image p v ran strict k l.0 l.1) mine)

pub grown : (image : Shown) (fuel limit : ℕ) (h : List Block) (m : State) (p v : PackageView) → Tells image fuel h m → Follows image fuel limit h m p → (ran : DidRun image p v)
    → (stamp worker : ℕ) → (to : State) × Grows image fuel h m (sealed_block stamp worker ran.block) to × Follows image fuel limit (h ++ sealed_block stamp worker ran.block ∷ []) to (with_seal stamp worker v)
grown image fuel limit h m p v told was ran stamp worker = (
  (ran.runs.block m (agree image fuel limit h m p v was ran told)).0,
  grows image fuel limit h m p v was ran told stamp worker,
  follows_more image fuel limit h m p v was ran told stamp worker,
)

pub obeyed : (image : Shown) (fuel limit : ℕ) (h : List Block) (m : State) (p v : PackageView) → Follows image fuel limit h m p → (ran : DidRun image p v) → (stamp worker : ℕ) → Allows v.context ran.block worker
    → ((k : ℕ) → Obeys k limit (of_lock h k)) → (k : ℕ) → Obeys k limit (of_lock (h ++ sealed_block stamp worker ran.block ∷ []) k)
obeyed image fuel limit h m p v was ran = obeys_still image fuel limit h m p v was ran

pub passed_on : (image : Shown) (fuel limit : ℕ) (h : List Block) (m : State) (p v : PackageView) → Follows image fuel limit h m p → (ran : DidRun image p v)
    → EachLock (λ k l. IsStrict l) p.context.locks → (stamp worker : ℕ) → ((k : ℕ) → PassesOn k (of_lock h k)) → (k : ℕ) → PassesOn k (of_lock (h ++ sealed_block stamp worker ran.block ∷ []) k)
passed_on image fuel limit h m p v was ran = passes_still image fuel limit h m p v was ran

-- ---- what isn't of the block

pub thread_still : (image : Shown) (fuel : ℕ) (h : List Block) (m to : State) (b : Block) (t : ℕ) (p : PackageView) → Grows image fuel h m b to → t ≢ b.thread → ThreadFollows image h m t p → ThreadFollows image (h ++ b ∷ []) to t p
thread_still image fuel h m to b t p grows other was = record { of = was.of; number = was.number; thread = was.thread ∙ sym (grows.threads t other); log = was.log ∙ sym (grows.logs t other) }

pub state_still : (image : Shown) (fuel limit : ℕ) (h : List Block) (m to : State) (b : Block) (k : ℕ) (l : LockView) → Grows image fuel h m b to → has b.held k ≡ false → StateFollows image fuel limit h m k l → StateFollows image fuel limit (h ++ b ∷ []) to k l
state_still image fuel limit h m to b k l grows out was = record { of = was.of; number = was.number; lock = was.lock ∙ ap unowned (sym (grows.locks k out)); entries = was.entries ∙ sym (grows.entries k out); bound = was.bound }

-- nor do rooms count
pub state_kept : (image : Shown) (fuel limit : ℕ) (h : List Block) (m : State) (k : ℕ) (l x : LockView) → kept l ≡ kept x → StateFollows image fuel limit h m k x → StateFollows image fuel limit h m k l
state_kept image fuel limit h m k l x same was = record {
  of = ap (λ (y : LockView). y.journal.image) same ∙ was.of;
  number = ap (λ (y : LockView). y.number) same ∙ was.number;
  lock = ap lock_of same ∙ was.lock;
  entries = ap (λ (y : LockView). y.journal.sealed) same ∙ was.entries;
  bound = ap (λ (y : LockView). y.journal.limit) same ∙ was.bound;
}
