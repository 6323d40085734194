-- A history that tells a run gives each lock its journal, and RV32IM replays the journal to the lock as the run leaves it.
use Rattle.std.proofs.Common.{◌≡◌, ℕ, ◌≤◌, Bool, true, false, ◌||◌, List, [], ◌∷◌, ◌++◌, length, refl, sym, ap, subst, ◌∙◌, arith}
use Rattle.std.specs.Prelude.{None}
use Rattle.tc_isa.specs.Sets.{has}
use Rattle.tc_elf.specs.Shown.{Shown}
use Rattle.tc_elf.specs.declared.limits.TheConstants.{MAX_GUARDS}
use Rattle.tc_journal.specs.Batch.{ends_thread}
use Rattle.tc_journal.specs.declared.block.Block.{Block}
use Rattle.tc_journal.specs.declared.block.End.{End}
use Rattle.tc_turn.specs.Turn.{Mutex}
use Rattle.tc_turn.specs.Replay.{Entry, unowned, ended, replay_entry, replayed, AreReplayed}
use Rattle.tc_mutex_spec.specs.Machine.{State, start}
use Rattle.tc_mutex_spec.specs.Blocks.{reach, Stands, TellsAfter, Tells}
use Rattle.tc_mutex_spec.specs.Entries.{entry_of, with_front, entries_after, HasJournal}
use Rattle.tc_mutex_spec.proofs.BlocksAlike.{runs_apart}
use Rattle.tc_mutex_spec.proofs.Entries.{entries_blocks}
use Rattle.tc_mutex_spec.proofs.Going.{block_broken}
use Rattle.tc_mutex_spec.proofs.Progress.{IsSane, start_sane, reached}
use Rattle.tc_mutex_spec.proofs.Replaying.{IsRecord, replays, replay_is}

-- a lock that is broken where the block ended its thread is as the end leaves it
ended_same : (end : End) (l : Mutex) → (ends_thread end ≡ true → l.broken ≡ true) → ended end (unowned l) ≡ unowned l
ended_same end l = elim (ends_thread end) as (λ v. (v ≡ true → l.broken ≡ true) → record { bytes = l.bytes; broken = v || l.broken; sections = l.sections; owner = None } ≡ unowned l) [
  | true ↦ λ breaks i. record { bytes = l.bytes; broken = sym (breaks refl) i; sections = l.sections; owner = None }
  | false ↦ λ breaks. refl
]

-- these entries are replayed from the one lock to the other, whose owner doesn't count
record Journaled (image : Shown) (k : ℕ) (old : Mutex) (entries : List Entry) (new : Mutex) : Type 0 where
  replays : AreReplayed image k old entries
  end : replayed image k old entries ≡ unowned new

module _ (image : Shown) (few : length image.guards ≤ MAX_GUARDS) (k : ℕ) (seen : List Block) (from mid : State) (b : Block) (sane : IsSane image from) (stands : Stands image seen from b mid) where
  abbrev to : State
  to = reach image from b.thread b.turns

  is_record : IsRecord image from b
  is_record = record { few = few; small = λ j h. (let l = sane.known b.thread j h in omega (arith, l, few)); held = stands.held; section = stands.section }

  -- the block's entry makes of the lock what the block makes of it
  makes : has b.held k ≡ true → replay_entry image k (entry_of image k from b) (unowned (from.locks k)) ≡ unowned (to.locks k)
  makes h = replay_is image k from b mid stands.runs is_record ∙ ended_same b.end (to.locks k) (block_broken image from mid b.thread b.turns b.end stands.runs k (sym (stands.held k) ∙ h))

  -- a block without the lock leaves it alone
  leaves : has b.held k ≡ false → to.locks k ≡ from.locks k
  leaves out = ap (λ (s : State). s.locks k) (sym stands.runs.last) ∙ (runs_apart image from mid b.thread b.turns b.end stands.runs).locks k (sym (stands.held k) ∙ out)

  journaled_more : (entries : List Entry) (new : Mutex) → Journaled image k (unowned (to.locks k)) entries new → Journaled image k (unowned (from.locks k)) (with_front (has b.held k) (entry_of image k from b) entries) new
  journaled_more entries new rest = go (has b.held k) refl
    where
      go : (v : Bool) → has b.held k ≡ v → Journaled image k (unowned (from.locks k)) (with_front v (entry_of image k from b) entries) new
      go true e = (let r = subst (λ l. Journaled image k l entries new) (sym (makes e)) rest in record { replays = (replays image k from b mid stands.runs is_record, r.replays); end = r.end })
      go false e = subst (λ l. Journaled image k (unowned l) entries new) (leaves e) rest

journaled : (image : Shown) (few : length image.guards ≤ MAX_GUARDS) (k : ℕ) (seen h : List Block) (from m : State) → IsSane image from → TellsAfter image seen from h m → Journaled image k (unowned (from.locks k)) (entries_after image k from h) (m.locks k)
journaled image few k seen [] from m sane told = record { replays = tt; end = ap (λ (s : State). unowned (s.locks k)) told }
journaled image few k seen (b ∷ h) from m sane told =
    let to : State = reach image from b.thread b.turns in
    let stands : Stands image seen from b told.0 = told.1 in
    journaled_more image few k seen from told.0 b sane stands (entries_after image k to h) (m.locks k)
    (journaled image few k (seen ++ b ∷ []) h to m (reached image from b.thread b.turns stands.runs.defined sane).sane (subst (λ s. TellsAfter image (seen ++ b ∷ []) s h m) stands.runs.last told.2))

pub has_journal : (image : Shown) (fuel : ℕ) (h : List Block) (m : State) (k : ℕ) → length image.guards ≤ MAX_GUARDS → Tells image fuel h m → HasJournal image fuel h m k
has_journal image fuel h m k few told = (let r = journaled image few k [] h (start image fuel) m (start_sane image fuel) told in record { blocks = entries_blocks image k (start image fuel) h; replays = r.replays; end = r.end })
