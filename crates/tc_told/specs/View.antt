-- The program's writer as the abstract machine with what was written.
use Rattle.std.specs.Prelude.{◌≡◌, ℕ, Bool, true, false, List, length, slice_get, unwrap_or}
use Rattle.tc_elf.specs.Shown.{Shown}
use Rattle.tc_journal.specs.declared.block.Block.{Block}
use Rattle.tc_journal.specs.declared.block.Kind.TheVariants as kind
use Rattle.tc_turn.specs.Turn.{no_thread}
use Rattle.tc_core.specs.declared.event.Event.{Event}
use Rattle.tc_core.specs.Events.{is_enabled}
use Rattle.tc_core.specs.View.{CoreView, core_of, limits_of, IsCoreOf}
use Rattle.tc_told.specs.Written.{Beginning, Written, write}

pub record WriterView : Type 0 where
  pub core : CoreView
  pub next : List Beginning
  pub history : List Block

-- the entry for numbers above the image's threads
abbrev pub no_beginning : Beginning
no_beginning = record { kind = kind.Start; pc = no_thread.regs.pc }

abbrev pub beginning_at : List Beginning → ℕ → Beginning
beginning_at next t = unwrap_or (slice_get next t) no_beginning

abbrev pub written_of : WriterView → Written
written_of v = record { core = core_of v.core; next = beginning_at v.next; history = v.history }

-- the writer is one of the image's
pub record IsWriterOf (image : Shown) (v : WriterView) : Type 0 where
  pub core : IsCoreOf image v.core
  pub next : length v.next ≡ length image.entries

-- what a step did: its event was enabled, had its effect and wrote what it writes, or was not and nothing changed
abbrev pub DidWrite : Shown → WriterView → Event → Bool → WriterView → Type 0
DidWrite image old e true new =
    (is_enabled image (limits_of old.core) (core_of old.core) e ≡ true)
    × (written_of new ≡ write image (written_of old) e)
    × (limits_of new.core ≡ limits_of old.core)
DidWrite image old e false new = (is_enabled image (limits_of old.core) (core_of old.core) e ≡ false) × (new ≡ old)
