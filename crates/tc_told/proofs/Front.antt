-- How a core stands between the blocks of a history.
use Rattle.std.proofs.Common.{◌∙◌, ◌≡◌, ℕ, ◌<◌, Bool, true, false, List, [], ◌∷◌, length}
use Rattle.std.specs.Option.{option_map}
use Rattle.std.specs.Prelude.{Option, Some, None, if◌then◌else◌}
use Rattle.tc_elf.specs.Shown.{Shown}
use Rattle.tc_journal.specs.Batch.{ends_section, last_of, run_of}
use Rattle.tc_journal.specs.History.{of_lock}
use Rattle.tc_journal.specs.declared.block.Block.{Block}
use Rattle.tc_journal.specs.declared.block.End.{End}
use Rattle.tc_journal.specs.declared.block.Kind.{Kind}
use Rattle.tc_journal.specs.declared.block.Kind.TheVariants as kind
use Rattle.tc_mutex_spec.specs.Machine.{State}
use Rattle.tc_mutex_spec.specs.Blocks.{has_block}
use Rattle.tc_core.specs.declared.place.LockPlace.{LockPlace}
use Rattle.tc_core.specs.declared.place.LockPlace.TheVariants.{With, Loose}
use Rattle.tc_core.specs.declared.place.LockPlace.TheVariants as place
use Rattle.tc_core.specs.declared.place.Course.{Course}
use Rattle.tc_core.specs.declared.place.Custody.{Custody}
use Rattle.tc_core.proofs.Quiet.{Quiet}
use Rattle.tc_core.specs.Core.{Limits}
use Rattle.tc_told.specs.Written.{Beginning, Written, with_block, place_after}

-- a lock by the last of its blocks: free; with the block's thread; or loose at the worker that released it, where the thread
-- that had it still stands alone in the line
abbrev pub place_by : ℕ → Option Block → LockPlace
place_by k None = place.Free
place_by k (Some b) = if ends_section k b then Loose b.worker else With b.thread

abbrev pub line_by : Option Block → List ℕ
line_by None = []
line_by (Some b) = b.thread ∷ []

pub record IsCustody (limits : Limits) (k : ℕ) (bs : List Block) (x : Custody) : Type 0 where
  pub place : x.place ≡ place_by k (last_of bs)
  pub line : x.line ≡ line_by (last_of bs)
  pub left : x.left ≡ false
  pub run : x.run ≡ run_of k bs
  pub last : (b : Block) → last_of bs ≡ Some b → ends_section k b ≡ true → x.last ≡ Some (record { held = b.held; end = b.end })
  pub worker : (b : Block) → last_of bs ≡ Some b → b.worker < limits.workers

abbrev pub kind_by : Bool → Kind
kind_by seen = if seen then kind.On else kind.Start

-- what is known of a thread's next block
abbrev pub beginning_by : List Block → State → ℕ → Beginning
beginning_by seen m u = record { kind = kind_by (has_block seen u); pc = (m.threads u).regs.pc }

-- the history with the block of t at w, if it has ended so
abbrev pub block_on : List Block → ℕ → ℕ → Beginning → Course → Option End → List Block
block_on h w t a x o =
    with_block h (option_map (λ end. record { stamp = length h; thread = t; turns = x.turns; held = x.held; kind = a.kind; worker = w; pc = a.pc; end = end }) o)

-- no thread is inside a block, the machine is m, and so much was written
pub record Between (seen : List Block) (m : State) (s : Written) : Type 0 where
  pub machine : s.core.machine ≡ m
  pub turns : (u : ℕ) → (s.core.course u).turns ≡ 0
  pub ended : (u : ℕ) → (s.core.course u).ended ≡ None
  pub history : s.history ≡ seen

-- after the blocks `seen`, which lead to m: each thread rests, and each lock is as the last of its blocks says
pub record Front (image : Shown) (limits : Limits) (seen : List Block) (m : State) (s : Written) : Type 0 where
  pub between : Between seen m s
  pub rests : (u : ℕ) → u < length image.entries → (s.core.course u).place ≡ place_after m seen u
  pub custody : (k : ℕ) → IsCustody limits k (of_lock seen k) (s.core.custody k)
  pub next : (u : ℕ) → s.next u ≡ beginning_by seen m u

-- an event that changes no thread, lock or block, and writes nothing, keeps it so
pub between_quiet : (seen : List Block) (m : State) (s x : Written) → Quiet s.core x.core → x.history ≡ s.history → Between seen m s → Between seen m x
between_quiet seen m s x quiet same is = record {
  machine = quiet.machine ∙ is.machine;
  turns = λ u. quiet.turns u ∙ is.turns u;
  ended = λ u. quiet.ended u ∙ is.ended u;
  history = same ∙ is.history;
}
