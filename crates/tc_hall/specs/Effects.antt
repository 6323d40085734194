-- The effect of each kind of step on the words, the slots and the view of the pass that makes it.
use Rattle.std.specs.Prelude.{ℕ, ◌+◌, ◌%◌, List, [], ◌∷◌, ◌++◌, slice_set, Option, Some, None}
use Rattle.atomic_table.specs.Table.{State, Act, keeps, takes, gives, stepped}
use Rattle.tc_journal.specs.declared.block.Block.{Block}
use Rattle.tc_segment.specs.View.{LockView, sealed_block}
use Rattle.tc_context.specs.View.{PackageView, with_seal}
use Rattle.tc_queue.specs.declared.turn.QueueCall.{QueueCall}
use Rattle.tc_queue.specs.Asked.{left_by}
use Rattle.tc_hall.specs.declared.board.TheConstants.{CLOCK, STOP}
use Rattle.tc_hall.specs.declared.board.HallTerms.{HallTerms}
use Rattle.tc_hall.specs.declared.place.TheConstants.{OUT}
use Rattle.tc_hall.specs.declared.place.Place.{Place}
use Rattle.tc_hall.specs.declared.board.Knows.{Knows}
use Rattle.tc_hall.specs.declared.board.PassCall.TheVariants.{Line, Look, Stop, Stopped}
use Rattle.tc_hall.specs.declared.board.Cargo.{Cargo}
use Rattle.tc_hall.specs.declared.board.Cargo.TheVariants.{Package, Lock}
use Rattle.tc_hall.specs.Places.{code_of, slot_word}
use Rattle.tc_hall.specs.Lines.{line_word}
use Rattle.tc_hall.specs.Steps.{after_claim, after_seal, after_put, after_take, after_free, after_miss, with_call, dealt, fresh, merged, gone}

abbrev pub Hall : Type 0
Hall = State (Option Cargo) Knows

-- a step: the word, its new value, what the pass holds before, its state after, and which slot it takes or fills
pub record Effect : Type 0 where
  pub word : ℕ
  pub left : ℕ
  pub holds : List (ℕ × Option Cargo)
  pub knows : Knows
  pub act : Act (Option Cargo)

-- the hall after a step of the pass id
abbrev pub after : Hall → ℕ → Effect → Hall
after s id e = stepped s e.word e.left id e.holds e.knows e.act

-- `claim` and `adopt` of the thread t, whose word was this and whose package is q
abbrev pub claim_effect : Knows → ℕ → ℕ → PackageView → Effect
claim_effect v t word q = record { word = slot_word t; left = OUT + v.worker; holds = []; knows = record (after_claim v word q) { open_slot = Some t }; act = takes t (Some (Package q)) }

-- `commit` of the package q with this pending block, at the stamp that was read
abbrev pub commit_effect : Knows → ℕ → Block → PackageView → Effect
commit_effect v stamp b q =
    record { word = CLOCK; left = (stamp + 1) % 18446744073709551616; holds = []; knows = after_seal v (sealed_block stamp v.worker b) (with_seal stamp v.worker q); act = keeps }

abbrev pub put_effect : Knows → PackageView → Place → Effect
put_effect v q place = record { word = slot_word q.context.thread; left = code_of place; holds = (q.context.thread, Some (Package q)) ∷ []; knows = record (after_put v q place) { open_slot = None }; act = gives }

-- `take` of the lock i of a hall of n threads, whose state is l
abbrev pub take_effect : ℕ → Knows → ℕ → LockView → Effect
take_effect n v i l = record { word = slot_word (n + i); left = 1; holds = []; knows = record (after_take v l) { open_slot = Some (n + i) }; act = takes (n + i) (Some (Lock l)) }

abbrev pub free_effect : ℕ → Knows → LockView → Effect
free_effect n v l = record { word = slot_word (n + l.number); left = 0; holds = (n + l.number, Some (Lock l)) ∷ []; knows = record (after_free v l) { open_slot = None }; act = gives }

-- `look` and `stopped` leave the word unchanged
abbrev pub look_effect : Knows → ℕ → ℕ → Effect
look_effect v t found = record { word = slot_word t; left = found; holds = []; knows = with_call v (Look t found); act = keeps }

abbrev pub stop_effect : Knows → Effect
stop_effect v = record { word = STOP; left = 1; holds = []; knows = with_call v Stop; act = keeps }

abbrev pub stopped_effect : Knows → ℕ → Effect
stopped_effect v found = record { word = STOP; left = found; holds = []; knows = with_call v (Stopped found); act = keeps }

-- a call on the line of a lock, whose word was found so
abbrev pub line_effect : HallTerms → Knows → ℕ → QueueCall → ℕ → Effect
line_effect k v i c found = record { word = line_word k i c; left = left_by c found; holds = []; knows = with_call v (Line i c); act = keeps }

-- a compare-and-swap that fails leaves it unchanged too
abbrev pub miss_effect : Knows → ℕ → ℕ → Effect
miss_effect v word found = record { word = word; left = found; holds = []; knows = after_miss v word found; act = keeps }

-- the pass takes an empty slot, and gives it back; the word stays
abbrev pub reach_effect : Knows → ℕ → ℕ → Effect
reach_effect v slot found = record { word = slot_word slot; left = found; holds = []; knows = record v { open_slot = Some slot }; act = takes slot None }

abbrev pub lay_effect : Knows → ℕ → ℕ → Effect
lay_effect v slot found = record { word = slot_word slot; left = found; holds = (slot, None) ∷ []; knows = record v { open_slot = None }; act = gives }

-- the pass id makes another, which is the last
abbrev pub with_new_pass : Hall → ℕ → Knows → Hall
with_new_pass s id v = record { words = s.words; homes = s.homes; views = slice_set s.views id (dealt v) ++ fresh v ∷ [] }

-- the pass id joins the other, which ends
abbrev pub with_joined : Hall → ℕ → Knows → ℕ → Knows → Hall
with_joined s id v other w = record { words = s.words; homes = s.homes; views = slice_set (slice_set s.views id (merged v w)) other gone }
