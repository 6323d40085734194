-- The fields of a block's line, told apart again.
use Rattle.std.proofs.Common.{◌≡◌, ℕ, ◌^◌, ◌<◌, true, List, ◌∷◌, ◌++◌, Option, Some, None, refl, ap, ◌∙◌, append_assoc, arith}
use Rattle.std.specs.Prelude.{codes, decimal}
use Rattle.tc_journal.specs.Digits.{hex8}
use Rattle.tc_isa.specs.Faults.{fault_number}
use Rattle.tc_isa.specs.Sets.{locks_of}
use Rattle.tc_isa.specs.declared.fault.Fault.{Fault as GuestFault}
use Rattle.tc_isa.specs.declared.fault.Fault.TheVariants as fault
use Rattle.tc_journal.specs.Told.{Told}
use Rattle.tc_journal.specs.declared.block.Kind.{Kind}
use Rattle.tc_journal.specs.declared.block.Kind.TheVariants.{Start, On, Taken, Adopted, Granted}
use Rattle.tc_journal.specs.declared.block.End.{End}
use Rattle.tc_journal.specs.declared.block.End.TheVariants.{Wants, Unlocked, Slept, Cut, Exit, Fault, Spent}
use Rattle.tc_journal.specs.History.{IsTold, IsEnd}
use Rattle.tc_journal.specs.Line.{numbers_text, kind_text, end_text, pc_text, told_text, told_line}
use Rattle.tc_journal.specs.Spelling.{before, behind, value_of, rest_of, end_word, end_number, from_pc}
use Rattle.tc_journal.proofs.Sets.{AreLocks-locks_of}
use Rattle.tc_journal.proofs.HexWord.{lacks-hex8}
use Rattle.tc_journal.proofs.Words.{lacks, lacks-append, lacks-decimal, lacks-numbers_text, split-at, split-all}

-- what follows the name of the end
abbrev pub from_end : Told → List ℕ → List ℕ
from_end t more = end_text t.block.end ++ 10 ∷ more

-- the line from each of its fields on, before what follows the worker
abbrev pub from_worker : Told → List ℕ → List ℕ
from_worker t rest = codes "worker" ++ 32 ∷ (decimal t.block.worker ++ rest)

abbrev pub from_kind : Told → List ℕ → List ℕ
from_kind t rest = codes "kind" ++ 32 ∷ (kind_text t.block.kind ++ 32 ∷ from_worker t rest)

abbrev pub from_held : Told → List ℕ → List ℕ
from_held t rest = codes "held" ++ 32 ∷ (numbers_text (locks_of t.block.held) ++ 32 ∷ from_kind t rest)

abbrev pub from_turns : Told → List ℕ → List ℕ
from_turns t rest = codes "turns" ++ 32 ∷ (decimal t.block.turns ++ 32 ∷ from_held t rest)

abbrev pub from_thread : Told → List ℕ → List ℕ
from_thread t rest = codes "thread" ++ 32 ∷ (decimal t.block.thread ++ 32 ∷ from_turns t rest)

abbrev pub from_stamp : Told → List ℕ → List ℕ
from_stamp t rest = codes "block" ++ 32 ∷ (decimal t.block.stamp ++ 32 ∷ from_thread t rest)

-- a line with its fields one after another
pub words : (t : Told) (more : List ℕ) → told_line t ++ more ≡ from_stamp t (pc_text t.pc ++ 32 ∷ (codes "end " ++ from_end t more))
unfolding told_text
words t more = simp append_assoc

behind_worker : (pc : Option ℕ) (text : List ℕ) → pc_text pc ++ 32 ∷ text ≡ 32 ∷ from_pc pc text
behind_worker None text = refl
behind_worker (Some pc) text = refl

fields : (t : Told) (more : List ℕ) → told_line t ++ more ≡ from_stamp t (32 ∷ from_pc t.pc (codes "end " ++ from_end t more))
fields t more = words t more ∙ ap (from_stamp t) (behind_worker t.pc (codes "end " ++ from_end t more))

-- a field's value and what stands behind it
field : (name word rest : List ℕ) → lacks 32 name ≡ true → lacks 32 word ≡ true → (value_of (name ++ 32 ∷ (word ++ 32 ∷ rest)) ≡ word) × (rest_of (name ++ 32 ∷ (word ++ 32 ∷ rest)) ≡ rest)
field name word rest h k =
    let named = (split-at 32 name (word ++ 32 ∷ rest) h).1 in
    let parts = split-at 32 word rest k in
    (ap (before 32) named ∙ parts.0, ap (behind 32) named ∙ parts.1)

lacks-kind_text : (kind : Kind) → lacks 32 (kind_text kind) ≡ true
lacks-kind_text Start = refl
lacks-kind_text On = refl
lacks-kind_text Taken = refl
lacks-kind_text Adopted = refl
lacks-kind_text Granted = refl

pub small_fault : (fault : GuestFault) → fault_number fault < 2 ^ 64
small_fault fault.Illegal = omega arith
small_fault fault.Fetch = omega arith
small_fault fault.JumpTarget = omega arith
small_fault fault.Load = omega arith
small_fault fault.Store = omega arith
small_fault fault.Misaligned = omega arith
small_fault fault.Unguarded = omega arith
small_fault fault.Break = omega arith
small_fault fault.BadCall = omega arith
small_fault fault.BadLock = omega arith
small_fault fault.LockOrder = omega arith
small_fault fault.NotHeld = omega arith

lacks-end_text : (end : End) → IsEnd end → lacks 10 (end_text end) ≡ true
lacks-end_text (Wants lock) h = lacks-append 10 (codes "wants ") (decimal lock) refl (lacks-decimal 10 lock (omega arith) (omega arith))
lacks-end_text (Unlocked lock) h = lacks-append 10 (codes "unlocked ") (decimal lock) refl (lacks-decimal 10 lock (omega arith) (omega arith))
lacks-end_text Slept h = refl
lacks-end_text Cut h = refl
lacks-end_text Exit h = refl
lacks-end_text (Fault fault) h = lacks-append 10 (codes "fault ") (decimal (fault_number fault)) refl (lacks-decimal 10 (fault_number fault) (omega arith) (small_fault fault))
lacks-end_text Spent h = refl

split-end : (end : End) → (before 32 (end_text end) ≡ end_word end) × (behind 32 (end_text end) ≡ end_number end)
split-end (Wants lock) = split-at 32 (codes "wants") (decimal lock) refl
split-end (Unlocked lock) = split-at 32 (codes "unlocked") (decimal lock) refl
split-end Slept = split-all 32 (codes "slept") refl
split-end Cut = split-all 32 (codes "cut") refl
split-end Exit = split-all 32 (codes "exit") refl
split-end (Fault fault) = split-at 32 (codes "fault") (decimal (fault_number fault)) refl
split-end Spent = split-all 32 (codes "spent") refl

-- the field of a pc is there, and what follows it; and where none is told, no such field is there
pub pc_field : (pc : ℕ) (more : List ℕ) → (value_of (from_pc (Some pc) more) ≡ hex8 pc) × (rest_of (from_pc (Some pc) more) ≡ more)
pc_field pc more = field (codes "pc") (hex8 pc) more refl (lacks-hex8 pc)

-- what is found at the places of the fields is what was written there
pub record HasFields (text : List ℕ) (t : Told) (more : List ℕ) : Type 0 where
  pub stamp : value_of text ≡ decimal t.block.stamp
  pub thread : value_of (rest_of text) ≡ decimal t.block.thread
  pub turns : value_of (rest_of (rest_of text)) ≡ decimal t.block.turns
  pub held : value_of (rest_of (rest_of (rest_of text))) ≡ numbers_text (locks_of t.block.held)
  pub kind : value_of (rest_of (rest_of (rest_of (rest_of text)))) ≡ kind_text t.block.kind
  pub worker : value_of (rest_of (rest_of (rest_of (rest_of (rest_of text))))) ≡ decimal t.block.worker
  pub pc : rest_of (rest_of (rest_of (rest_of (rest_of (rest_of text))))) ≡ from_pc t.pc (codes "end " ++ from_end t more)

-- and so is the end, behind its name
pub record HasEnd (rest : List ℕ) (t : Told) : Type 0 where
  pub word : before 32 (before 10 (behind 32 rest)) ≡ end_word t.block.end
  pub number : behind 32 (before 10 (behind 32 rest)) ≡ end_number t.block.end

pub has_end : (t : Told) (more rest : List ℕ) → IsTold t → rest ≡ codes "end " ++ from_end t more → HasEnd rest t
has_end t more rest h e =
    let end : before 10 (behind 32 rest) ≡ end_text t.block.end =
    ap (λ x. before 10 (behind 32 x)) e ∙ ap (before 10) (split-at 32 (codes "end") (from_end t more) refl).1
    ∙ (split-at 10 (end_text t.block.end) more (lacks-end_text t.block.end h.end)).0 in
    let parts = split-end t.block.end in
    record { word = ap (before 32) end ∙ parts.0; number = ap (behind 32) end ∙ parts.1 }

pub has_fields : (t : Told) (more text : List ℕ) → IsTold t → text ≡ told_line t ++ more → HasFields text t more
has_fields t more text h e =
    let stamp : lacks 32 (decimal t.block.stamp) ≡ true = lacks-decimal 32 t.block.stamp (omega arith) h.stamp in
    let thread : lacks 32 (decimal t.block.thread) ≡ true = lacks-decimal 32 t.block.thread (omega arith) (omega (arith, h.thread)) in
    let turns : lacks 32 (decimal t.block.turns) ≡ true = lacks-decimal 32 t.block.turns (omega arith) (omega (arith, h.most_turns)) in
    let held : lacks 32 (numbers_text (locks_of t.block.held)) ≡ true = lacks-numbers_text (locks_of t.block.held) (AreLocks-locks_of t.block.held) in
    let worker : lacks 32 (decimal t.block.worker) ≡ true = lacks-decimal 32 t.block.worker (omega arith) (omega (arith, h.worker)) in
    let rest : List ℕ = 32 ∷ from_pc t.pc (codes "end " ++ from_end t more) in
    let r0 : text ≡ from_stamp t rest = e ∙ fields t more in
    let r1 : rest_of text ≡ from_thread t rest = ap rest_of r0 ∙ (field (codes "block") _ _ refl stamp).1 in
    let r2 : rest_of (rest_of text) ≡ from_turns t rest = ap rest_of r1 ∙ (field (codes "thread") _ _ refl thread).1 in
    let r3 : rest_of (rest_of (rest_of text)) ≡ from_held t rest = ap rest_of r2 ∙ (field (codes "turns") _ _ refl turns).1 in
    let r4 : rest_of (rest_of (rest_of (rest_of text))) ≡ from_kind t rest = ap rest_of r3 ∙ (field (codes "held") _ _ refl held).1 in
    let r5 : rest_of (rest_of (rest_of (rest_of (rest_of text)))) ≡ from_worker t rest = ap rest_of r4 ∙ (field (codes "kind") _ _ refl (lacks-kind_text t.block.kind)).1 in
    let r6 : rest_of (rest_of (rest_of (rest_of (rest_of (rest_of text))))) ≡ from_pc t.pc (codes "end " ++ from_end t more) = ap rest_of r5 ∙ (field (codes "worker") _ _ refl worker).1 in
    record {
      stamp = ap value_of r0 ∙ (field (codes "block") _ _ refl stamp).0;
      thread = ap value_of r1 ∙ (field (codes "thread") _ _ refl thread).0;
      turns = ap value_of r2 ∙ (field (codes "turns") _ _ refl turns).0;
      held = ap value_of r3 ∙ (field (codes "held") _ _ refl held).0;
      kind = ap value_of r4 ∙ (field (codes "kind") _ _ refl (lacks-kind_text t.block.kind)).0;
      worker = ap value_of r5 ∙ (field (codes "worker") _ _ refl worker).0;
      pc = r6;
    }
