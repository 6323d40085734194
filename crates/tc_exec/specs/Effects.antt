-- What an instruction does beside the registers, and how the rest of it follows from that.
use Rattle.std.specs.Prelude.{◌≡◌, ℕ, ◌+◌, ◌%◌, ◌^◌, Bool, true, false, None}
use Rattle.tc_isa.specs.Registers.{Registers}
use Rattle.tc_isa.specs.declared.instr.Instr.{Instr}
use Rattle.tc_elf.specs.Shown.{Shown}
use Rattle.tc_exec.specs.Access.{load_want, load, store}
use Rattle.tc_exec.specs.Calls.{guest_call}
use Rattle.tc_exec.specs.Step.{wants_by, act_by}
use Rattle.tc_exec.specs.declared.execute.Effect.{Effect}
use Rattle.tc_exec.specs.declared.execute.Effect.TheVariants.{Went, Jumped, Load, Store, Call, Fault}
use Rattle.tc_exec.specs.declared.outcome.Act.{Act}
use Rattle.tc_exec.specs.declared.outcome.Act.TheVariants.{Next, Faulted}
use Rattle.tc_exec.specs.declared.outcome.Want.{Want}
use Rattle.tc_exec.specs.declared.outcome.Want.TheVariants.{Nothing}

-- nothing is left to do
abbrev pub is_done : Effect → Bool
is_done Went = true
is_done Jumped = true
is_done (Load kind rd addr) = false
is_done (Store kind addr value) = false
is_done Call = false
is_done (Fault f) = false

-- what the instruction does, where the registers have its part in them
abbrev pub act_after : Shown → (ℕ → Bool) → Registers → ℕ → Effect → Act
act_after image held r answer Went = Next r None
act_after image held r answer Jumped = Next r None
act_after image held r answer (Load kind rd addr) = load image held r answer kind rd addr
act_after image held r answer (Store kind addr value) = store image held r kind addr value
act_after image held r answer Call = guest_call image held r answer
act_after image held r answer (Fault f) = Faulted f

-- what it loads
abbrev pub want_after : Shown → (ℕ → Bool) → Effect → Want
want_after image held Went = Nothing
want_after image held Jumped = Nothing
want_after image held (Load kind rd addr) = load_want image held kind addr
want_after image held (Store kind addr value) = Nothing
want_after image held Call = Nothing
want_after image held (Fault f) = Nothing

-- what does this to a thread, and loads this, has this effect, before which the registers have their part; the effect tells
-- whether it went to the next word
pub record HasEffect (does : Shown → (ℕ → Bool) → ℕ → Act) (loads : Shown → (ℕ → Bool) → Want) (before after : Registers) (effect : Effect) : Type 0 where
  pub act : (image : Shown) (held : ℕ → Bool) (answer : ℕ) → does image held answer ≡ act_after image held after answer effect
  pub want : (image : Shown) (held : ℕ → Bool) → loads image held ≡ want_after image held effect
  pub kept : is_done effect ≡ false → after ≡ before
  pub went : effect ≡ Went → after.pc ≡ (before.pc + 4) % 2 ^ 32

-- what does this to the registers alone loads nothing, and has this effect
abbrev pub Goes : Act → Registers → Registers → Effect → Type 0
Goes turn before after effect = HasEffect (λ image held answer. turn) (λ image held. Nothing) before after effect

-- the instruction has this effect
abbrev pub Executes : Instr → Registers → Registers → Effect → Type 0
Executes instr before after effect = HasEffect (λ image held answer. act_by image held before answer instr) (λ image held. wants_by image held before instr) before after effect
