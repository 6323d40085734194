-- What an instruction does in a loop over steps, and what the load or the store does that it tells of.
use Rattle.std.specs.Prelude.{◌≡◌, ℕ, ◌+◌, ◌*◌, ◌%◌, ◌^◌, None, unwrap_or}
use Rattle.tc_isa.specs.Registers.{with_register}
use Rattle.tc_isa.specs.Sets.{has}
use Rattle.tc_isa.specs.declared.instr.LoadKind.{LoadKind}
use Rattle.tc_isa.specs.declared.instr.StoreKind.{StoreKind}
use Rattle.tc_elf.specs.Shown.{Shown}
use Rattle.tc_exec.specs.Access.{load_width, store_width, extended, load_want, load, store}
use Rattle.tc_exec.specs.Flow.{at_next}
use Rattle.tc_exec.specs.Step.{act_of, wants_of}
use Rattle.tc_exec.specs.Touch.{IsTouched}
use Rattle.tc_exec.specs.declared.execute.Effect.{Effect}
use Rattle.tc_exec.specs.declared.execute.Effect.TheVariants as effect
use Rattle.tc_exec.specs.declared.outcome.Act.TheVariants.{Next}
use Rattle.tc_exec.specs.declared.outcome.Want.TheVariants.{Nothing}
use Rattle.tc_exec.specs.declared.touch.Touched.TheVariants as touched
use Rattle.tc_turn.specs.Turn.{Thread, Guest, thread_of}
use Rattle.tc_turn.specs.Memory.{number_at, with_number}
use Rattle.tc_turn.specs.declared.own_turns.Loaded.{Loaded}
use Rattle.tc_turn.specs.declared.own_turns.Loaded.TheVariants as loads
use Rattle.tc_turn.specs.declared.own_turns.Stored.{Stored}
use Rattle.tc_turn.specs.declared.own_turns.Stored.TheVariants as stores

-- the number that a load of the thread's own memory finds
abbrev pub own_number : Thread → ℕ → ℕ → ℕ
own_number d addr width = number_at (λ at. unwrap_or (d.own at) 0) addr width

-- the thread at the next word, after it stored the low bytes of a value in its own memory
abbrev pub stored : StoreKind → ℕ → ℕ → Thread → Thread
stored kind addr value d =
    let width = store_width kind in
    record { regs = at_next d.regs; own = with_number d.own addr width (value % 2 ^ (8 * width)); fuel = d.fuel; status = d.status; held = d.held }

-- ---- what an instruction does

-- the next turn is of registers alone, and they have it
pub record IsPlain (image : Shown) (old new : Guest) : Type 0 where
  pub act : (answer : ℕ) → act_of image (has old.held) old.regs answer ≡ Next new.regs None
  pub want : wants_of image (has old.held) old.regs ≡ Nothing
  pub rest : new ≡ record old { regs = new.regs }

-- the thread is at the next word
abbrev pub IsOnward : Guest → Guest → Type 0
IsOnward old new = new.regs.pc ≡ (old.regs.pc + 4) % 2 ^ 32

-- the next turn is this load
pub record IsLoad (image : Shown) (g : Guest) (kind : LoadKind) (rd addr : ℕ) : Type 0 where
  pub act : (answer : ℕ) → act_of image (has g.held) g.regs answer ≡ load image (has g.held) g.regs answer kind rd addr
  pub want : wants_of image (has g.held) g.regs ≡ load_want image (has g.held) kind addr

-- it is this store
pub record IsStore (image : Shown) (g : Guest) (kind : StoreKind) (addr value : ℕ) : Type 0 where
  pub act : (answer : ℕ) → act_of image (has g.held) g.regs answer ≡ store image (has g.held) g.regs kind addr value
  pub want : wants_of image (has g.held) g.regs ≡ Nothing

-- an instruction of this effect was done, but for a load or a store, which is told
abbrev pub HasExecuted : Shown → Guest → Guest → Effect → Type 0
HasExecuted image old new effect.Went = IsPlain image old new × IsOnward old new
HasExecuted image old new effect.Jumped = IsPlain image old new
HasExecuted image old new (effect.Load kind rd addr) = (new ≡ old) × IsLoad image old kind rd addr
HasExecuted image old new (effect.Store kind addr value) = (new ≡ old) × IsStore image old kind addr value
HasExecuted image old new effect.Call = new ≡ old
HasExecuted image old new (effect.Fault f) = new ≡ old

-- ---- loads and stores

-- the bytes are its own, and it loaded this number of them
pub record IsOwnLoad (image : Shown) (kind : LoadKind) (rd addr : ℕ) (old new : Guest) (n : ℕ) : Type 0 where
  pub own : IsTouched image (has old.held) addr (load_width kind) touched.Own
  pub number : n ≡ own_number (thread_of old) addr (load_width kind)
  pub after : new ≡ record old { regs = at_next (with_register old.regs rd (extended kind n)) }

-- so many bytes are of a guard, and nothing was done yet
pub record IsGuardLoad (image : Shown) (kind : LoadKind) (addr : ℕ) (old new : Guest) (lock bytes : ℕ) : Type 0 where
  pub guard : IsTouched image (has old.held) addr (load_width kind) (touched.Guard lock)
  pub width : bytes ≡ load_width kind
  pub rest : new ≡ old

abbrev pub HasLoaded : Shown → LoadKind → ℕ → ℕ → Guest → Guest → Loaded → Type 0
HasLoaded image kind rd addr old new loads.Stays = new ≡ old
HasLoaded image kind rd addr old new (loads.Own n) = IsOwnLoad image kind rd addr old new n
HasLoaded image kind rd addr old new (loads.Guard lock width) = IsGuardLoad image kind addr old new lock width

-- the bytes are its own, and it stored them
pub record IsOwnStore (image : Shown) (kind : StoreKind) (addr value : ℕ) (old new : Guest) : Type 0 where
  pub own : IsTouched image (has old.held) addr (store_width kind) touched.Own
  pub after : thread_of new ≡ stored kind addr value (thread_of old)

-- bytes of the lock's guard, and the number that they are to have
pub record GuardBytes : Type 0 where
  pub lock : ℕ
  pub width : ℕ
  pub number : ℕ

-- these bytes are to be written, and nothing was done yet
pub record IsGuardStore (image : Shown) (kind : StoreKind) (addr value : ℕ) (old new : Guest) (bytes : GuardBytes) : Type 0 where
  pub guard : IsTouched image (has old.held) addr (store_width kind) (touched.Guard bytes.lock)
  pub width : bytes.width ≡ store_width kind
  pub number : bytes.number ≡ value % 2 ^ (8 * store_width kind)
  pub rest : new ≡ old

abbrev pub HasStored : Shown → StoreKind → ℕ → ℕ → Guest → Guest → Stored → Type 0
HasStored image kind addr value old new stores.Stays = new ≡ old
HasStored image kind addr value old new stores.Own = IsOwnStore image kind addr value old new
HasStored image kind addr value old new (stores.Guard lock width number) = IsGuardStore image kind addr value old new (record { lock = lock; width = width; number = number })
