-- Loads and stores that do not fault: of a thread's own memory, and of guards whose locks it holds.
use Rattle.std.specs.Prelude.{◌≡◌, ℕ, ◌+◌, ◌*◌, ◌%◌, ◌^◌, ◌≤◌, Bool, true, false}
use Rattle.tc_isa.specs.declared.instr.LoadKind.{LoadKind}
use Rattle.tc_isa.specs.declared.instr.StoreKind.{StoreKind}
use Rattle.tc_elf.specs.Shown.{Shown}
use Rattle.tc_elf.specs.Places.{region_of}
use Rattle.tc_elf.specs.declared.image.Region.{Region}
use Rattle.tc_elf.specs.declared.image.Region.TheVariants as region
use Rattle.tc_exec.specs.Access.{load_width, store_width}
use Rattle.tc_exec.specs.declared.touch.Touched.{Touched}
use Rattle.tc_exec.specs.declared.touch.Touched.TheVariants as touched
use Rattle.tc_exec.specs.declared.touch.OpenLoad.{OpenLoad}
use Rattle.tc_exec.specs.declared.touch.OpenStore.{OpenStore}

-- a place that is the thread's own
abbrev pub is_own : Region → Bool
is_own region.Private = true
is_own region.Stack = true
is_own place = false

-- a place is what is touched: the thread's own, or the guard of a lock that it holds
abbrev pub LiesIn : (ℕ → Bool) → Region → Touched → Type 0
LiesIn held place touched.Own = is_own place ≡ true
LiesIn held place (touched.Guard lock) = (place ≡ region.Guard lock) × (held lock ≡ true)

-- an aligned access of such a place
pub record IsTouched (image : Shown) (held : ℕ → Bool) (addr width : ℕ) (at : Touched) : Type 0 where
  pub lies : LiesIn held (region_of image addr width) at
  pub aligned : addr % width ≡ 0

-- a load takes so many bytes of such a place, and so it does not fault
pub record IsOpenLoad (image : Shown) (held : ℕ → Bool) (kind : LoadKind) (addr : ℕ) (l : OpenLoad) : Type 0 where
  pub width : l.width ≡ load_width kind
  pub is : IsTouched image held addr l.width l.touched
  pub fits : addr + l.width ≤ 2 ^ 32
  pub small : l.width ≤ 4

-- a store writes so many bytes of such a place, with this number, and so it does not fault
pub record IsOpenStore (image : Shown) (held : ℕ → Bool) (kind : StoreKind) (addr value : ℕ) (s : OpenStore) : Type 0 where
  pub width : s.width ≡ store_width kind
  pub number : s.number ≡ value % 2 ^ (8 * store_width kind)
  pub is : IsTouched image held addr s.width s.touched
  pub fits : addr + s.width ≤ 2 ^ 32
