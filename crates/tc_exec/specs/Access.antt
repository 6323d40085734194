-- Loads and stores (RISC-V Unprivileged ISA, RV32I, "Load and Store Instructions").
use Rattle.std.specs.Prelude.{ℕ, ◌*◌, ◌%◌, ◌^◌, ◌==◌, if◌then◌else◌, Bool, Option, Some, None}
use Rattle.std.specs.Int.{w8, w16, w32, cast_signed, cast_unsigned}
use Rattle.tc_isa.specs.Registers.{Registers}
use Rattle.tc_isa.specs.declared.fault.Fault.{Fault}
use Rattle.tc_isa.specs.declared.fault.Fault.TheVariants as fault
use Rattle.tc_isa.specs.declared.instr.LoadKind.{LoadKind}
use Rattle.tc_isa.specs.declared.instr.LoadKind.TheVariants as load_kind
use Rattle.tc_isa.specs.declared.instr.StoreKind.{StoreKind}
use Rattle.tc_isa.specs.declared.instr.StoreKind.TheVariants as store_kind
use Rattle.tc_elf.specs.Shown.{Shown}
use Rattle.tc_elf.specs.Places.{region_of}
use Rattle.tc_elf.specs.declared.image.Region.{Region}
use Rattle.tc_elf.specs.declared.image.Region.TheVariants as region
use Rattle.tc_exec.specs.Flow.{at_next, set, faulted_or}
use Rattle.tc_exec.specs.declared.access.Width.{Width}
use Rattle.tc_exec.specs.declared.access.Width.TheVariants as width
use Rattle.tc_exec.specs.declared.outcome.Act.{Act}
use Rattle.tc_exec.specs.declared.outcome.Act.TheVariants.{Next}
use Rattle.tc_exec.specs.declared.outcome.Put.{Put}
use Rattle.tc_exec.specs.declared.outcome.Want.{Want}
use Rattle.tc_exec.specs.declared.outcome.Want.TheVariants as want

-- how many bytes the numbers have that are loaded or stored
abbrev pub width_bytes : Width → ℕ
width_bytes width.Byte = 1
width_bytes width.Half = 2
width_bytes width.Word = 4

abbrev pub load_width : LoadKind → ℕ
load_width load_kind.Lb = 1
load_width load_kind.Lh = 2
load_width load_kind.Lw = 4
load_width load_kind.Lbu = 1
load_width load_kind.Lhu = 2

abbrev pub store_width : StoreKind → ℕ
store_width store_kind.Sb = 1
store_width store_kind.Sh = 2
store_width store_kind.Sw = 4

-- what a load brings to its register: the low bits, read as a number in two's complement or as they are
abbrev pub extended : LoadKind → ℕ → ℕ
extended load_kind.Lb n = cast_unsigned w32 (cast_signed w8 (n % 2 ^ 8))
extended load_kind.Lh n = cast_unsigned w32 (cast_signed w16 (n % 2 ^ 16))
extended load_kind.Lw n = n
extended load_kind.Lbu n = n % 2 ^ 8
extended load_kind.Lhu n = n % 2 ^ 16

-- a guard is open to the thread that holds its lock
abbrev pub guard_fault : (ℕ → Bool) → ℕ → Option Fault
guard_fault held lock = if held lock then None else Some fault.Unguarded

-- the fault of an aligned load by its place
abbrev pub aligned_load_fault : (ℕ → Bool) → Region → Option Fault
aligned_load_fault held (region.Guard lock) = guard_fault held lock
aligned_load_fault held region.Nothing = Some fault.Load
aligned_load_fault held place = None

-- the fault of an aligned store by its place
abbrev pub aligned_store_fault : (ℕ → Bool) → Region → Option Fault
aligned_store_fault held (region.Guard lock) = guard_fault held lock
aligned_store_fault held region.Text = Some fault.Store
aligned_store_fault held region.Nothing = Some fault.Store
aligned_store_fault held place = None

abbrev pub misaligned_or : ℕ → ℕ → Option Fault → Option Fault
misaligned_or addr width other = if addr % width == 0 then other else Some fault.Misaligned

abbrev pub load_fault : (ℕ → Bool) → Region → ℕ → ℕ → Option Fault
load_fault held place addr width = misaligned_or addr width (aligned_load_fault held place)

abbrev pub store_fault : (ℕ → Bool) → Region → ℕ → ℕ → Option Fault
store_fault held place addr width = misaligned_or addr width (aligned_store_fault held place)

abbrev pub nothing_or : Option Fault → Want → Want
nothing_or (Some f) wanted = want.Nothing
nothing_or None wanted = wanted

-- what a load has to be answered
abbrev pub want_at : (ℕ → Bool) → Region → ℕ → ℕ → Want
want_at held place addr width = nothing_or (load_fault held place addr width) (want.Load place addr width)

unfoldable pub load_want : Shown → (ℕ → Bool) → LoadKind → ℕ → Want
load_want image held kind addr = want_at held (region_of image addr (load_width kind)) addr (load_width kind)

-- the fault of a load
abbrev pub fault_of_load : Shown → (ℕ → Bool) → LoadKind → ℕ → Option Fault
fault_of_load image held kind addr = load_fault held (region_of image addr (load_width kind)) addr (load_width kind)

unfoldable pub load : Shown → (ℕ → Bool) → Registers → ℕ → LoadKind → ℕ → ℕ → Act
load image held r answer kind rd addr =
    faulted_or (fault_of_load image held kind addr) (set r rd (extended kind answer))

-- the low bits of a value
abbrev pub put_at : Region → ℕ → ℕ → ℕ → Put
put_at place addr width value = record { region = place; addr = addr; width = width; value = value % 2 ^ (8 * width) }

unfoldable pub store : Shown → (ℕ → Bool) → Registers → StoreKind → ℕ → ℕ → Act
store image held r kind addr value =
    let width = store_width kind in
    let place = region_of image addr width in
    faulted_or (store_fault held place addr width) (Next (at_next r) (Some (put_at place addr width value)))
