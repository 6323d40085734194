-- The number and the name of each refusal.
use Rattle.std.specs.Prelude.{ℕ, List, codes}
use Rattle.tc_elf.specs.declared.refusal.Refusal.{Refusal}
use Rattle.tc_elf.specs.declared.refusal.Refusal.TheVariants as refused

unfoldable pub refusal_number : Refusal → ℕ
refusal_number refused.TooShort = 1
refusal_number refused.BadMagic = 2
refusal_number refused.NotElf32Little = 3
refusal_number refused.NotExec = 4
refusal_number refused.NotRiscv = 5
refusal_number refused.BadFlags = 6
refusal_number refused.BadHeader = 7
refusal_number refused.Dynamic = 8
refusal_number refused.BadLoad = 9
refusal_number refused.Overlap = 10
refusal_number refused.WritableCode = 11
refusal_number refused.BadNote = 12
refusal_number refused.BadEntry = 13
refusal_number refused.BadGuard = 14
refusal_number refused.OutOfMemory = 15

unfoldable pub refusal_name : Refusal → List ℕ
refusal_name refused.TooShort = codes "TooShort"
refusal_name refused.BadMagic = codes "BadMagic"
refusal_name refused.NotElf32Little = codes "NotElf32Little"
refusal_name refused.NotExec = codes "NotExec"
refusal_name refused.NotRiscv = codes "NotRiscv"
refusal_name refused.BadFlags = codes "BadFlags"
refusal_name refused.BadHeader = codes "BadHeader"
refusal_name refused.Dynamic = codes "Dynamic"
refusal_name refused.BadLoad = codes "BadLoad"
refusal_name refused.Overlap = codes "Overlap"
refusal_name refused.WritableCode = codes "WritableCode"
refusal_name refused.BadNote = codes "BadNote"
refusal_name refused.BadEntry = codes "BadEntry"
refusal_name refused.BadGuard = codes "BadGuard"
refusal_name refused.OutOfMemory = codes "OutOfMemory"
