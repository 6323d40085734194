-- Why the bytes of a source are refused.
use Rattle.std.specs.Prelude.{ℕ, List, length, take, nat_lt, if◌then◌else◌, Option, None, Some, option_map, codes}
use Rattle.tc_elf.specs.Loading.{refusal}
use Rattle.tc_elf.specs.Refused.{refusal_number, refusal_name}
use Rattle.tc_elf.specs.declared.refusal.Refusal.{Refusal}
use Rattle.tc_main.specs.Words.{FileAndHistory, GuestFile, Needs, Nothing, most_of}

-- a refusal by its number and its name
pub record NamedRefusal : Type 0 where
  pub number : ℕ
  pub name : List ℕ

-- there are more bytes than are read
abbrev pub too_large : NamedRefusal
too_large = record { number = 0; name = codes "TooLarge" }

-- they end before the guest's file does
abbrev pub short_input : NamedRefusal
short_input = record { number = 17; name = codes "ShortInput" }

-- the refusal of the guest's file
abbrev pub named : Refusal → NamedRefusal
named reason = record { number = refusal_number reason; name = refusal_name reason }

-- how many bytes there are at least
abbrev pub least_of : Needs → ℕ
least_of Nothing = 0
least_of GuestFile = 0
least_of (FileAndHistory size o) = size

-- the first reason to refuse the guest's file, if one is needed
abbrev pub file_refusal : Needs → List ℕ → Option Refusal
file_refusal Nothing bytes = None
file_refusal GuestFile bytes = refusal bytes
file_refusal (FileAndHistory size o) bytes = refusal (take size bytes)

-- why a source with these bytes is refused, by the first reason that applies
abbrev pub refusal_of : Needs → List ℕ → Option NamedRefusal
refusal_of needs bytes =
    if nat_lt (most_of needs) (length bytes) then Some too_large
    else if nat_lt (length bytes) (least_of needs) then Some short_input
    else option_map named (file_refusal needs bytes)
