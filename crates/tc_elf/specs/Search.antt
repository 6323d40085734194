-- What the steps of the search for the note on threads and guards find.
use Rattle.std.specs.Prelude.{ℕ, if◌then◌else◌, List, Option, Some, None, Result}
use Rattle.std.specs.Borrow.{Bor}
use Rattle.std.specs.Option.{option_map, option_copied}
use Rattle.std.specs.Result.{result_ok}
use Rattle.tc_elf.specs.Notes.{first_note, is_tclocks}

-- what a search answers: None if it refuses the file, else the descriptor, if there is one
abbrev pub finding_of : {E : Type 0} → Result (Option (Bor (List ℕ))) E → Option (Option (List ℕ))
finding_of answer = option_map option_copied (result_ok answer)

abbrev pub first_descriptor : List ℕ → Option (List ℕ)
first_descriptor b = if is_tclocks (first_note b) then Some (first_note b).descriptor else None

-- the descriptor of two searches; None if one refuses the file, or both found one
abbrev pub only_one : Option (Option (List ℕ)) → Option (Option (List ℕ)) → Option (Option (List ℕ))
only_one None other = None
only_one (Some None) other = other
only_one (Some (Some d)) None = None
only_one (Some (Some d)) (Some None) = Some (Some d)
only_one (Some (Some d)) (Some (Some e)) = None
