-- The list that the snapshots of a `Noted` form.
use Rattle.std.specs.Prelude.{List, [], ◌∷◌, ◌++◌}
use Rattle.tc_noted.specs.declared.Link.{Link}
use Rattle.tc_noted.specs.declared.Link.TheVariants.{Nothing, Behind}

-- what was noted before, followed by the last thing
abbrev pub items : {T : Type 0} → Link T → List T
items Nothing = []
items (Behind before x) = before.value ++ x.value ∷ []
