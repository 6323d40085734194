-- A state before a step, and the state after it.

pub record Change (A : Type 0) : Type 0 where
  pub old : A
  pub new : A

abbrev pub change : {A : Type 0} → A → A → Change A
change a b = record { old = a; new = b }
