-- The locks of the plain program at the start.
use Rattle.std.proofs.Common.{◌≡◌, ℕ, ◌≤◌, length, map, false, sym, ap, ◌∙◌, inl, inr}
use Rattle.std.specs.List.{range_with_len}
use Rattle.std.proofs.lemmas.List.{get_or_past}
use Rattle.std.specs.Prelude.{None}
use Rattle.std.proofs.lemmas.Bool.{cases_lt}
use Rattle.tc_elf.specs.Shown.{Shown, Guard}
use Rattle.tc_turn.specs.Memory.{starting_bytes}
use Rattle.tc_turn.specs.Turn.{mutex_at_start}
use Rattle.tc_mutex_spec.specs.Slow.{mutex_or, mutex_at, no_mutex}
use Rattle.tc_mutex_spec.proofs.ListLaws.{made_get, made_past}

-- a lock that is none has no bytes
pub start_past : (image : Shown) (k : ℕ) → length image.guards ≤ k → mutex_at_start image k ≡ no_mutex
start_past image k past =
    let none : Guard = record { start = 0; length = 0 } in
    ap (λ (g : Guard). record { bytes = starting_bytes image g.start g.length; broken = false; sections = 0; owner = None }) (get_or_past image.guards k none past)

pub start_each : (image : Shown) (k : ℕ) → mutex_at (map (mutex_at_start image) (range_with_len 0 (length image.guards))) k ≡ mutex_at_start image k
start_each image k = elim (cases_lt k (length image.guards)) [
  | inl lt ↦ ap mutex_or (made_get (mutex_at_start image) (length image.guards) k no_mutex lt)
  | inr past ↦ ap mutex_or (made_past (mutex_at_start image) (length image.guards) k past) ∙ sym (start_past image k past)
]
