-- A crew while it is made: its first members exist.
use Rattle.std.specs.Prelude.{◌≡◌, ℕ, List, ◌++◌, length, map, slice_get, Some}
use Rattle.tc_ready.specs.EndView.{OwnView}
use Rattle.tc_ready.specs.ReadyView.{ReadyView, member}

abbrev pub own_deque : OwnView → ℕ × ℕ
own_deque o = o.deque

pub record AreMade (threads room : ℕ) (os yielded rest : List OwnView) (number : ℕ) (rs : List ReadyView) : Type 0 where
  pub owners : os ≡ yielded ++ rest
  pub number_is : length yielded ≡ number
  pub count : length rs ≡ number
  pub each : (i : ℕ) (r : ReadyView) → slice_get rs i ≡ Some r → r ≡ member threads room (map own_deque os) i
