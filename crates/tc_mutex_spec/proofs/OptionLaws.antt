-- Options: what a map leaves of one, and what one that is there tells.
use Rattle.std.proofs.Common.{◌≡◌, Bool, true, false, refl, sym, ap}
use Rattle.std.specs.Prelude.{Option, Some, None, is_some, if◌then◌else◌}
use Rattle.std.specs.Option.{option_map}

module _ {X Y : Type 0} where
  pub map_some : (f : X → Y) (o : Option X) (y : Y) → option_map f o ≡ Some y → (x : X) × (o ≡ Some x) × (y ≡ f x)
  map_some f None y e = absurd (cc)
  map_some f (Some x) y e = (x, refl, (let same : f x ≡ y = cc in sym same))

  pub some_map : (f : X → Y) (o : Option X) → is_some (option_map f o) ≡ is_some o
  some_map f None = refl
  some_map f (Some x) = refl

module _ {X : Type 0} where
  pub option_map-id : (g : X → X) (o : Option X) → ((x : X) → g x ≡ x) → option_map g o ≡ o
  option_map-id g None same = refl
  option_map-id g (Some x) same = ap Some (same x)

  pub option_map-twice : (f g h : X → X) (o : Option X) → ((x : X) → g (f x) ≡ h x) → option_map g (option_map f o) ≡ option_map h o
  option_map-twice f g h None same = refl
  option_map-twice f g h (Some x) same = ap Some (same x)

  pub some_of : (o : Option X) → is_some o ≡ true → (x : X) × (o ≡ Some x)
  some_of None e = absurd (cc)
  some_of (Some x) e = (x, refl)

  pub then_some : (b : Bool) (o : Option X) (x : X) → (if b then o else None) ≡ Some x → (b ≡ true) × (o ≡ Some x)
  then_some true o x e = (refl, e)
  then_some false o x e = absurd (cc)

  pub else_some : (b : Bool) (o : Option X) (x : X) → (if b then None else o) ≡ Some x → o ≡ Some x
  else_some true o x e = absurd (cc)
  else_some false o x e = e
