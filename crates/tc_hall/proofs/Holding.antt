-- From the step that takes a slot, through what is done in it, to the step that gives it back.
use Rattle.std.proofs.Common.{◌≡◌, ℕ, List, [], ◌∷◌, Option, Some, None, sym, ap, ◌∙◌}
use Rattle.tc_hall.proofs.Vocabulary.{Cargo, Knows, Sat, rest}

abbrev pub first_value : List (ℕ × Option Cargo) → Option Cargo
first_value [] = None
first_value (x ∷ xs) = x.1

-- the slot was taken with what lay in it, which is taken out before the slot is given back empty
module _ (slot : ℕ) (cargo : Cargo) (w : Knows) (m m1 : Sat) (got : m1 ≡ (record w { open_slot = Some slot }, (slot, Some cargo) ∷ m.1)) where
  pub got_slot : (old : Option Cargo) × (m1.1 ≡ (slot, old) ∷ rest m1.1)
  got_slot = let e = ap (λ (z : Sat). z.1) got in (Some cargo, e ∙ ap (λ (l : List (ℕ × Option Cargo)). (slot, Some cargo) ∷ rest l) (sym e))

  pub got_found : (x : Option Cargo) → m1.1 ≡ (slot, x) ∷ rest m1.1 → x ≡ Some cargo
  got_found x e = let f : (slot, x) ∷ rest m1.1 ≡ (slot, Some cargo) ∷ m.1 = sym e ∙ ap (λ (z : Sat). z.1) got in ap first_value f

  pub got_view : m1.0 ≡ record w { open_slot = Some slot }
  got_view = ap (λ (z : Sat). z.0) got

  module _ (empty : m.1 ≡ []) where
    none_left : rest m1.1 ≡ []
    none_left = ap (λ (z : Sat). rest z.1) got ∙ empty

    pub got_carried : (left : Option Cargo) → left ≡ None → (slot, left) ∷ rest m1.1 ≡ (slot, None) ∷ []
    got_carried left gone = ap (λ (z : Option Cargo). (slot, z) ∷ rest m1.1) gone ∙ ap (λ (l : List (ℕ × Option Cargo)). (slot, None) ∷ l) none_left

    module _ (free : w.open_slot ≡ None) (m3 : Sat) (laid : m3 ≡ (record m1.0 { open_slot = None }, rest m1.1)) where
      pub got_last : m3.0 ≡ w
      got_last = ap (λ (z : Sat). z.0) laid ∙ (ap (λ (z : Knows). record z { open_slot = None }) got_view ∙ ap (λ (z : Option ℕ). record w { open_slot = z }) (sym free))

      pub got_empty : m3.1 ≡ []
      got_empty = ap (λ (z : Sat). z.1) laid ∙ none_left

-- the empty slot was taken, and filled before it is given back
module _ (slot : ℕ) (cargo : Cargo) (m m1 : Sat) (empty : m.1 ≡ []) (got : m1 ≡ (record m.0 { open_slot = Some slot }, (slot, None) ∷ m.1)) where
  pub put_slot : (old : Option Cargo) × (m1.1 ≡ (slot, old) ∷ rest m1.1)
  put_slot = let e = ap (λ (z : Sat). z.1) got in (None, e ∙ ap (λ (l : List (ℕ × Option Cargo)). (slot, None) ∷ rest l) (sym e))

  pub put_found : (x : Option Cargo) → m1.1 ≡ (slot, x) ∷ rest m1.1 → x ≡ None
  put_found x e = let f : (slot, x) ∷ rest m1.1 ≡ (slot, None) ∷ m.1 = sym e ∙ ap (λ (z : Sat). z.1) got in ap first_value f

  pub put_view : m1.0 ≡ record m.0 { open_slot = Some slot }
  put_view = ap (λ (z : Sat). z.0) got

  pub put_carried : (left : Option Cargo) → left ≡ Some cargo → (slot, left) ∷ rest m1.1 ≡ (slot, Some cargo) ∷ []
  put_carried left filled = ap (λ (z : Option Cargo). (slot, z) ∷ rest m1.1) filled ∙ ap (λ (l : List (ℕ × Option Cargo)). (slot, Some cargo) ∷ l) (ap (λ (z : Sat). rest z.1) got ∙ empty)
