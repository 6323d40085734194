-- Numbers of bytes that stand in a row.
use Rattle.tc_turn.proofs.Vocabulary.{◌≡◌, ℕ, zero, suc, ◌+◌, ◌-◌, ◌*◌, ◌<◌, ◌≤◌, true, List, drop, get_or, refl, sym, ap, ◌∙◌, arith, if◌then◌else◌, nat_le, slice_get, Some, None, unwrap_or, unwrap_or-slice_get, get_or-drop, Shown, byte_of, number_at, byte_from, starting_byte}
use Rattle.byteorder.specs.Endian.{little_from}

pub number_same : (f g : ℕ → ℕ) (addr n : ℕ) → ((at : ℕ) → addr ≤ at → at < addr + n → f at ≡ g at) → number_at f addr n ≡ number_at g addr n
number_same f g addr zero same = refl
number_same f g addr (suc n) same =
    let rest = number_same f g (addr + 1) n (λ at low high. same at (omega arith) (omega arith)) in
    λ k. (same addr (omega arith) (omega arith)) k + 256 * rest k

-- a place with no bytes has the number 0
pub number_nothing : (addr n : ℕ) → number_at (λ at. 0) addr n ≡ 0
number_nothing addr zero = refl
number_nothing addr (suc n) = ap (λ rest. 0 + 256 * rest) (number_nothing (addr + 1) n)

-- the number of bytes that stand in a row
pub number_there : (start : ℕ) (bytes : List ℕ) (from i addr n : ℕ) → start + (from + i) ≡ addr
    → little_from i n (drop from bytes) ≡ number_at (λ at. unwrap_or (byte_from start bytes at) 0) addr n
number_there start bytes from i addr zero e = refl
number_there start bytes from i addr (suc n) e =
    let low : nat_le start addr ≡ true = grind arith in
    let place : addr - start ≡ from + i = omega arith in
    let here : get_or (drop from bytes) i 0 ≡ unwrap_or (byte_from start bytes addr) 0 =
    get_or-drop from bytes i 0 ∙ ap (λ k. get_or bytes k 0) (sym place) ∙ sym (unwrap_or-slice_get bytes (addr - start) 0)
    ∙ ap (λ b. unwrap_or (if b then slice_get bytes (addr - start) else None) 0) (sym low) in
    λ k. here k + 256 * (number_there start bytes from (suc i) (addr + 1) n (omega arith)) k

-- the number of the file's bytes, where they stand in a row
pub number_text : (image : Shown) (addr n : ℕ) (bytes : List ℕ) → ((i : ℕ) → i < n → byte_of image (addr + i) ≡ Some (get_or bytes i 0))
    → number_at (λ at. unwrap_or (byte_from addr bytes at) 0) addr n ≡ number_at (starting_byte image) addr n
number_text image addr n bytes each = grind (arith, number_same, unwrap_or-slice_get)
