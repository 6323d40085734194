-- A thread holds locks of the image alone, so where these are at most 32, each held set is below 2 ^ 32.
use Rattle.std.proofs.Common.{◌≡◌, ℕ, zero, suc, ◌-◌, ◌^◌, ◌<◌, ◌≤◌, Bool, true, false, ◌==◌, List, [], ◌∷◌, ◌++◌, length, bit_and, refl, sym, ap, subst, ◌∙◌, arith, inl, inr}
use Rattle.std.specs.Prelude.{All}
use Rattle.std.specs.Int.{bit_at}
use Rattle.std.proofs.lemmas.Bool.Decides.{eqb_tells}
use Rattle.std.proofs.lemmas.List.Elements.{All-cons, All-nil}
use Rattle.std.proofs.lemmas.Nat.{pow_pos, and_le_l}
use Rattle.std.proofs.lemmas.Nat.Bits.{same_from_bits, bit_at_and, bit_at_ones, bit_at_ones_above, bit_at-lt}
use Rattle.std.proofs.lemmas.Bool.{cases_lt}
use Rattle.tc_isa.specs.Sets.{has}
use Rattle.tc_elf.specs.Shown.{Shown}
use Rattle.tc_journal.specs.declared.block.Block.{Block}
use Rattle.tc_turn.specs.Turn.{Thread, next_lock}
use Rattle.tc_turn.proofs.Turns.{held_known, next_known}
use Rattle.tc_mutex_spec.specs.Machine.{State, after, start}
use Rattle.tc_mutex_spec.specs.Blocks.{reach, Stands, TellsAfter}
use Rattle.tc_mutex_spec.proofs.Local.{after_thread, turn_apart}
use Rattle.tc_mutex_spec.proofs.BlocksAlike.{covers_block}
use Rattle.tc_mutex_spec.proofs.Going.{in_block}
use Rattle.tc_core.proofs.Erasure.{started_none}

-- a held set has no lock past the 32nd
abbrev pub IsSmall : Block → Type 0
IsSmall b = b.held < 2 ^ 32

-- threads hold locks of the image alone
abbrev pub HoldKnown : Shown → State → Type 0
HoldKnown image m = (t k : ℕ) → (m.threads t).held k ≡ true → k < length image.guards

-- a number without bits from the place w on
below_from_bits : (w n : ℕ) → ((i : ℕ) → w ≤ i → bit_at n i ≡ 0) → n < 2 ^ w
below_from_bits w n none =
    let same : n ≡ bit_and (2 ^ w - 1) n = same_from_bits n (bit_and (2 ^ w - 1) n) (λ i. elim (cases_lt i w) [
      | inl lt ↦ omega (arith, bit_at_and (2 ^ w - 1) n i, bit_at_ones w i lt, bit_at-lt n i)
      | inr le ↦ omega (arith, bit_at_and (2 ^ w - 1) n i, bit_at_ones_above w i le, none i le)
    ]) in
    omega (arith, same, and_le_l (2 ^ w - 1) n, pow_pos w)

no_bit : (x : ℕ) → x < 2 → (x == 1) ≡ false → x ≡ 0
no_bit x lt e = elim (eqb_tells x 1) [ inl h ↦ absurd (let f : true ≡ false = sym h.0 ∙ e in cc) | inr h ↦ omega (arith, lt, h.1) ]

known_turn : (image : Shown) (m : State) (t : ℕ) → HoldKnown image m → HoldKnown image (after image m t)
known_turn image m t known u k h = elim (eqb_tells u t) [
  | inl e ↦ held_known image (m.threads t) m.locks (known t) k (ap (λ (d : Thread). d.held k) (sym (after_thread image m t)) ∙ ap (λ v. ((after image m t).threads v).held k) (sym e.1) ∙ h)
  | inr e ↦ known u k (ap (λ (d : Thread). d.held k) (sym ((turn_apart image m t _ (covers_block image (m.threads t))).threads u e.1)) ∙ h)
]

known_reach : (image : Shown) (m : State) (t n : ℕ) → HoldKnown image m → HoldKnown image (reach image m t n)
known_reach image m t zero known = known
known_reach image m t (suc n) known = known_turn image (reach image m t n) t (known_reach image m t n known)

pub known_start : (image : Shown) (fuel : ℕ) → HoldKnown image (start image fuel)
known_start image fuel t k h = absurd (started_none image fuel t k h)

known_block : (image : Shown) (seen : List Block) (m to : State) (b : Block) → Stands image seen m b to → HoldKnown image m → HoldKnown image to
known_block image seen m to b stands known = subst (HoldKnown image) (sym stands.runs.last) (known_reach image m b.thread b.turns known)

pub known_tells : (image : Shown) (seen h : List Block) (m last : State) → TellsAfter image seen m h last → HoldKnown image m → HoldKnown image last
known_tells image seen [] m last tells known = subst (HoldKnown image) tells known
known_tells image seen (b ∷ h) m last tells known = known_tells image (seen ++ b ∷ []) h tells.0 last tells.2 (known_block image seen m tells.0 b tells.1 known)

pub block_small : (image : Shown) (seen : List Block) (m to : State) (b : Block) → length image.guards ≤ 32 → Stands image seen m b to → HoldKnown image m → IsSmall b
block_small image seen m to b few stands known = below_from_bits 32 b.held (λ i le. no_bit (bit_at b.held i) (bit_at-lt b.held i) (out i le (has b.held i) refl))
  where
    out : (i : ℕ) → 32 ≤ i → (v : Bool) → has b.held i ≡ v → has b.held i ≡ false
    out i le false e = e
    out i le true e = absurd (elim (in_block (m.threads b.thread).held (next_lock image (m.threads b.thread)) i (sym (stands.held i) ∙ e)) [
      | inl was ↦ (let lt = known b.thread i was in omega (arith, lt, few, le))
      | inr took ↦ (let lt = next_known image (m.threads b.thread) i took in omega (arith, lt, few, le))
    ])

-- so is each block of a history that tells a run
pub tells_small : (image : Shown) (seen h : List Block) (m last : State) → length image.guards ≤ 32 → TellsAfter image seen m h last → HoldKnown image m → All IsSmall h
tells_small image seen [] m last few tells known = All-nil IsSmall
tells_small image seen (b ∷ h) m last few tells known =
    All-cons IsSmall b h (block_small image seen m tells.0 b few tells.1 known) (tells_small image (seen ++ b ∷ []) h tells.0 last few tells.2 (known_block image seen m tells.0 b tells.1 known))
