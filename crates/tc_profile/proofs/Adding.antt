-- A block is added to the numbers of its locks, one after another.
use Rattle.std.proofs.Common.{◌≡◌, ◌≢◌, ℕ, ◌+◌, ◌^◌, ◌<◌, ◌≤◌, ◌&&◌, nat_lt, Bool, true, false, List, set, length, refl, sym, ap, ◌∙◌, arith, inl, inr}
use Rattle.std.specs.Prelude.{Option, Some, None, option_map, slice_get, if◌then◌else◌}
use Rattle.std.proofs.lemmas.Bool.Decides.{eqb_tells, nat_tests}
use Rattle.std.proofs.lemmas.Option.{slice_get_within}
use Rattle.tc_isa.specs.Sets.{has}
use Rattle.tc_isa.proofs.SetLemmas.{has_above}
use Rattle.tc_journal.specs.declared.block.Block.{Block}
use Rattle.tc_profile.specs.declared.tally.LockTally.{LockTally}
use Rattle.tc_profile.specs.Tally.{lock_after, added}
use Rattle.tc_journal.proofs.Lists.{get-set_same, get-set_other}

-- the locks below n have the block
abbrev pub added_below : ℕ → ℕ → Block → ℕ → LockTally → LockTally
added_below n lock b home c = if nat_lt lock n && has b.held lock then lock_after lock b home c else c

abbrev pub AddedBelow : ℕ → Block → ℕ → List LockTally → List LockTally → Type 0
AddedBelow n b home old now = (k : ℕ) → slice_get now k ≡ option_map (added_below n k b home) (slice_get old k)

map_same : (f : LockTally → LockTally) (o : Option LockTally) → ((c : LockTally) → f c ≡ c) → option_map f o ≡ o
map_same f None same = refl
map_same f (Some c) same = ap Some (same c)

map_alike : (f g : LockTally → LockTally) (o : Option LockTally) → ((c : LockTally) → f c ≡ g c) → option_map f o ≡ option_map g o
map_alike f g None same = refl
map_alike f g (Some c) same = ap Some (same c)

below_next : (k n : ℕ) → k ≢ n → nat_lt k n ≡ nat_lt k (n + 1)
below_next k n ne = grind (arith, nat_tests, ne)

module _ (n : ℕ) (b : Block) (home : ℕ) (old now : List LockTally) (so_far : AddedBelow n b home old now) where
  other : (k : ℕ) → k ≢ n → slice_get now k ≡ option_map (added_below (n + 1) k b home) (slice_get old k)
  other k ne = so_far k ∙ ap (λ v. option_map (λ c. if v && has b.held k then lock_after k b home c else c) (slice_get old k)) (below_next k n ne)

  here_is : slice_get now n ≡ slice_get old n
  here_is = so_far n ∙ map_same (added_below n n b home) (slice_get old n) (λ c. let e : nat_lt n n ≡ false = grind (arith, nat_tests) in ap (λ v. if v && has b.held n then lock_after n b home c else c) e)

  pub one_added : (c : LockTally) → has b.held n ≡ true → slice_get now n ≡ Some c → AddedBelow (n + 1) b home old (set now n (lock_after n b home c))
  one_added c held is k = elim (eqb_tells k n) [
    | inl e ↦
        let lt : n < length now = slice_get_within now n c is in
        let below : nat_lt n (n + 1) ≡ true = grind (arith, nat_tests) in
        ap (slice_get (set now n (lock_after n b home c))) e.1 ∙ get-set_same now n (lock_after n b home c) lt
        ∙ (λ i. Some (if sym below i && sym held i then lock_after n b home c else c))
        ∙ ap (option_map (added_below (n + 1) n b home)) (sym is ∙ here_is)
        ∙ ap (λ j. option_map (added_below (n + 1) j b home) (slice_get old j)) (sym e.1)
    | inr e ↦ get-set_other now n k (lock_after n b home c) e.1 ∙ other k e.1
  ]

  pub none_more : has b.held n ≡ false → AddedBelow (n + 1) b home old now
  none_more out k = elim (eqb_tells k n) [
    | inl e ↦
        let not_held : has b.held k ≡ false = ap (has b.held) e.1 ∙ out in
        so_far k ∙ map_alike (added_below n k b home) (added_below (n + 1) k b home) (slice_get old k) (λ c. off n k c not_held ∙ sym (off (n + 1) k c not_held))
    | inr e ↦ other k e.1
  ]
    where
      off : (m k : ℕ) (c : LockTally) → has b.held k ≡ false → added_below m k b home c ≡ c
      off m k c not_held = by (nat_lt m k) (nat_lt k m)
        where
          by : (u v : Bool) → (if v && has b.held k then lock_after k b home c else c) ≡ c
          by u true = ap (λ w. if w then lock_after k b home c else c) not_held
          by u false = refl

-- no lock is past the last
pub all_added : (b : Block) (home : ℕ) (old now : List LockTally) → b.held < 2 ^ 32 → AddedBelow 32 b home old now → (k : ℕ) → slice_get now k ≡ option_map (added k b home) (slice_get old k)
all_added b home old now small all k = all k ∙ map_alike (added_below 32 k b home) (added k b home) (slice_get old k) (λ c. ap (λ v. if v then lock_after k b home c else c) (same (nat_lt k 32) refl))
  where
    same : (v : Bool) → nat_lt k 32 ≡ v → (v && has b.held k) ≡ has b.held k
    same true e = refl
    same false e = sym (has_above b.held k small (let past : 32 ≤ k = grind (arith, nat_tests) in past))
