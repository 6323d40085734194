use Rattle.std.proofs.Common.{◌≡◌, ℕ, zero, suc, ◌<◌, List, [], ◌∷◌, length, map, refl, sym, subst, arith}
use Rattle.std.specs.Prelude.{Contains}
use Rattle.std.proofs.lemmas.Grind.{common_steps}
use Rattle.std.proofs.lemmas.List.{length-map}
use Rattle.tc_journal.specs.declared.block.Block.{Block}
use Rattle.tc_journal.specs.History.{all_blocks}
use Rattle.tc_history_tests.proofs.journal.logs_are_merged_by_their_stamps.Goals as goal

each : (stamp : ℕ) → stamp < length {A = ℕ} (0 ∷ 2 ∷ 1 ∷ []) → Contains {X = ℕ} (0 ∷ 2 ∷ 1 ∷ []) stamp
each zero h = (0, omega arith, refl)
each (suc zero) h = (2, omega arith, refl)
each (suc (suc zero)) h = (1, omega arith, refl)
each (suc (suc (suc k))) h = absurd (omega arith)

pub merge-requires : goal.merge-requires
merge-requires g c =
    let blocks : List Block = all_blocks c.deref.result.now in
    let are : blocks ≡ c.block-zero.result ∷ c.block-two.result ∷ c.block-one.result ∷ [] = grind (arith, common_steps) in
    let stamps : map (λ (b : Block). b.stamp) blocks ≡ 0 ∷ 2 ∷ 1 ∷ [] = grind (arith, common_steps) in
    let P : List ℕ → Type 0 = λ xs. (stamp : ℕ) → stamp < length xs → Contains xs stamp in
    λ stamp small. subst P (sym stamps) each stamp (omega (arith, length-map blocks (λ (b : Block). b.stamp)))
