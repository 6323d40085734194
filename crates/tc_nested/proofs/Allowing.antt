-- What the batch rule allows behind a block that released the lock.
use Rattle.std.proofs.Common.{◌≡◌, ℕ, true, false, not, ◌&&◌, ◌==◌, List, refl, ap, ◌∙◌}
use Rattle.std.specs.Prelude.{Some}
use Rattle.std.proofs.lemmas.Bool.{eq-eqb}
use Rattle.tc_journal.specs.declared.block.Block.{Block}
use Rattle.tc_journal.specs.declared.block.Kind.TheVariants.{Adopted, Granted}
use Rattle.tc_journal.specs.Batch.{may_adopt, may_begin, run_of, last_of, allows_of}
use Rattle.tc_nested.specs.Release.{Releases}

pub adopted : (lock limit : ℕ) (bs : List Block) (b : Block) → last_of bs ≡ Some b → may_adopt b lock (run_of lock bs) limit ≡ true → allows_of lock limit bs Adopted b.worker ≡ true
unfolding allows_of
adopted lock limit bs b last may =
    ap (λ o. may_begin lock limit o (run_of lock bs) Adopted b.worker) last
    ∙ ap (λ x. x && (b.worker == b.worker)) may
    ∙ eq-eqb b.worker b.worker refl

pub granted : (lock limit : ℕ) (bs : List Block) (b : Block) (worker : ℕ) → last_of bs ≡ Some b → Releases lock b → may_adopt b lock (run_of lock bs) limit ≡ false → allows_of lock limit bs Granted worker ≡ true
unfolding allows_of
granted lock limit bs b worker last released may =
    ap (λ o. may_begin lock limit o (run_of lock bs) Granted worker) last
    ∙ ap (λ x. x && not (may_adopt b lock (run_of lock bs) limit)) released.1
    ∙ ap not may
