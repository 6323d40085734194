-- The blocks of a history by their places: those of a thread, their stamps and their threads.
use Rattle.std.proofs.Common.{◌≡◌, ℕ, zero, suc, ◌+◌, ◌<◌, ◌==◌, Bool, true, false, List, [], ◌∷◌, ◌++◌, length, sym, ap, subst, ◌∙◌, arith, if◌then◌else◌}
use Rattle.std.proofs.lemmas.Bool.Decides.{nat_tests}
use mathlib.Core.Option.{some, some-injective, some-ne-none}
use lib.ListN.{get_elem?}
use Rattle.tc_elf.specs.Shown.{Shown}
use Rattle.tc_journal.specs.History.{IsHistoryFrom, of_thread}
use Rattle.tc_journal.specs.declared.block.Block.{Block}
use Rattle.tc_mutex_spec.specs.Machine.{State}
use Rattle.tc_mutex_spec.specs.Blocks.{TellsAfter}
use Rattle.tc_mutex_spec.proofs.Holds.{can_thread}

-- a block of the history is in its thread's log
pub filter_has : (t : ℕ) (h : List Block) (i : ℕ) (b : Block) → get_elem? h i ≡ some b → b.thread ≡ t → (j : ℕ) × (get_elem? (of_thread h t) j ≡ some b)
filter_has t [] i b e is = absurd (some-ne-none b (sym e))
filter_has t (c ∷ cs) zero b e is =
    let same : c ≡ b = some-injective c b e in
    let hit : (c.thread == t) ≡ true = let m : c.thread ≡ t = ap (λ (z : Block). z.thread) same ∙ is in grind (arith, nat_tests) in
    (0, ap (λ (v : Bool). get_elem? (if v then c ∷ of_thread cs t else of_thread cs t) 0) hit ∙ e)
filter_has t (c ∷ cs) (suc i) b e is = (let r = filter_has t cs i b e is in more (c.thread == t) c (of_thread cs t) r.0 b r.1)
  where
    more : (v : Bool) (c : Block) (l : List Block) (j : ℕ) (b : Block) → get_elem? l j ≡ some b → (m : ℕ) × (get_elem? (if v then c ∷ l else l) m ≡ some b)
    more true c l j b e = (suc j, e)
    more false c l j b e = (j, e)

-- what is in a thread's log is in the history
pub filter_from : (t : ℕ) (h : List Block) (j : ℕ) (b : Block) → get_elem? (of_thread h t) j ≡ some b → (i : ℕ) × (get_elem? h i ≡ some b)
filter_from t [] j b e = absurd (some-ne-none b (sym e))
filter_from t (c ∷ cs) j b e = from_head (c.thread == t) c cs (of_thread cs t) j b (λ k f. filter_from t cs k b f) e
  where
    from_head : (v : Bool) (c : Block) (cs l : List Block) (j : ℕ) (b : Block) → ((k : ℕ) → get_elem? l k ≡ some b → (i : ℕ) × (get_elem? cs i ≡ some b)) → get_elem? (if v then c ∷ l else l) j ≡ some b → (i : ℕ) × (get_elem? (c ∷ cs) i ≡ some b)
    from_head true c cs l zero b tail e = (0, e)
    from_head true c cs l (suc k) b tail e = (let r = tail k e in (suc r.0, r.1))
    from_head false c cs l k b tail e = (let r = tail k e in (suc r.0, r.1))

pub stamp_at : (first : ℕ) (h : List Block) (i : ℕ) (b : Block) → IsHistoryFrom first h → get_elem? h i ≡ some b → b.stamp ≡ first + i
stamp_at first [] i b is e = absurd (some-ne-none b (sym e))
stamp_at first (c ∷ cs) zero b is e = (let f : c.stamp ≡ b.stamp = ap (λ (z : Block). z.stamp) (some-injective c b e) in let g = is.1 in omega (arith, f, g))
stamp_at first (c ∷ cs) (suc i) b is e = (let r = stamp_at (first + 1) cs i b is.2 e in omega (arith, r))

-- each block of a history that tells is that of a thread
pub thread_at : (image : Shown) (seen h : List Block) (from m : State) → TellsAfter image seen from h m → (i : ℕ) (b : Block) → get_elem? h i ≡ some b → b.thread < length image.entries
thread_at image seen [] from m told i b e = absurd (some-ne-none b (sym e))
thread_at image seen (c ∷ cs) from m told zero b e =
    subst (λ (z : Block). z.thread < length image.entries) (some-injective c b e) (can_thread image from c.thread (told.1.runs.defined 0 told.1.runs.some))
thread_at image seen (c ∷ cs) from m told (suc i) b e = thread_at image (seen ++ c ∷ []) cs told.0 m told.2 i b e
