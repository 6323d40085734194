-- The entries of a history that grows at its end.
use Rattle.std.proofs.Common.{◌≡◌, ◌≢◌, ℕ, Bool, true, false, not, ◌||◌, ◌==◌, List, [], ◌∷◌, ◌++◌, map, refl, sym, ap, subst, ◌∙◌, if◌then◌else◌, inl, inr}
use Rattle.tc_isa.specs.Sets.{has}
use Rattle.tc_elf.specs.Shown.{Shown}
use Rattle.tc_journal.specs.History.{of_lock, of_thread}
use Rattle.tc_journal.specs.declared.block.Block.{Block}
use Rattle.tc_turn.specs.Replay.{Entry, block_in}
use Rattle.tc_mutex_spec.specs.Machine.{State}
use Rattle.tc_mutex_spec.specs.Blocks.{reach, has_block, TellsAfter, led_to}
use Rattle.tc_mutex_spec.specs.Entries.{entry_of, with_front, entries_after}

-- a history tells of one end
pub tells_end : (image : Shown) (seen h : List Block) (from m : State) → TellsAfter image seen from h m → m ≡ led_to image from h
tells_end image seen [] from m told = sym told
tells_end image seen (b ∷ h) from m told =
    let mid : told.0 ≡ reach image from b.thread b.turns = told.1.runs.last in
    tells_end image (seen ++ b ∷ []) h (reach image from b.thread b.turns) m (subst (λ s. TellsAfter image (seen ++ b ∷ []) s h m) mid told.2)

front_append : (v : Bool) (e : Entry) (es fs : List Entry) → with_front v e (es ++ fs) ≡ with_front v e es ++ fs
front_append true e es fs = refl
front_append false e es fs = refl

-- one block more gives its lock's journal one entry more
pub entries_more : (image : Shown) (k : ℕ) (seen h : List Block) (from m : State) (b : Block) → TellsAfter image seen from h m
    → entries_after image k from (h ++ b ∷ []) ≡ entries_after image k from h ++ with_front (has b.held k) (entry_of image k m b) []
entries_more image k seen [] from m b told = ap (λ s. with_front (has b.held k) (entry_of image k s b) []) told
entries_more image k seen (x ∷ h) from m b told =
    let mid : told.0 ≡ reach image from x.thread x.turns = told.1.runs.last in
    ap (with_front (has x.held k) (entry_of image k from x))
    (entries_more image k (seen ++ x ∷ []) h (reach image from x.thread x.turns) m b (subst (λ s. TellsAfter image (seen ++ x ∷ []) s h m) mid told.2))
    ∙ front_append (has x.held k) (entry_of image k from x) (entries_after image k (reach image from x.thread x.turns) h) (with_front (has b.held k) (entry_of image k m b) [])

front_block : (k : ℕ) (b : Block) (e : Entry) (es : List Entry) (h : List Block) → e.block ≡ b → map block_in es ≡ of_lock h k → map block_in (with_front (has b.held k) e es) ≡ of_lock (b ∷ h) k
front_block k b e es h is rest = elim (has b.held k) as (λ v. map block_in (with_front v e es) ≡ (if v then b ∷ of_lock h k else of_lock h k)) [
  | true ↦ λ i. is i ∷ rest i
  | false ↦ rest
]

-- the blocks of the entries are those of the lock
pub entries_blocks : (image : Shown) (k : ℕ) (m : State) (h : List Block) → map block_in (entries_after image k m h) ≡ of_lock h k
entries_blocks image k m [] = refl
entries_blocks image k m (b ∷ h) = front_block k b (entry_of image k m b) (entries_after image k (reach image m b.thread b.turns) h) h refl (entries_blocks image k (reach image m b.thread b.turns) h)

is_none : List Block → Bool
is_none [] = true
is_none (b ∷ bs) = false

-- a thread has a block exactly where its blocks aren't none
has_none : (h : List Block) (t : ℕ) → has_block h t ≡ not (is_none (of_thread h t))
unfolding is_none
has_none [] t = refl
has_none (b ∷ h) t = elim (b.thread == t) as (λ v. (v || has_block h t) ≡ not (is_none (if v then b ∷ of_thread h t else of_thread h t))) [
  | true ↦ refl
  | false ↦ has_none h t
]

pub seen_none : (h : List Block) (t : ℕ) → of_thread h t ≡ [] → has_block h t ≡ false
unfolding is_none
seen_none h t none = has_none h t ∙ ap (λ l. not (is_none l)) none

pub seen_some : (h : List Block) (t : ℕ) (b : Block) (bs : List Block) → of_thread h t ≡ b ∷ bs → has_block h t ≡ true
unfolding is_none
seen_some h t b bs some = has_none h t ∙ ap (λ l. not (is_none l)) some
