-- Each block of a run can be added to a profile: its thread and its locks are those of the image.
use Rattle.std.proofs.Common.{◌≡◌, ℕ, zero, suc, ◌+◌, ◌<◌, ◌==◌, ◌||◌, true, false, inl, inr, List, [], ◌∷◌, ◌++◌, length, refl, sym, ap, subst, ◌∙◌}
use Rattle.std.specs.Prelude.{Option, Some, None, if◌then◌else◌, nat_lt}
use Rattle.std.proofs.lemmas.Bool.Decides.{eqb_tells}
use mathlib.Core.Option.{some, some-injective, some-ne-none}
use lib.ListN.{get_elem?}
use Rattle.tc_elf.specs.Shown.{Shown}
use Rattle.tc_journal.specs.History.{IsHistoryFrom}
use Rattle.tc_journal.specs.declared.block.Block.{Block}
use Rattle.tc_turn.specs.Turn.{Thread, next_act, next_lock, no_thread, thread_after, thread_at_start}
use Rattle.tc_turn.proofs.Turns.{held_known, next_known}
use Rattle.tc_mutex_spec.specs.Machine.{State, after, start}
use Rattle.tc_mutex_spec.specs.Blocks.{TellsAfter, locks_of_block, reach}
use Rattle.tc_mutex_spec.proofs.Holds.{can_thread}
use Rattle.tc_main.specs.Accepted.{CanAllBeAdded, CanBeAdded}

-- threads hold no locks but those of the image
abbrev HoldsKnown : Shown → State → Type 0
HoldsKnown image m = (t k : ℕ) → (m.threads t).held k ≡ true → k < length image.guards

known_at_start : (image : Shown) (fuel : ℕ) → HoldsKnown image (start image fuel)
known_at_start image fuel t k = elim (nat_lt t (length image.entries)) as (λ v. (if v then thread_at_start image fuel t else no_thread).held k ≡ true → k < length image.guards) [
  | true ↦ λ h. absurd (cc)
  | false ↦ λ h. absurd (cc)
]

known_after : (image : Shown) (m : State) (t : ℕ) → HoldsKnown image m → HoldsKnown image (after image m t)
unfolding after
known_after image m t known u k =
    elim (u == t) as (λ v. (if v then thread_after (m.threads t) (next_act image (m.threads t) m.locks) else m.threads u).held k ≡ true → k < length image.guards) [
      | true ↦ held_known image (m.threads t) m.locks (known t) k
      | false ↦ known u k
    ]

known_reach : (image : Shown) (m : State) (t n : ℕ) → HoldsKnown image m → HoldsKnown image (reach image m t n)
known_reach image m t zero known = known
known_reach image m t (suc n) known = known_after image (reach image m t n) t (known_reach image m t n known)

block_known : (image : Shown) (d : Thread) (k : ℕ) (o : Option ℕ) → ((j : ℕ) → d.held j ≡ true → j < length image.guards) → next_lock image d ≡ o → locks_of_block d.held o k ≡ true → k < length image.guards
block_known image d k None known next h = known k h
block_known image d k (Some lock) known next h = elim (eqb_tells k lock) [
  | inl x ↦ subst (λ j. j < length image.guards) (sym x.1) (next_known image d lock next)
  | inr x ↦ known k (ap (λ v. v || d.held k) (sym x.0) ∙ h)
]

pub addable_from : (image : Shown) (seen h : List Block) (from m : State) (first : ℕ) → TellsAfter image seen from h m → IsHistoryFrom first h → HoldsKnown image from → (i : ℕ) (b : Block) → get_elem? h i ≡ some b → CanBeAdded image b
addable_from image seen [] from m first told is known i b e = absurd (some-ne-none b (sym e))
addable_from image seen (c ∷ cs) from m first told is known zero b e = subst (CanBeAdded image) (some-injective c b e) (record {
  thread = can_thread image from c.thread (told.1.runs.defined 0 told.1.runs.some);
  locks = λ k h. block_known image (from.threads c.thread) k (next_lock image (from.threads c.thread)) (known c.thread) refl (sym (told.1.held k) ∙ h);
  turns = is.0.most_turns;
})
addable_from image seen (c ∷ cs) from m first told is known (suc i) b e =
    addable_from image (seen ++ c ∷ []) cs told.0 m (first + 1) told.2 is.2 (subst (HoldsKnown image) (sym told.1.runs.last) (known_reach image from c.thread c.turns known)) i b e

pub addable : (image : Shown) (fuel : ℕ) (h : List Block) (m : State) → TellsAfter image [] (start image fuel) h m → IsHistoryFrom 0 h → CanAllBeAdded image h
addable image fuel h m told is = addable_from image [] h (start image fuel) m 0 told is (known_at_start image fuel)
