-- The last block of a lock tells its owner.
use Rattle.std.proofs.Common.{◌≡◌, ◌≢◌, ℕ, Bool, true, false, ◌||◌, List, [], ◌∷◌, ◌++◌, refl, sym, ap, subst, ◌∙◌, inl, inr, append_assoc, append-nil}
use Rattle.std.specs.Prelude.{Option, Some, None, IfSome, if◌then◌else◌}
use Rattle.std.proofs.lemmas.Bool.Decides.{eqb_tells}
use Rattle.std.proofs.lemmas.List.Elements.{filter-append}
use Rattle.std.proofs.lemmas.Bool.{or_from}
use Rattle.tc_isa.specs.Sets.{has}
use Rattle.tc_elf.specs.Shown.{Shown}
use Rattle.tc_journal.specs.Batch.{unlocks, ends_thread, ends_section, last_of}
use Rattle.tc_journal.specs.History.{of_lock}
use Rattle.tc_journal.specs.declared.block.Block.{Block}
use Rattle.tc_journal.proofs.Batching.{last_more}
use Rattle.tc_turn.specs.Turn.{Thread, Mutex, next_lock}
use Rattle.tc_mutex_spec.specs.Machine.{State, start, IsHeldByOwner}
use Rattle.tc_mutex_spec.specs.Blocks.{locks_of_block, reach, Stands, TellsAfter, Tells, owner_by}
use Rattle.tc_mutex_spec.proofs.BlocksAlike.{runs_apart}
use Rattle.tc_mutex_spec.proofs.Holds.{can_open, open_none, holds_reach, holds_start}
use Rattle.tc_mutex_spec.proofs.Going.{in_block, block_survives, block_gives}

module _ (image : Shown) (seen : List Block) (m to : State) (b : Block) (stands : Stands image seen m b to) (inv : IsHeldByOwner m) (k : ℕ) where
  abbrev d : Thread
  d = m.threads b.thread

  abbrev last : State
  last = reach image m b.thread b.turns

  after : IsHeldByOwner last
  after = holds_reach image m b.thread b.turns stands.runs.defined inv

  -- no other thread owns a lock of the block
  no_other : (u : ℕ) → u ≢ b.thread → locks_of_block d.held (next_lock image d) k ≡ true → (last.locks k).owner ≡ Some u → ⊥
  no_other u ne h owns =
      let same : last.threads u ≡ m.threads u = ap (λ (s : State). s.threads u) (sym stands.runs.last) ∙ (runs_apart image m to b.thread b.turns b.end stands.runs).threads u ne in
      let before : (m.locks k).owner ≡ Some u = (inv u k).0 (ap (λ (x : Thread). x.held k) (sym same) ∙ (after u k).1 owns) in
      elim (in_block d.held (next_lock image d) k h) [
        | inl was ↦ (let two : Some b.thread ≡ Some u = sym ((inv b.thread k).0 was) ∙ before in ne cc)
        | inr took ↦ (let none : None ≡ Some u = sym (open_none (next_lock image d) m.locks k (can_open image m b.thread (stands.runs.defined 0 stands.runs.some)) took) ∙ before in cc)
      ]

  in_it : locks_of_block d.held (next_lock image d) k ≡ true → (last.locks k).owner ≡ owner_by k (Some b)
  in_it h = go ((last.threads b.thread).held k) refl
    where
      none : (o : Option ℕ) → (last.locks k).owner ≡ o → (last.threads b.thread).held k ≡ false → o ≡ None
      none None e out = refl
      none (Some u) e out = absurd (elim (eqb_tells u b.thread) [
        | inl same ↦ (let f : true ≡ false = sym ((after b.thread k).1 (e ∙ ap Some same.1)) ∙ out in cc)
        | inr other ↦ no_other u other.1 h e
      ])

      go : (v : Bool) → (last.threads b.thread).held k ≡ v → (last.locks k).owner ≡ owner_by k (Some b)
      go true e =
          let on = block_survives image m to b.thread b.turns b.end stands.runs k e in
          (after b.thread k).0 e ∙ sym (ap (λ v. if v then None else Some b.thread) (or_from (unlocks k b.end) (ends_thread b.end) on.0 on.1))
      go false e =
          none (last.locks k).owner refl e ∙ sym (ap (λ v. if v then None else Some b.thread) (block_gives image m to b.thread b.turns b.end stands.runs k h e))

  out_of_it : locks_of_block d.held (next_lock image d) k ≡ false → last.locks k ≡ m.locks k
  out_of_it out = ap (λ (s : State). s.locks k) (sym stands.runs.last) ∙ (runs_apart image m to b.thread b.turns b.end stands.runs).locks k out

  one_more : (bs : List Block) → (m.locks k).owner ≡ owner_by k (last_of bs) → (last.locks k).owner ≡ owner_by k (last_of (bs ++ (if has b.held k then b ∷ [] else [])))
  one_more bs was = go (has b.held k) refl
    where
      go : (v : Bool) → has b.held k ≡ v → (last.locks k).owner ≡ owner_by k (last_of (bs ++ (if v then b ∷ [] else [])))
      go true e = in_it (sym (stands.held k) ∙ e) ∙ ap (owner_by k) (sym (last_more bs b))
      go false e = ap (λ (l : Mutex). l.owner) (out_of_it (sym (stands.held k) ∙ e)) ∙ was ∙ ap (λ xs. owner_by k (last_of xs)) (sym (append-nil bs))

-- so it is after further blocks
pub owner_after : (image : Shown) (k : ℕ) (seen h : List Block) (from m : State) → IsHeldByOwner from → (from.locks k).owner ≡ owner_by k (last_of (of_lock seen k))
    → TellsAfter image seen from h m → (m.locks k).owner ≡ owner_by k (last_of (of_lock (seen ++ h) k))
owner_after image k seen [] from m inv was told = ap (λ (s : State). (s.locks k).owner) (sym told) ∙ was ∙ ap (λ bs. owner_by k (last_of (of_lock bs k))) (sym (append-nil seen))
owner_after image k seen (b ∷ h) from m inv was told =
    let mid : told.0 ≡ reach image from b.thread b.turns = told.1.runs.last in
    let more : of_lock (seen ++ b ∷ []) k ≡ of_lock seen k ++ (if has b.held k then b ∷ [] else []) = filter-append (λ (c : Block). has c.held k) seen (b ∷ []) in
    owner_after image k (seen ++ b ∷ []) h (reach image from b.thread b.turns) m (holds_reach image from b.thread b.turns told.1.runs.defined inv)
    (one_more image seen from told.0 b told.1 inv k (of_lock seen k) was ∙ ap (λ bs. owner_by k (last_of bs)) (sym more))
    (subst (λ s. TellsAfter image (seen ++ b ∷ []) s h m) mid told.2)
    ∙ ap (λ bs. owner_by k (last_of (of_lock bs k))) (append_assoc seen (b ∷ []) h)

-- the owner of a lock, by the last of its blocks
pub owner_is : (image : Shown) (fuel : ℕ) (h : List Block) (m : State) (k : ℕ) → Tells image fuel h m → (m.locks k).owner ≡ owner_by k (last_of (of_lock h k))
owner_is image fuel h m k told = owner_after image k [] h (start image fuel) m (holds_start image fuel) refl told

pub no_owner : (image : Shown) (fuel : ℕ) (h : List Block) (m : State) (k : ℕ) → Tells image fuel h m → IfSome (last_of (of_lock h k)) (λ b. ends_section k b ≡ true) → (m.locks k).owner ≡ None
no_owner image fuel h m k told ended = owner_is image fuel h m k told ∙ none (last_of (of_lock h k)) ended
  where
    none : (o : Option Block) → IfSome o (λ b. ends_section k b ≡ true) → owner_by k o ≡ None
    none None e = refl
    none (Some b) e = ap (λ v. if v then None else Some b.thread) e
