-- Machines that differ in the owners of locks alone: no turn tells them apart.
use Rattle.std.proofs.Common.{◌≡◌, ℕ, zero, suc, ◌+◌, ◌==◌, sym, refl, ap, ◌∙◌, Option, Some, None}
use Rattle.tc_hall.proofs.Vocabulary.{Mutex, Shown, State, Thread, end_at, end_rule, next_lock, outcome_of, unowned}
use Rattle.std.specs.Prelude.{if◌then◌else◌, unwrap_or}
use Rattle.tc_elf.specs.Shown.{guard_at}
use Rattle.tc_elf.specs.declared.image.Region.{Region}
use Rattle.tc_elf.specs.declared.image.Region.TheVariants as region
use Rattle.tc_exec.specs.Step.{wants_of}
use Rattle.tc_exec.specs.declared.outcome.Want.{Want}
use Rattle.tc_exec.specs.declared.outcome.Want.TheVariants as want
use Rattle.tc_turn.specs.Memory.{number_at, byte_from}
use Rattle.tc_turn.specs.Turn.{next_act, act_with, answer_to, byte_at, lock_answer, thread_after, mutex_after}
use Rattle.tc_mutex_spec.specs.Machine.{after}
use Rattle.tc_mutex_spec.specs.Blocks.{reach}
use Rattle.tc_mutex_spec.proofs.Replaying.{unowned_after}

pub record IsUnownedSame (m n : State) : Type 0 where
  pub threads : (u : ℕ) → m.threads u ≡ n.threads u
  pub locks : (k : ℕ) → unowned (m.locks k) ≡ unowned (n.locks k)

byte_same : (image : Shown) (own : ℕ → Option ℕ) (a b : ℕ → Mutex) → ((k : ℕ) → unowned (a k) ≡ unowned (b k)) → (place : Region) (at : ℕ) → byte_at image own a place at ≡ byte_at image own b place at
byte_same image own a b same region.Text at = refl
byte_same image own a b same region.Private at = refl
byte_same image own a b same region.Stack at = refl
byte_same image own a b same (region.Guard lock) at = ap (λ (l : Mutex). unwrap_or (byte_from (guard_at image lock).start l.bytes at) 0) (same lock)
byte_same image own a b same region.Nothing at = refl

answer_same : (image : Shown) (own : ℕ → Option ℕ) (a b : ℕ → Mutex) → ((k : ℕ) → unowned (a k) ≡ unowned (b k)) → (wanted : Want) (next : Option ℕ) → answer_to image wanted next own a ≡ answer_to image wanted next own b
answer_same image own a b same (want.Load place addr width) next = λ i. number_at (λ at. byte_same image own a b same place at i) addr width
answer_same image own a b same want.Nothing (Some lock) = ap lock_answer (same lock)
answer_same image own a b same want.Nothing None = refl

act_same : (image : Shown) (d : Thread) (a b : ℕ → Mutex) → ((k : ℕ) → unowned (a k) ≡ unowned (b k)) → next_act image d a ≡ next_act image d b
unfolding next_act
act_same image d a b same = ap (act_with image d) (answer_same image d.own a b same (wants_of image d.held d.regs) (next_lock image d))

module _ (image : Shown) (t : ℕ) where
  acts_same : (m n : State) → IsUnownedSame m n → next_act image (m.threads t) m.locks ≡ next_act image (n.threads t) n.locks
  acts_same m n same = ap (λ (d : Thread). next_act image d m.locks) (same.threads t) ∙ act_same image (n.threads t) m.locks n.locks same.locks

  after_same : (m n : State) → IsUnownedSame m n → IsUnownedSame (after image m t) (after image n t)
  unfolding after
  after_same m n same = record {
    threads = λ u i. if u == t then thread_after (same.threads t i) (acts_same m n same i) else same.threads u i;
    locks = λ k. sym (unowned_after image t (m.threads t).held (next_act image (m.threads t) m.locks) k (m.locks k))
        ∙ ((λ i. unowned (mutex_after image t (same.threads t i).held (acts_same m n same i) k (same.locks k i)))
        ∙ unowned_after image t (n.threads t).held (next_act image (n.threads t) n.locks) k (n.locks k));
  }

  pub reach_same : (m n : State) → IsUnownedSame m n → (j : ℕ) → IsUnownedSame (reach image m t j) (reach image n t j)
  reach_same m n same zero = same
  reach_same m n same (suc j) = after_same (reach image m t j) (reach image n t j) (reach_same m n same j)

  pub end_same : (m n : State) → IsUnownedSame m n → (j : ℕ) → end_at image m t j ≡ end_at image n t j
  end_same m n same j =
      let acts = acts_same (reach image m t j) (reach image n t j) (reach_same m n same j) in
      let nexts = ap (next_lock image) ((reach_same m n same (suc j)).threads t) in
      λ i. end_rule (outcome_of (acts i)) (j + 1) (nexts i)
