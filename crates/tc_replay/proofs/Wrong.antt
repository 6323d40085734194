-- A history is rejected at one place for one reason, and not where it is accepted.
use Rattle.std.proofs.Common.{◌≡◌, ◌⊎◌, ◌<◌, ◌==◌, ℕ, suc, List, [], ◌∷◌, ◌++◌, length, refl, sym, ap, subst, ◌∙◌, arith, append_assoc, append-nil, inl, inr}
use Rattle.std.specs.Prelude.{if◌then◌else◌}
use Rattle.tc_isa.specs.declared.options.Options.{Options as Terms}
use Rattle.tc_elf.specs.Shown.{Shown}
use Rattle.tc_journal.specs.declared.block.Block.{Block}
use Rattle.tc_mutex_spec.specs.Machine.{State}
use Rattle.tc_mutex_spec.specs.Blocks.{end_after, IsComplete}
use Rattle.tc_replay.specs.Reasons.{reason_number}
use Rattle.tc_replay.specs.Rejected.{IsOfThread, IsFree, IsBlockOf, IsOfKind, Meets, IsWrong, IsRight, AreRightAfter, AreRight, IsWrongNext, IsRejected, IsAccepted}
use Rattle.tc_replay.specs.declared.reason.Reason.{Reason}
use Rattle.tc_replay.specs.declared.reason.Reason.TheVariants as reason

-- ---- reasons by number

number_cases : (n k : ℕ) → (n < k) ⊎ ((k < n) ⊎ (n ≡ k))
number_cases n k = grind arith

by_number : ℕ → Reason
by_number n =
    if n == 1 then reason.Text else if n == 2 then reason.Thread else if n == 3 then reason.Owner else if n == 4 then reason.Block else if n == 5 then reason.Kind else if n == 6 then reason.Worker else reason.Incomplete

number_is : (r : Reason) → by_number (reason_number r) ≡ r
unfolding by_number reason_number
number_is reason.Text = refl
number_is reason.Thread = refl
number_is reason.Owner = refl
number_is reason.Block = refl
number_is reason.Kind = refl
number_is reason.Worker = refl
number_is reason.Incomplete = refl

same_number : (r s : Reason) → reason_number r ≡ reason_number s → r ≡ s
same_number r s e = sym (number_is r) ∙ ap by_number e ∙ number_is s

-- ---- what comes before a reason

module _ (image : Shown) (terms : Terms) (h : List Block) (m : State) (b : Block) where
  abbrev Before : Reason → Type 0
  Before r = (s : Reason) → reason_number s < reason_number r → Meets image terms h m b s

  pub before_thread : Before reason.Thread
  unfolding reason_number
  before_thread reason.Text less = tt
  before_thread reason.Incomplete less = tt
  before_thread _ less = absurd (omega (arith, less))

  pub before_owner : IsOfThread image m b → Before reason.Owner
  unfolding reason_number
  before_owner thread reason.Thread less = thread
  before_owner thread reason.Text less = tt
  before_owner thread reason.Incomplete less = tt
  before_owner thread _ less = absurd (omega (arith, less))

  pub before_block : IsOfThread image m b → IsFree image m b → Before reason.Block
  unfolding reason_number
  before_block thread free reason.Text less = tt
  before_block thread free reason.Thread less = thread
  before_block thread free reason.Owner less = free
  before_block thread free reason.Incomplete less = tt
  before_block thread free _ less = absurd (omega (arith, less))

  pub before_kind : IsOfThread image m b → IsFree image m b → IsBlockOf image m b → Before reason.Kind
  unfolding reason_number
  before_kind thread free block reason.Text less = tt
  before_kind thread free block reason.Thread less = thread
  before_kind thread free block reason.Owner less = free
  before_kind thread free block reason.Block less = block
  before_kind thread free block reason.Incomplete less = tt
  before_kind thread free block _ less = absurd (omega (arith, less))

  pub before_worker : IsOfThread image m b → IsFree image m b → IsBlockOf image m b → IsOfKind image terms.limit h m b → Before reason.Worker
  unfolding reason_number
  before_worker thread free block kind reason.Text less = tt
  before_worker thread free block kind reason.Thread less = thread
  before_worker thread free block kind reason.Owner less = free
  before_worker thread free block kind reason.Block less = block
  before_worker thread free block kind reason.Kind less = kind
  before_worker thread free block kind reason.Incomplete less = tt
  before_worker thread free block kind reason.Worker less = absurd (omega (arith, less))

module _ (image : Shown) (terms : Terms) where
  -- what is right is wrong for no reason
  pub not_wrong : (h : List Block) (m : State) (b : Block) (r : Reason) → IsRight image terms h m b → IsWrong image terms h m b r → ⊥
  not_wrong h m b reason.Text right wrong = wrong.fails tt
  not_wrong h m b reason.Thread right wrong = wrong.fails right.thread
  not_wrong h m b reason.Owner right wrong = wrong.fails right.free
  not_wrong h m b reason.Block right wrong = wrong.fails right.block
  not_wrong h m b reason.Kind right wrong = wrong.fails right.kind
  not_wrong h m b reason.Worker right wrong = wrong.fails right.worker
  not_wrong h m b reason.Incomplete right wrong = wrong.fails tt

  -- a block is wrong for one reason
  pub one_reason : (h : List Block) (m : State) (b : Block) (r s : Reason) → IsWrong image terms h m b r → IsWrong image terms h m b s → r ≡ s
  one_reason h m b r s one two = go (number_cases (reason_number r) (reason_number s))
    where
      go : (reason_number r < reason_number s) ⊎ ((reason_number s < reason_number r) ⊎ (reason_number r ≡ reason_number s)) → r ≡ s
      go (inl less) = absurd (one.fails (two.before r less))
      go (inr (inl more)) = absurd (two.fails (one.before s more))
      go (inr (inr same)) = same_number r s same

  same_next : (before rest : List Block) (r s : Reason) → IsWrongNext image terms before rest r → IsWrongNext image terms before rest s → r ≡ s
  same_next before [] r s one two = one.0 ∙ sym two.0
  same_next before (b ∷ rest) r s one two = one_reason before (end_after image terms.fuel before) b r s one two

  abbrev Next : List Block → List Block → Reason → Type 0
  Next before rest r = IsWrongNext image terms before rest r

  one_place : (seen b1 r1 b2 r2 : List Block) (r s : Reason) → b1 ++ r1 ≡ b2 ++ r2 → AreRightAfter image terms seen b1 → AreRightAfter image terms seen b2 → Next (seen ++ b1) r1 r → Next (seen ++ b2) r2 s → (length b1 ≡ length b2) × (r ≡ s)
  one_place seen [] r1 [] r2 r s e right1 right2 one two = (refl, same_next (seen ++ []) r2 r s (subst (λ l. Next (seen ++ []) l r) e one) two)
  one_place seen [] r1 (y ∷ b2) r2 r s e right1 right2 one two =
      absurd (not_wrong seen (end_after image terms.fuel seen) y r right2.0 (subst (λ l. Next l (y ∷ b2 ++ r2) r) (append-nil seen) (subst (λ l. Next (seen ++ []) l r) e one)))
  one_place seen (x ∷ b1) r1 [] r2 r s e right1 right2 one two =
      absurd (not_wrong seen (end_after image terms.fuel seen) x s right1.0 (subst (λ l. Next l (x ∷ b1 ++ r1) s) (append-nil seen) (subst (λ l. Next (seen ++ []) l s) (sym e) two)))
  one_place seen (x ∷ b1) r1 (y ∷ b2) r2 r s e right1 right2 one two =
      let head : y ≡ x = cc in
      let tail : b1 ++ r1 ≡ b2 ++ r2 = cc in
      let rest = one_place (seen ++ x ∷ []) b1 r1 b2 r2 r s tail right1.1 (subst (λ z. AreRightAfter image terms (seen ++ z ∷ []) b2) head right2.1)
      (subst (λ l. Next l r1 r) (sym (append_assoc seen (x ∷ []) b1)) one)
      (subst (λ l. Next l r2 s) (sym (append_assoc seen (x ∷ []) b2)) (subst (λ z. Next (seen ++ z ∷ b2) r2 s) head two)) in
      (ap suc rest.0, rest.1)

  pub one_rejection : (h : List Block) (line other : ℕ) (r s : Reason) → IsRejected image terms h line r → IsRejected image terms h other s → (line ≡ other) × (r ≡ s)
  one_rejection h line other r s one two =
      let same = one_place [] one.before one.rest two.before two.rest r s (sym one.whole ∙ two.whole) one.right two.right one.wrong two.wrong in
      (omega (arith, one.place, two.place, same.0), same.1)

  right_at : (seen before rest : List Block) (r : Reason) → AreRightAfter image terms seen (before ++ rest) → Next (seen ++ before) rest r → (rest ≡ []) × (IsComplete image (end_after image terms.fuel (seen ++ before)) → ⊥)
  right_at seen [] [] r right wrong = (refl, wrong.1)
  right_at seen [] (b ∷ rest) r right wrong = absurd (not_wrong seen (end_after image terms.fuel seen) b r right.0 (subst (λ l. Next l (b ∷ rest) r) (append-nil seen) wrong))
  right_at seen (x ∷ before) rest r right wrong =
      let more = right_at (seen ++ x ∷ []) before rest r right.1 (subst (λ l. Next l rest r) (sym (append_assoc seen (x ∷ []) before)) wrong) in
      (more.0, subst (λ l. IsComplete image (end_after image terms.fuel l) → ⊥) (append_assoc seen (x ∷ []) before) more.1)

  pub never_both : (h : List Block) (line : ℕ) (r : Reason) → IsRejected image terms h line r → IsAccepted image terms h → ⊥
  never_both h line r rejected accepted =
      let at = right_at [] rejected.before rejected.rest r (subst (AreRight image terms) rejected.whole accepted.right) rejected.wrong in
      let all : rejected.before ≡ h = sym (rejected.whole ∙ ap (λ l. rejected.before ++ l) at.0 ∙ append-nil rejected.before) in
      at.1 (subst (λ l. IsComplete image (end_after image terms.fuel l)) (sym all) accepted.complete)
