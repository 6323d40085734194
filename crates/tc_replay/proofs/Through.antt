-- A history that a checker goes through, block by block.
use Rattle.std.proofs.Common.{◌≡◌, ℕ, suc, ◌+◌, ◌<◌, ◌≤◌, true, false, List, [], ◌∷◌, ◌++◌, map, length, take, drop, refl, sym, ap, subst, ◌∙◌, arith, append_assoc, append-nil}
use Rattle.std.proofs.lemmas.List.{take-append-drop, length-take-le, take_all}
use Rattle.std.proofs.lemmas.List.FromFn.{get_or-range_with_len}
use Rattle.std.proofs.Math.Seq.{take-suc}
use Rattle.std.specs.Prelude.{Option, Some, None, Result, Ok, is_some}
use lib.ListN.{get_elem?}
use mathlib.Core.Option.{some}
use Rattle.std.specs.List.{range_with_len}
use Rattle.tc_isa.specs.declared.options.Options.{Options as Terms}
use Rattle.tc_elf.specs.Shown.{Shown}
use Rattle.tc_journal.specs.History.{IsHistoryFrom, IsInOrder}
use Rattle.tc_journal.specs.declared.block.Block.{Block}
use Rattle.tc_mutex_spec.specs.Blocks.{IsComplete, end_after}
use Rattle.tc_mutex_spec.proofs.ListLaws.{there}
use Rattle.tc_segment.specs.View.{LockView}
use Rattle.tc_context.specs.View.{PackageView, bare}
use Rattle.tc_law.specs.Lawful.{StandsAt}
use Rattle.tc_law.proofs.Lawful.{one_history}
use Rattle.tc_replay.specs.Rejected.{AreRight, IsAccepted, IsFirstOn, IsRejected, IsWrong}
use Rattle.tc_replay.specs.Taken.{AreTaken, CheckerView, HasEnded, HasTaken, HasWhatItTook}
use Rattle.tc_replay.specs.declared.checking.Verdict.{Verdict}
use Rattle.tc_replay.specs.declared.checking.Verdict.TheVariants as verdict
use Rattle.tc_replay.specs.declared.reason.Reason.{Reason}
use Rattle.tc_replay.specs.declared.reason.Reason.TheVariants as reason
use Rattle.tc_replay.specs.declared.reason.Rejected.{Rejected}
use Rattle.tc_replay.proofs.Keeping.{at_map}

-- packages have taken one history
pub one_taken : (image : Shown) (terms : Terms) (g h : List Block) (packages : List PackageView) (home : List (Option LockView)) → AreTaken image terms g packages home → AreTaken image terms h packages home → g ≡ h
one_taken image terms g h packages home one two = one_history image terms.fuel terms.limit g h (map bare packages) one.0 two.0 one.1.law two.1.law

-- what is read of a text is in order
pub in_order_from : (first : ℕ) (h : List Block) → IsHistoryFrom first h → map (λ (b : Block). b.stamp) h ≡ range_with_len first (length h)
in_order_from first [] is = refl
in_order_from first (b ∷ h) is = λ i. is.1 i ∷ in_order_from (first + 1) h is.2 i

-- a block of a history in order has its place for its stamp
stamp_is : (history : List Block) (i : ℕ) (b : Block) → IsInOrder history → StandsAt history i b → b.stamp ≡ i
stamp_is history i b order e =
    let at : get_elem? (range_with_len 0 (length history)) i ≡ some b.stamp = subst (λ l. get_elem? l i ≡ some b.stamp) order (at_map (λ (x : Block). x.stamp) history i b e) in
    let lt = (there history i b b e).0 in
    sym (there (range_with_len 0 (length history)) i b.stamp 0 at).1 ∙ get_or-range_with_len 0 (length history) i 0 lt ∙ (let z : 0 + i ≡ i = omega arith in z)

module _ (c : CheckerView) (history : List Block) (i : ℕ) (b : Block) (here : StandsAt history i b) where
  lt : i < length history
  lt = (there history i b b here).0

  long : length (take i history) ≡ i
  long = length-take-le i history (omega (arith, lt))

  -- it is the number of the blocks that were taken
  pub next_stamp : HasTaken c (take i history) → IsInOrder history → b.stamp ≡ length c.taken
  next_stamp taken order = stamp_is history i b order here ∙ sym (ap (λ (l : List Block). length l) taken.taken ∙ long)

  pub take_more : take i history ++ b ∷ [] ≡ take (i + 1) history
  take_more = ap (λ x. take i history ++ x ∷ []) (sym (there history i b b here).1) ∙ sym (take-suc history i b lt) ∙ ap (λ n. take n history) (let more : suc i ≡ i + 1 = omega arith in more)

  -- it is the first that is wrong
  pub rejected_at : (image : Shown) (terms : Terms) (r : Reason) (line : ℕ) → line ≡ i + 1 → AreRight image terms (take i history) → IsWrong image terms (take i history) (end_after image terms.fuel (take i history)) b r → IsRejected image terms history line r
  rejected_at image terms r line is right wrong = record {
    before = take i history;
    rest = b ∷ drop (i + 1) history;
    whole = sym (take-append-drop (i + 1) history) ∙ ap (λ l. l ++ drop (i + 1) history) (sym take_more) ∙ append_assoc (take i history) (b ∷ []) (drop (i + 1) history);
    place = is ∙ ap (λ n. n + 1) (sym long);
    right = right;
    wrong = wrong;
  }

-- or what is wrong is that it ends while a thread goes on
pub rejected_end : (image : Shown) (terms : Terms) (history : List Block) (line t : ℕ) → line ≡ length history + 1 → AreRight image terms history → IsFirstOn image (end_after image terms.fuel history) t → IsRejected image terms history line reason.Incomplete
rejected_end image terms history line t is right on = record {
  before = history;
  rest = [];
  whole = sym (append-nil history);
  place = is;
  right = right;
  wrong = (refl, λ complete. absurd (let f : true ≡ false = sym on.runs ∙ complete t on.known in cc));
}

-- ---- what a checker that went through it says

pub some_there : (o : Option ℕ) → is_some o ≡ true → (t : ℕ) × (o ≡ Some t)
some_there None e = absurd (cc)
some_there (Some t) e = (t, refl)

pub none_there : (o : Option ℕ) → is_some o ≡ false → o ≡ None
none_there None e = refl
none_there (Some t) e = absurd (cc)

pub told_rejection : {E : Type 0} (a b : Result Verdict E) (x r : Rejected) → a ≡ Ok (verdict.Rejected x) → b ≡ Ok (verdict.Rejected r) → a ≡ b → x ≡ r
told_rejection {E = E} a b x r p q e = (let f : Ok (verdict.Rejected x) ≡ Ok (verdict.Rejected r) = sym p ∙ e ∙ q in cc)

pub told_acceptance : {E : Type 0} (a b : Result Verdict E) (x y : CheckerView) → a ≡ Ok (verdict.Accepted x) → b ≡ Ok (verdict.Accepted y) → a ≡ b → x ≡ y
told_acceptance {E = E} a b x y p q e = (let f : Ok (verdict.Accepted x) ≡ Ok (verdict.Accepted y) = sym p ∙ e ∙ q in cc)

module _ (c : CheckerView) (image : Shown) (terms : Terms) (history : List Block) (of : c.image ≡ image) (made : c.terms ≡ terms) (keeps : HasWhatItTook c) where
  right_by : (h : List Block) → HasTaken c h → AreRight image terms h
  right_by h taken = subst (λ (x : Shown × Terms × List Block). AreRight x.0 x.1 x.2) (λ i. (of i, made i, taken.taken i)) (keeps taken.on).1.right

  pub rejected_by : (i : ℕ) (b : Block) → StandsAt history i b → HasTaken c (take i history) → (r : Reason) → IsWrong image c.terms c.taken (end_after image c.terms.fuel c.taken) b r
      → (line : ℕ) → line ≡ i + 1 → IsRejected image terms history line r
  rejected_by i b here taken r wrong line is =
      rejected_at c history i b here image terms r line is (right_by (take i history) taken)
      (subst (λ (t : Terms × List Block). IsWrong image t.0 t.1 (end_after image t.0.fuel t.1) b r) (λ j. (made j, taken.taken j)) wrong)

  module _ (i : ℕ) (end : length history ≤ i) (taken : HasTaken c (take i history)) where
    pub whole_by : HasTaken c history
    whole_by = subst (HasTaken c) (take_all i history end) taken

    pub cut_short : (t : ℕ) → IsFirstOn c.image (end_after c.image c.terms.fuel c.taken) t → IsRejected image terms history (length history + 1) reason.Incomplete
    cut_short t on = rejected_end image terms history (length history + 1) t refl (right_by history whole_by)
        (subst (λ (x : Shown × Terms × List Block). IsFirstOn x.0 (end_after x.0 x.1.fuel x.2) t) (λ j. (of j, made j, whole_by.taken j)) on)

    pub accepted_by : HasEnded c → IsAccepted image terms history
    accepted_by ended = record {
      right = right_by history whole_by;
      complete = subst (λ (x : Shown × Terms × List Block). IsComplete x.0 (end_after x.0 x.1.fuel x.2)) (λ j. (of j, made j, whole_by.taken j)) ended;
    }
