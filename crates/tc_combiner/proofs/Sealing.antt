-- A package whose block is sealed, and what is out then.
use Rattle.std.proofs.Common.{◌≡◌, ℕ, ◌==◌, Bool, true, false, if◌then◌else◌, [], ◌∷◌, ◌++◌, inr, refl, sym, ap, ◌∙◌, subst, Option, Some, None, is_some}
use Rattle.tc_combiner.proofs.Vocabulary.{Block, DeskView, DidRun, DidSeal, HallTerms, Has, HasNone, IsOut, Knows, LockView, MayCommit, Moves, Outs, Owns, Pack, PackageView, PassCall, Seals, Shown, bare, erase, keep, kept, locked_in, outs, packed, unless, with_seal}
use Rattle.tc_segment.specs.View.{sealed_block}
use Rattle.tc_hall.specs.Standing.{IfLined, SealsAs, SealsPending, past, stand_in, standing_of, turns_of}
use Rattle.tc_hall.specs.declared.board.PassCall.TheVariants.{Commit}
use Rattle.tc_hall.proofs.Outs.{is_there, same_outs}
use Rattle.tc_hall.proofs.Standing.{sealed_in, seals_as}
use Rattle.tc_combiner.specs.Stances.{KnowsLines, WasReady}
use Rattle.tc_combiner.proofs.Stances.{past_called}
use Rattle.tc_combiner.proofs.Lining.{counts_still, hand_shows}
use Rattle.tc_lemmas.proofs.Tests.{eq_self}

-- the hall may seal it
pub may_seal : (k : HallTerms) (d : DeskView) (q : PackageView) → MayCommit k d q → Seals d.pass.knows q
may_seal k d q m =
    let p : PackageView = m.before in
    let v : Knows = d.pass.knows in
    let out : IsOut (outs v) (Pack p) = m.hand.1.0 in record {
      before = p;
      has = subst (λ (t : ℕ). Has v t (bare p)) (sym m.ran.runs.keeps.thread) (is_there v.packages p.context.thread (bare p) (out.contexts p.context.thread (bare p) (ap (λ (b : Bool). if b then Some (bare p) else None) (eq_self p.context.thread))));
      locks = λ i l e. is_there v.locks i (kept l) (out.locks i (kept l) (ap keep e));
      ran = m.ran;
      allows = m.allows;
      handed = m.handed;
      together = m.together;
    }

-- a block leaves its thread and its locks in their places
unless_both : {A : Type 0} (a b x : Option A) → is_some a ≡ is_some b → unless a x ≡ unless b x
unless_both None None x e = refl
unless_both None (Some b) x e = absurd (cc)
unless_both (Some a) None x e = absurd (cc)
unless_both (Some a) (Some b) x e = refl

some_if : {A : Type 0} (b : Bool) (a : A) → is_some (if b then Some a else None) ≡ b
some_if true a = refl
some_if false a = refl

some_kept : (o : Option LockView) → is_some (keep o) ≡ is_some o
some_kept None = refl
some_kept (Some l) = refl

same_place : (o : Outs) (p n : PackageView) → n.context.thread ≡ p.context.thread → ((i : ℕ) → is_some (locked_in n i) ≡ is_some (locked_in p i)) → erase o (Pack n) ≡ erase o (Pack p)
same_place o p n t s = same_outs (erase o (Pack n)) (erase o (Pack p))
    (λ u. unless_both (if u == n.context.thread then Some (bare n) else None) (if u == p.context.thread then Some (bare p) else None) (o.context u) (some_if (u == n.context.thread) (bare n) ∙ (ap (λ (z : ℕ). u == z) t ∙ sym (some_if (u == p.context.thread) (bare p)))))
    (λ i. unless_both (keep (locked_in n i)) (keep (locked_in p i)) (o.lock i) (some_kept (locked_in n i) ∙ (s i ∙ sym (some_kept (locked_in p i)))))

pub sealed_moves : (image : Shown) (v w : Knows) (p n : PackageView) (stamp : ℕ) → DidRun image p n → DidSeal n stamp v w → Moves v w (Pack p ∷ []) (Pack (with_seal stamp v.worker n) ∷ [])
sealed_moves image v w p n stamp ran did = λ b zs out. (did.out, subst (λ (o : Outs). Owns b o zs) (sym (did.rest ∙ same_place (outs v) p n ran.runs.keeps.thread ran.runs.keeps.set)) out.1)

-- ---- how the pass stands at the lines

module _ (k : HallTerms) (v : Knows) (p q : PackageView) (a : Option PackageView) (free : (c : PackageView) → a ≡ Some c → HasNone c) (ready : WasReady k v p (packed a)) (ran : DidRun v.image p q) where
  stands_before : k.lined ≡ true → (i : ℕ) → standing_of i v.calls ≡ stand_in p i
  stands_before lined i = ready.lines.stands lined i ∙ hand_shows p a free i

  pub seals_pending : IfLined k v (SealsPending v q)
  seals_pending lined = inr (λ b e. (let same : ran.block ≡ b = cc (ran.pending, e) in subst (SealsAs v) same (seals_as v.image p q ready.of ready.sound ran ready.own v (stands_before lined))))

  pub seal_lines : (w : Knows) (stamp : ℕ) → DidSeal q stamp v w → KnowsLines k w (Pack (with_seal stamp v.worker q) ∷ packed a)
  seal_lines w stamp did =
      let call : PassCall = Commit q.context.thread (sealed_block stamp v.worker ran.block) in
      let same : did.block ≡ ran.block = cc (did.pending, ran.pending) in
      let told : w.calls ≡ v.calls ++ call ∷ [] = ap (λ (x : Knows). x.calls) did.now ∙ ap (λ (b : Block). v.calls ++ Commit q.context.thread (sealed_block stamp v.worker b) ∷ []) same in
      let called = past_called call k v w told in record {
        stands = λ lined i. called.stands lined i ∙ (ap (past i call) (stands_before lined i) ∙ (sealed_in v.image p q ready.of ready.sound ran ready.own stamp v.worker i ∙ sym (hand_shows (with_seal stamp v.worker q) a free i)));
        turns = λ lined. (
          called.turns lined q.context.thread ∙ (ap (λ (t : ℕ). turns_of t v.calls) ran.runs.keeps.thread ∙ ((ready.lines.turns lined).0 ∙ sym ran.turns)),
          counts_still v.calls w.calls (packed a) (λ t. called.turns lined t) (ready.lines.turns lined).1,
        );
      }
