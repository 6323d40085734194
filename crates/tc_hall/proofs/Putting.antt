-- What `put` and `free` ask and say, seen past the slot that the pass holds in between.
use Rattle.std.proofs.Common.{◌≡◌, ℕ, [], ◌∷◌, Option, Some, None, refl, sym, ap, ◌∙◌, subst, ⊎_elim, inl, inr}
use Rattle.tc_hall.proofs.Vocabulary.{Called, Free, Freed, Gave, HasStop, IsAsLeft, Knows, LockView, MayPut, PackageView, Place, HallTerms, Seals, after_free, after_put, code_of, get_elem?, made, outs, place_of, put_call, seen}
use Rattle.tc_hall.specs.Standing.{IfLined, FreesAs, PutsAs, SealsAs, SealsPending}
use Rattle.tc_hall.proofs.Outs.{put_outs, free_outs}
use Rattle.tc_hall.proofs.Telling.{place_codes}

with_hand : (v : Knows) (o : Option ℕ) → HasStop v → HasStop (record v { open_slot = o })
with_hand v o (made i e) = made i e
with_hand v o (seen i e) = seen i e

pub may_put_as : (place : Place) (v w : Knows) (q : PackageView) (o : Option ℕ) → w ≡ record v { open_slot = o } → MayPut place v q → MayPut place w q
may_put_as place v w q o is may = subst (λ (z : Knows). MayPut place z q) (sym is) record { has = may.has; locks = may.locks; order = may.order; stop = λ a. with_hand v o (may.stop a); fits = may.fits }

-- what is asked of a pass's list
if_lined : (k : HallTerms) (v : Knows) (o : Option ℕ) (P Q : Type 0) → (P → Q) → IfLined k v P → IfLined k (record v { open_slot = o }) Q
if_lined k v o P Q f asked lined = ⊎_elim (λ (h : HasStop v). inl (with_hand v o h)) (λ (p : P). inr (f p)) (asked lined)

pub puts_still : (k : HallTerms) (v w : Knows) (q : PackageView) (place : Place) (o : Option ℕ) → w ≡ record v { open_slot = o } → IfLined k v (PutsAs v q place) → IfLined k w (PutsAs w q place)
puts_still k v w q place o is asked =
    subst (λ (z : Knows). IfLined k z (PutsAs z q place)) (sym is)
    (if_lined k v o (PutsAs v q place) (PutsAs (record v { open_slot = o }) q place) (λ a. record { locks = a.locks; others = a.others; waits = a.waits; slept = a.slept; turns = a.turns }) asked)

pub frees_still : (k : HallTerms) (v w : Knows) (i : ℕ) (o : Option ℕ) → w ≡ record v { open_slot = o } → IfLined k v (FreesAs v i) → IfLined k w (FreesAs w i)
frees_still k v w i o is asked = subst (λ (z : Knows). IfLined k z (FreesAs z i)) (sym is) (if_lined k v o (FreesAs v i) (FreesAs (record v { open_slot = o }) i) (λ a. a) asked)

-- of the pending block
pub seals_block : (k : HallTerms) (v : Knows) (q : PackageView) (a : Seals v q) → IfLined k v (SealsPending v q) → IfLined k v (SealsAs v a.ran.block)
seals_block k v q a asked lined = ⊎_elim (λ (h : HasStop v). inl h) (λ (p : SealsPending v q). inr (p a.ran.block a.ran.pending)) (asked lined)

pub left_as : (k : HallTerms) (v w : Knows) (q : PackageView) (o : Option ℕ) → w ≡ record v { open_slot = o } → IsAsLeft k w q → IsAsLeft k v q
left_as k v w q o is left = record { history = left.history; tells = left.tells; obeys = left.obeys; follows = left.follows; sealed = λ i b e. left.sealed i b (ap (λ (z : Knows). get_elem? z.sealed i) is ∙ e) }

pub gave : (place : Place) (code : ℕ) (q : PackageView) (v v2 w : Knows) (t : ℕ) → v2 ≡ record v { open_slot = Some t } → v.open_slot ≡ None → code ≡ code_of place → w ≡ record (after_put v2 q (place_of code)) { open_slot = None } → Gave place q v w
gave place code q v v2 w t held free is did =
    let now : w ≡ after_put v q place = did ∙ (ap (λ (z : Knows × Place). record (after_put z.0 q z.1) { open_slot = None }) (λ i. (held i, (ap place_of is ∙ place_codes place) i)) ∙ ap (λ (z : Option ℕ). record (after_put v q place) { open_slot = z }) (sym free)) in
    record {
      now = now;
      rest = ap outs now ∙ put_outs v q place;
      called = subst (Called (put_call q place ∷ []) v) (sym now) record { image = refl; worker = refl; sealed = refl; joined = refl; calls = refl };
    }

pub freed : (l : LockView) (v v2 w : Knows) (slot : ℕ) → v2 ≡ record v { open_slot = Some slot } → v.open_slot ≡ None → w ≡ record (after_free v2 l) { open_slot = None } → Freed l v w
freed l v v2 w slot held free did =
    let now : w ≡ after_free v l = did ∙ (ap (λ (z : Knows). record (after_free z l) { open_slot = None }) held ∙ ap (λ (z : Option ℕ). record (after_free v l) { open_slot = z }) (sym free)) in
    record {
      now = now;
      rest = ap outs now ∙ free_outs v l;
      called = subst (Called (Free l.number ∷ []) v) (sym now) record { image = refl; worker = refl; sealed = refl; joined = refl; calls = refl };
    }
