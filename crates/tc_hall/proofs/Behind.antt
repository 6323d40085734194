-- A block that was run with a lock that was granted as Adopted comes behind the block that handed the lock over.
use Rattle.std.proofs.Common.{◌≡◌, ℕ, ◌==◌, ◌≤◌, ◌||◌, true, false, List, [], ◌∷◌, length, sym, refl, ap, ◌∙◌, subst, inl, inr, arith, Option, Some, None}
use Rattle.tc_hall.proofs.Vocabulary.{AreTogether, Block, PassCall, Called, DidRun, Grant, IsHandedOver, Knows, PackageView, Shown, grants_adopted, is_pinned, last_by, last_of, lock_in, next_lock, of_worker, thread_in, was_cut, whole}
use Rattle.std.proofs.lemmas.Bool.Decides.{eqb_tells}
use Rattle.tc_journal.specs.Batch.{is_adopted, is_lock, takes_of}
use Rattle.tc_journal.specs.Handing.{has_unlocked}
use Rattle.tc_mutex_spec.proofs.Replaying.{IsRecord, record_takes}
use Rattle.tc_context.specs.View.{IsSoundPackage, MayTake, kind_of}
use Rattle.tc_context.proofs.Staging.{some_of}
use Rattle.tc_hall.specs.Steps.{IsGrantedBehind}
use Rattle.tc_hall.proofs.Cases.{apart}

-- no block without a grant begins an Adopted section
not_first : (log : List Block) → is_adopted (kind_of None log) ≡ false
not_first [] = refl
not_first (b ∷ bs) = refl

same_lock : (o : Option ℕ) (k j : ℕ) → is_lock o k ≡ true → o ≡ Some j → j ≡ k
same_lock None k j h e = absurd (cc)
same_lock (Some taken) k j h e = elim (eqb_tells k taken) [
  | inl x ↦ (let f : j ≡ taken = cc in f ∙ sym x.1)
  | inr x ↦ absurd (apart (k == taken) x.0 h)
]

module _ (image : Shown) (p n : PackageView) (is : p.image ≡ image) (sound : IsSoundPackage p) (ran : DidRun image p n) where
  record_of : IsRecord image (whole p.context) ran.block
  record_of = record {
    few = subst (λ (x : Shown). length x.guards ≤ 32) is sound.few;
    small = λ k h. (let l = some_of (lock_in p.context.locks k) (ran.covers.held k h) in let known = (sound.stored k l.0 l.1).known in let few = sound.few in omega (arith, known, few));
    held = ran.held;
    section = ran.section;
  }

  pub comes_behind : (last : Option Block) → IsGrantedBehind last p.granted → IsHandedOver last ran.block
  comes_behind last behind lock begun adopted = by p.granted ran.kind sound.grant behind
    where
      by : (o : Option Grant) → ran.block.kind ≡ kind_of o p.log → MayTake p.image p.context o → IsGrantedBehind last o → has_unlocked lock last ≡ true
      by None kind may granted = absurd (apart (is_adopted ran.block.kind) (ap is_adopted kind ∙ not_first p.log) adopted)
      by (Some g) kind may granted =
          let takes : takes_of ran.block ≡ Some g.lock = record_takes image (whole p.context) ran.block record_of ∙ (ap (λ (x : Shown). next_lock x (thread_in p.context)) (sym is) ∙ may.next) in
          subst (λ (k : ℕ). has_unlocked k last ≡ true) (same_lock (takes_of ran.block) lock g.lock begun takes) (granted (sym (ap is_adopted kind) ∙ adopted))

-- of a grant that isn't Adopted nothing is asked
pub behind_any : (last : Option Block) (o : Option Grant) → grants_adopted o ≡ false → IsGrantedBehind last o
behind_any last None e = tt
behind_any last (Some g) e = λ adopted. absurd (apart (is_adopted g.kind) e adopted)

pub nothing_behind : (last : Option Block) (o : Option Grant) → o ≡ None → IsGrantedBehind last o
nothing_behind last o none = subst (IsGrantedBehind last) (sym none) tt

-- what isn't granted as Adopted, and wasn't cut, is pinned to no worker
pub unpinned : (q : PackageView) → grants_adopted q.granted ≡ false → was_cut (last_of q.log) ≡ false → is_pinned q ≡ false
unpinned q granted uncut = λ i. granted i || uncut i

-- where neither was cut nothing is asked
pub together_uncut : (of_worker of_thread : Option Block) → was_cut of_worker ≡ false → was_cut of_thread ≡ false → AreTogether of_worker of_thread
together_uncut w t a b = record { goes_on = λ e. absurd (apart (was_cut w) a e); stays = λ e. absurd (apart (was_cut t) b e) }

-- nor where they are one
pub together_same : (of_worker of_thread : Option Block) → of_worker ≡ of_thread → AreTogether of_worker of_thread
together_same w t one = record { goes_on = λ _. one; stays = λ _. one }

-- calls of the pass seal no block
pub same_last : (cs : List PassCall) (v w : Knows) → Called cs v w → last_by w ≡ last_by v
same_last cs v w told = λ i. last_of (of_worker (told.sealed i) (told.worker i))
