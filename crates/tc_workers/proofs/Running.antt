-- Packages that get room, run a block and are sealed, and what is out meanwhile.
use Rattle.std.proofs.Common.{◌≡◌, ◌⊎◌, ⊎_elim, inl, inr, ℕ, ◌==◌, ◌||◌, Bool, true, false, if◌then◌else◌, List, [], ◌∷◌, get_or, refl, sym, ap, ◌∙◌, subst, arith, Option, Some, None}
use Rattle.std.specs.Option.{option_map}
use Rattle.tc_mutex_spec.proofs.Going.{in_block}
use Rattle.tc_isa.specs.Sets.{has}
use Rattle.tc_elf.specs.Shown.{Shown}
use Rattle.tc_journal.specs.Batch.{last_of}
use Rattle.tc_journal.specs.Handing.{AreTogether}
use Rattle.tc_journal.specs.declared.block.Block.{Block}
use Rattle.tc_journal.specs.declared.block.End.{End}
use Rattle.tc_turn.specs.Turn.{is_running, next_lock, thread_of}
use Rattle.tc_mutex_spec.specs.Blocks.{locks_of_block}
use Rattle.tc_segment.specs.View.{LockView, kept, sealed_block}
use Rattle.tc_context.specs.declared.package.Grant.{Grant}
use Rattle.tc_context.specs.Locks.{lock_in}
use Rattle.tc_context.specs.Whole.{thread_in, set_of, block_locks}
use Rattle.tc_context.specs.Ran.{DidRun}
use Rattle.tc_context.specs.View.{PackageView, Allows, HasBlock, IsRoomier, IsSoundPackage, MayTake, WantIsGranted, bare, fits_granted, fits_in, fits_of, granted_lock, with_seal}
use Rattle.tc_context.proofs.Staging.{lock_was, some_of}
use Rattle.tc_context.proofs.Running.{seal_last, seal_set}
use Rattle.tc_hall.specs.declared.board.HallTerms.{HallTerms}
use Rattle.tc_hall.specs.declared.board.Knows.{Knows}
use Rattle.tc_hall.specs.declared.place.Place.TheVariants.{Ready}
use Rattle.tc_hall.specs.Outs.{Outs, Item, Pack, Within, IsOut, outs, keep, minus, nothing, part}
use Rattle.tc_hall.specs.Rule.{last_by, locked_in}
use Rattle.tc_hall.specs.Steps.{HandsPending, HasStop, IsFree, MayPut}
use Rattle.tc_hall.proofs.Outs.{has_out, lock_out, same_outs, found}
use Rattle.tc_combiner.specs.Packages.{HasNoOther, IsGoodFor, Runs}
use Rattle.tc_combiner.specs.Settling.{MayCommit, MaySettle}
use Rattle.tc_combiner.specs.Stances.{WasReady}
use Rattle.tc_combiner.specs.View.{DeskView}
use Rattle.tc_combiner.specs.Walks.{Owns, packed}
use Rattle.tc_hall.proofs.Cases.{clash}
use Rattle.tc_workers.specs.Worker.{HasOut, MayGoBack}
use Rattle.tc_lemmas.proofs.Tests.{eq_self}
use Rattle.std.proofs.lemmas.Option.{same_Some}

-- ---- what is out

pub is_free : (v : Knows) → HasOut v [] → IsFree v
is_free v e = record {
  packages = λ t p has. clash (get_or v.packages t None) p (ap (λ (o : Outs). o.context t) e) (found v.packages t (Some p) None has);
  locks = λ i l has. clash (get_or v.locks i None) l (ap (λ (o : Outs). o.lock i) e) (found v.locks i (Some l) None has);
}

-- ---- room

keep_map : (o : Option LockView) → option_map kept o ≡ keep o
keep_map None = refl
keep_map (Some l) = refl

same_part : (p q : PackageView) → bare q ≡ bare p → ((i : ℕ) → keep (locked_in q i) ≡ keep (locked_in p i)) → part (Pack q) ≡ part (Pack p)
same_part p q b k = same_outs (part (Pack q)) (part (Pack p)) (λ u. ap (λ (c : PackageView). if u == c.context.thread then Some c else None) b) k

fits_kept : (x : Option LockView) (k : ℕ) (g : Grant) (w : ℕ) → fits_in (option_map kept x) k g.kind w ≡ fits_in x k g.kind w
fits_kept None k g w = refl
fits_kept (Some l) k g w = refl

module _ (p q : PackageView) (r : IsRoomier p q) where
  pub roomier_out : (v : Knows) (xs : List Item) → HasOut v (Pack p ∷ xs) → HasOut v (Pack q ∷ xs)
  roomier_out v xs h = subst (λ (f : Outs). Within f (outs v) × Owns nothing (minus (outs v) f) xs) (sym (same_part p q r.rest (λ i. sym (keep_map (locked_in q i)) ∙ (r.locks i ∙ keep_map (locked_in p i))))) h

  roomier_fits : (w : ℕ) (o : Option Grant) → fits_granted q.context o w ≡ fits_granted p.context o w
  roomier_fits w None = refl
  roomier_fits w (Some g) = sym (fits_kept (lock_in q.context.locks g.lock) g.lock g w) ∙ (ap (λ (x : Option LockView). fits_in x g.lock g.kind w) (r.locks g.lock) ∙ fits_kept (lock_in p.context.locks g.lock) g.lock g w)

  pub roomier_good : (v : Knows) → IsGoodFor v p → IsGoodFor v q
  roomier_good v h = record {
    of = ap (λ (c : PackageView). c.image) r.rest ∙ h.of;
    settled = ap (λ (c : PackageView). c.pending) r.rest ∙ h.settled;
    runs = ap (λ (c : PackageView). is_running c.context.guest.status) r.rest ∙ h.runs;
    locks = λ i l e. let x = lock_was (locked_in p i) (locked_in q i) l (r.locks i) e in ⊎_elim
        (λ (z : has p.context.guest.held i ≡ true). inl (ap (λ (c : PackageView). has c.context.guest.held i) r.rest ∙ z))
        (λ (z : granted_lock p.granted ≡ Some i). inr (ap granted_lock r.granted ∙ z))
        (h.locks i x.0 x.1);
    fits = ap (λ (o : Option Grant). fits_granted q.context o v.worker) r.granted ∙ (roomier_fits v.worker p.granted ∙ h.fits);
  }

  pub roomier_want : (image : Shown) → WantIsGranted image p → WantIsGranted image q
  roomier_want image h k e =
      ap granted_lock r.granted
      ∙ h k (ap (λ (c : PackageView). if is_running c.context.guest.status then next_lock image (thread_of c.context.guest) else None) (sym r.rest) ∙ e)

-- ---- a block

-- the desk may seal it
pub may_commit : (k : HallTerms) (d : DeskView) (p n : PackageView) → WasReady k d.pass.knows p (packed d.aside) → HasOut d.pass.knows (Pack p ∷ packed d.aside) → fits_of p d.pass.knows.worker ≡ true → DidRun d.pass.knows.image p n → HandsPending d.pass.knows n → AreTogether (last_by d.pass.knows) (last_of p.log) → MayCommit k d n
may_commit k d p n ready out fits ran handed both = record {
  before = p;
  ready = ready;
  hand = (nothing, out);
  ran = ran;
  allows = λ b e. (let one : ran.block ≡ b = cc (ran.pending, e) in subst (λ (z : Block). Allows n.context z d.pass.knows.worker) one (ran.fits d.pass.knows.worker fits));
  handed = handed;
  together = both;
}

same_bools : (a b : Bool) → (a ≡ true → b ≡ true) → (b ≡ true → a ≡ true) → a ≡ b
same_bools true b to from = sym (to refl)
same_bools false true to from = from refl
same_bools false false to from = refl

into_block : (held : ℕ → Bool) (next : Option ℕ) (i : ℕ) → (held i ≡ true) ⊎ (next ≡ Some i) → locks_of_block held next i ≡ true
into_block held None i h = ⊎_elim (λ (e : held i ≡ true). e) (λ (e : None ≡ Some i). absurd (clash None i refl e)) h
into_block held (Some k) i h = either (i == k) (held i) (⊎_elim (λ (e : held i ≡ true). inr e) (λ (e : Some k ≡ Some i). inl (ap (λ (z : ℕ). i == z) (same_Some k i e) ∙ eq_self i)) h)
  where
    either : (a b : Bool) → (a ≡ true) ⊎ (b ≡ true) → (a || b) ≡ true
    either true b h = refl
    either false b h = ⊎_elim (λ (e : false ≡ true). absurd (cc e)) (λ (e : b ≡ true). e) h

module _ (image : Shown) (p : PackageView) (is : p.image ≡ image) (sound : IsSoundPackage p) (own : HasNoOther p) (runs : Runs p) (want : WantIsGranted image p) where
  granted_tells : (i : ℕ) (o : Option Grant) → MayTake p.image p.context o → granted_lock o ≡ Some i → (next_lock image (thread_in p.context) ≡ Some i) × (set_of p.context i ≡ true)
  granted_tells i None may e = absurd (clash None i refl e)
  granted_tells i (Some g) may e = (let same : g.lock ≡ i = cc e in (ap (λ (x : Shown). next_lock x (thread_in p.context)) (sym is) ∙ (may.next ∙ e), subst (λ (j : ℕ). set_of p.context j ≡ true) same may.here))

  -- the locks in the package are those of its next block
  block_has : (i : ℕ) → set_of p.context i ≡ block_locks image p.context i
  block_has i = same_bools (set_of p.context i) (block_locks image p.context i)
      (λ here.
      let l = some_of (lock_in p.context.locks i) here in
      into_block (has p.context.guest.held) (next_lock image (thread_in p.context)) i
      (⊎_elim (λ (e : has p.context.guest.held i ≡ true). inl e) (λ (e : granted_lock p.granted ≡ Some i). inr (granted_tells i p.granted sound.grant e).0) (own i l.0 l.1)))
      (λ mine. ⊎_elim
      (λ (e : has p.context.guest.held i ≡ true). sound.held i e)
      (λ (e : next_lock image (thread_in p.context) ≡ Some i). (granted_tells i p.granted sound.grant (want i (ap (λ (b : Bool). if b then next_lock image (thread_in p.context) else None) runs ∙ e))).1)
      (in_block (has p.context.guest.held) (next_lock image (thread_in p.context)) i mine))

  pub may_settle : (worker stamp : ℕ) (end : End) (n : PackageView) → DidRun image p n → HasBlock (λ b. b.end ≡ end) n.pending → MaySettle image worker end (with_seal stamp worker n)
  may_settle worker stamp end n ran ended =
      let end_is : ran.block.end ≡ end = subst (λ (o : Option Block). HasBlock (λ b. b.end ≡ end) o) ran.pending ended in (
        sealed_block stamp worker ran.block,
        record {
          of = ran.image_is ∙ is;
          settled = refl;
          granted = ran.granted;
          last = seal_last n ran.block stamp worker ran.sound ran.pending;
          end_is = end_is;
          worker_is = refl;
          locks = λ i. seal_set stamp worker n i ∙ (ran.runs.keeps.set i ∙ (block_has i ∙ sym (ran.held i)));
        },
      )

-- ---- going back

-- a package that is out may be put as ready, since the run was stopped
pub may_put : (v : Knows) (q : PackageView) → IsOut (outs v) (Pack q) → MayGoBack v.image v.worker q → HasStop v → MayPut Ready v q
may_put v q out may stop = record {
  has = has_out v q out;
  locks = lock_out v q out;
  order = record { ended = λ e. absurd (omega (arith, e)); runs = λ ne. may.runs; own = may.locks; waits = λ i e. absurd (omega (arith, e)); ready = λ g e. refl };
  stop = λ e. stop;
  fits = may.fits;
}
