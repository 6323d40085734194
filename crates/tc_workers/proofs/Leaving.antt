-- Packages that are put back where the run was stopped.
use Rattle.std.proofs.Common.{◌≡◌, Bool, true, [], ◌∷◌, ◌++◌, Option, Some, None, refl, sym, ap, ◌∙◌, subst, subst₂}
use Rattle.tc_elf.specs.Shown.{Shown}
use Rattle.std.specs.Prelude.{ℕ}
use Rattle.tc_context.specs.View.{PackageView}
use Rattle.tc_hall.specs.declared.board.PassCall.TheVariants.{Stop, Stopped as Seen}
use Rattle.tc_hall.specs.declared.place.Place.TheVariants.{Ready}
use Rattle.tc_hall.specs.Outs.{Called, Outs, Pack, nothing}
use Rattle.tc_hall.specs.PassView.{PassView}
use Rattle.tc_hall.specs.Steps.{Gave, HasStop, IsSamePass, MayPut, after_stop, put_call}
use Rattle.tc_combiner.specs.View.{BenchView, DeskView}
use Rattle.tc_combiner.specs.Walks.{Owns, packed}
use Rattle.tc_combiner.proofs.Acting.{told_then}
use Rattle.tc_workers.specs.StepWith.{GivesUp}
use Rattle.tc_workers.specs.Worker.{DidLeave, DidPutBack, IsAtDesk, IsSeated, IsStill, IsUnmoved, LookedAtStop, MayAllGoBack, MayLeave, put_back}
use Rattle.tc_workers.proofs.Desks.{aside_seat, at_still, fit_back, out_alone, seat_still, seated, still_holds, with_pass}
use Rattle.tc_workers.proofs.Passes.{no_call, one_call, still_called, still_same, still_then, stop_shown, unmoved_call}
use Rattle.tc_workers.proofs.Running.{may_put}
use Rattle.tc_hall.proofs.Stops.{stop_later, stop_told}

-- ---- one package, and the one that is set aside

pub back_none : (b : BenchView) (d : DeskView) (o : Option PackageView) → MayLeave b o d → o ≡ None → DidPutBack b o d d
back_none b d o may none = subst (λ (x : Option PackageView). MayLeave b x d → DidPutBack b x d d) (sym none) (λ m. record { still = still_same d.pass; told = no_call d.pass.knows; may = m; rest = refl }) may

module _ (b : BenchView) (d : DeskView) (h : Option PackageView) (q : PackageView) (o : PassView) (may : MayLeave b h d) (hand : h ≡ Some q) (is : o ≡ d.pass) where
  leaves : MayLeave b (Some q) d
  leaves = subst (λ (x : Option PackageView). MayLeave b x d) hand may

  pub may_put_back : MayPut Ready o.knows q
  may_put_back = subst (λ (z : PassView). MayPut Ready z.knows q) (sym is) (may_put d.pass.knows q leaves.seat.out.0 leaves.may leaves.stop)

  pub back_some : (p : PassView) → IsSamePass o p → Gave Ready q o.knows p.knows → DidPutBack b h d (with_pass d p)
  back_some p own gave =
      let did = subst (λ (z : PassView). IsSamePass z p × Gave Ready q z.knows p.knows) is (own, gave) in
      let still = still_called (put_call q Ready ∷ []) d.pass p did.0 did.1.called in
      let seat = seated b (Pack q ∷ []) [] d p d.sleepers d.now d.aside leaves.seat still refl (λ c e. e) (subst (λ (z : Outs). Owns nothing z (packed d.aside)) (sym did.1.rest) leaves.seat.out.1) in
      let stop = stop_later d.pass.knows p.knows (put_call q Ready ∷ []) did.1.called.calls leaves.stop in
      subst (λ (x : Option PackageView). DidPutBack b x d (with_pass d p)) (sym hand) record { still = still; told = did.1.called; may = record { seat = seat; may = tt; stop = stop }; rest = refl }

pub may_aside : (b : BenchView) (d e : DeskView) (o : Option PackageView) → MayLeave b None d → o ≡ d.aside → e ≡ record d { aside = None } → MayLeave b o e
may_aside b d e o may given rest =
    let at = aside_seat b d e o may.seat given rest in
    record { seat = at.0; may = fit_back e.pass.knows.image e.pass.knows.worker o at.1; stop = subst (λ (z : DeskView). HasStop z.pass.knows) (sym rest) may.stop }

pub has_left : (b : BenchView) (hand o : Option PackageView) (d e g f : DeskView) → DidPutBack b hand d e → o ≡ e.aside → g ≡ record e { aside = None } → DidPutBack b o g f → DidLeave hand d f
has_left b hand o d e g f did given rest last =
    let back : DidPutBack b d.aside (record e { aside = None }) f = subst₂ (λ (x : Option PackageView) (z : DeskView). DidPutBack b x z f) (given ∙ ap (λ (z : DeskView). z.aside) did.rest) rest last in
    let none : f.aside ≡ None = ap (λ (z : DeskView). z.aside) back.rest in record {
      still = still_then d.pass e.pass f.pass did.still back.still;
      told = told_then (put_back hand) (put_back d.aside) d.pass.knows e.pass.knows f.pass.knows did.told back.told;
      left = record { aside = none; out = out_alone f.pass.knows [] f.aside none back.may.seat.out };
      stop = back.may.stop;
      rest = back.rest ∙ ap (λ (z : DeskView). record z { pass = f.pass; aside = None }) did.rest;
    }

-- ---- where a stop was seen

pub at_looked : (b : BenchView) (hand : Option PackageView) (d e : DeskView) (saw : Bool) → IsAtDesk b hand d → LookedAtStop saw d e → IsAtDesk b hand e
at_looked b hand d e saw h l = subst (IsAtDesk b hand) (sym l.rest) (at_still b hand d e.pass h (unmoved_call d.pass e.pass (Seen l.saw.word) l.own l.saw.now (λ i s. refl, λ t n. refl)))

pub saw_told : (d e : DeskView) (saw : Bool) → LookedAtStop saw d e → saw ≡ true → Called (Seen 1 ∷ []) d.pass.knows e.pass.knows
saw_told d e saw l seen = subst (λ n. Called (Seen n ∷ []) d.pass.knows e.pass.knows) (l.saw.one seen) (one_call d.pass.knows e.pass.knows (Seen l.saw.word) l.saw.now)

-- what is in hand may be put back
pub may_leave : (b : BenchView) (hand : Option PackageView) (d e : DeskView) (saw : Bool) → IsSeated b (packed hand) d → MayAllGoBack d.pass.knows.image d.pass.knows.worker hand → LookedAtStop saw d e → saw ≡ true → MayLeave b hand e
may_leave b hand d e saw seat may l seen =
    let unmoved = unmoved_call d.pass e.pass (Seen l.saw.word) l.own l.saw.now (λ i s. refl, λ t n. refl) in record {
      seat = subst (IsSeated b (packed hand)) (sym l.rest) (seat_still b (packed hand) d e.pass seat unmoved);
      may = still_holds (λ (i : Shown) (w : ℕ). MayAllGoBack i w hand) d.pass e.pass unmoved.still may;
      stop = stop_shown d.pass.knows e.pass.knows record { front = []; back = []; is = (saw_told d e saw l seen).calls };
    }

-- and was
pub left_told : (hand : Option PackageView) (d e f : DeskView) (saw : Bool) → LookedAtStop saw d e → saw ≡ true → DidLeave hand e f → Called (Seen 1 ∷ put_back hand ++ put_back d.aside) d.pass.knows f.pass.knows
left_told hand d e f saw l seen did = told_then (Seen 1 ∷ []) (put_back hand ++ put_back d.aside) d.pass.knows e.pass.knows f.pass.knows (saw_told d e saw l seen)
    (subst (λ (o : Option PackageView). Called (put_back hand ++ put_back o) e.pass.knows f.pass.knows) (ap (λ (z : DeskView). z.aside) l.rest) did.told)

pub left_rest : (hand : Option PackageView) (d e f : DeskView) (saw : Bool) → LookedAtStop saw d e → DidLeave hand e f → f ≡ record d { pass = f.pass; aside = None }
left_rest hand d e f saw l did = did.rest ∙ ap (λ (z : DeskView). record z { pass = f.pass; aside = None }) l.rest

-- nothing was set aside before
pub left_alone : (d f : DeskView) → d.aside ≡ None → f ≡ record d { pass = f.pass; aside = None } → f ≡ record d { pass = f.pass }
left_alone d f free is = is ∙ ap (λ (o : Option PackageView). record d { pass = f.pass; aside = o }) (sym free)

pub left_still : (hand : Option PackageView) (d e f : DeskView) (saw : Bool) → LookedAtStop saw d e → DidLeave hand e f → IsStill d.pass f.pass
left_still hand d e f saw l did = still_then d.pass e.pass f.pass (unmoved_call d.pass e.pass (Seen l.saw.word) l.own l.saw.now (λ i s. refl, λ t n. refl)).still did.still

-- ---- where a stop was made

module _ (b : BenchView) (d : DeskView) (o p : PassView) (q : PackageView) (is : o ≡ d.pass) (same : IsSamePass o p) (now : p.knows ≡ after_stop o.knows) where
  unmoved : IsUnmoved d.pass p
  unmoved = subst (λ (z : PassView). IsUnmoved z p) is (unmoved_call o p Stop same now (λ i s. refl, λ t n. refl))

  made : Called (Stop ∷ []) d.pass.knows p.knows
  made = one_call d.pass.knows p.knows Stop (subst (λ (z : PassView). p.knows ≡ after_stop z.knows) is now)

  pub may_give_up : IsAtDesk b (Some q) d → MayLeave b (Some q) (with_pass d p)
  may_give_up h = let at = at_still b (Some q) d p h unmoved in
      record { seat = at.seat; may = fit_back p.knows.image p.knows.worker (Some q) at.fit; stop = stop_told d.pass.knows p.knows [] made.calls }

  pub gave_up : (e : DeskView) → DidLeave (Some q) (with_pass d p) e → GivesUp q d e
  gave_up e did = record {
    still = still_then d.pass p e.pass unmoved.still did.still;
    left = did.left;
    told = told_then (Stop ∷ []) (put_back (Some q) ++ put_back d.aside) d.pass.knows p.knows e.pass.knows made did.told;
    rest = did.rest;
  }
