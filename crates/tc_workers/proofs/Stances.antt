-- How a worker's pass stands at the lines, in a hall with lines: as what it has in hand shows.
use Rattle.std.proofs.Common.{◌≡◌, ℕ, if◌then◌else◌, List, [], ◌∷◌, refl, sym, ap, ◌∙◌, subst, ⊎_elim, inr, Option, Some, None}
use Rattle.std.specs.Prelude.{slice_index_or}
use Rattle.std.specs.Option.{option_map}
use Rattle.tc_lemmas.proofs.Tests.{eq_self}
use Rattle.tc_isa.specs.Sets.{has}
use Rattle.tc_journal.specs.declared.block.Kind.{Kind}
use Rattle.tc_segment.specs.View.{LockView, kept}
use Rattle.tc_context.specs.declared.package.Grant.{Grant}
use Rattle.tc_context.specs.View.{IsRoomier, PackageView, number_in}
use Rattle.tc_hall.specs.declared.board.HallTerms.{HallTerms}
use Rattle.tc_hall.specs.declared.board.Knows.{Knows}
use Rattle.tc_hall.specs.declared.board.PassCall.{PassCall}
use Rattle.tc_hall.specs.declared.place.Origin.{Origin}
use Rattle.tc_hall.specs.declared.place.Origin.TheVariants as origin
use Rattle.tc_hall.specs.declared.place.Place.{Place}
use Rattle.tc_hall.specs.declared.place.Place.TheVariants.{Parked, Ready}
use Rattle.tc_hall.specs.Outs.{Item, Pack}
use Rattle.tc_hall.specs.PassView.{PassView}
use Rattle.tc_hall.specs.Places.{origin_code, place_of}
use Rattle.tc_hall.specs.Rule.{locked_in}
use Rattle.tc_hall.specs.Standing.{ClaimsAs, IfLined, IfWaiting, Standing, away, entered, kind_at, past, past_waiting, stand_if, stand_in, standing_of, stands_in, turn_by, turns_of}
use Rattle.tc_hall.specs.Steps.{Gets, claim_call, given_of, kind_passed}
use Rattle.tc_hall.proofs.Cases.{some_or_none}
use Rattle.tc_hall.proofs.Standing.{claimed_in, claimed_out, shows_none, standing_last, turns_last}
use Rattle.tc_hall.proofs.Telling.{place_codes}
use Rattle.tc_combiner.specs.Stances.{KnowsLines, beside, shows_at}
use Rattle.tc_combiner.proofs.Lining.{beside_away, counts_still}
use Rattle.tc_workers.specs.Worker.{IsUnmoved}

-- a pass with the same calls, or that made only quiet ones
pub lines_still : (k : HallTerms) (p q : PassView) (xs : List Item) → IsUnmoved p q → KnowsLines k p.knows xs → KnowsLines k q.knows xs
lines_still k p q xs u lines = record {
  stands = λ lined i. u.stands i ∙ lines.stands lined i;
  turns = λ lined. counts_still p.knows.calls q.knows.calls xs u.turns (lines.turns lined);
}

-- one that has made none
pub no_lines : (k : HallTerms) (v : Knows) → v.calls ≡ [] → KnowsLines k v []
no_lines k v e = record { stands = λ lined i. ap (standing_of i) e; turns = λ lined. tt }

-- ---- a claim

module _ (k : HallTerms) (v : Knows) (from : Origin) (t : ℕ) (lines : KnowsLines k v []) where
  from_home : (from : Origin) → IfWaiting v t (place_of (origin_code from))
  from_home origin.Ready = subst (IfWaiting v t) (sym (place_codes Ready)) tt
  from_home origin.Parked = subst (IfWaiting v t) (sym (place_codes Parked)) tt

  -- with nothing in hand it stands nowhere, and may claim
  pub claims_as : IfLined k v (ClaimsAs v t (place_of (origin_code from)))
  claims_as lined = inr (record {
    settled = λ i u before e. let n : away ≡ entered u before = sym (lines.stands lined i) ∙ e in let no : ⊥ = cc n in no;
    waiting = from_home from;
  })

  home_still : (i : ℕ) (o : Option Kind) (s : Standing) (from : Origin) → past_waiting i (place_of (origin_code from)) o s ≡ s
  home_still i o s origin.Ready = ap (λ (x : Place). past_waiting i x o s) (place_codes Ready)
  home_still i o s origin.Parked = ap (λ (x : Place). past_waiting i x o s) (place_codes Parked)

  module _ (w : Knows) (q : PackageView) (gets : Gets (origin_code from) t q v w) where
    abbrev came : PassCall
    came = claim_call v q (origin_code from)

    came_as : (i : ℕ) → past i came away ≡ stand_in q i
    came_as i = ⊎_elim
        (λ (z : (l : LockView) × (locked_in q i ≡ Some l)). claimed_in v q (origin_code from) i z.0 away z.1 (gets.order.own i z.0 z.1))
        (λ (none : locked_in q i ≡ None). claimed_out v q (origin_code from) i away none ∙ (home_still i (kind_passed v (place_of (origin_code from))) away from ∙ sym (shows_none q i none)))
        (some_or_none (locked_in q i))

    -- and then it stands as the package shows
    pub claimed_lines : KnowsLines k w (Pack q ∷ [])
    claimed_lines = record {
      stands = λ lined i. ap (standing_of i) gets.called.calls ∙ (standing_last i v.calls came ∙ (ap (past i came) (lines.stands lined i) ∙ (came_as i ∙ sym (beside_away (stand_in q i)))));
      turns = λ lined. (
        ap (turns_of q.context.thread) gets.called.calls ∙ (turns_last q.context.thread v.calls came ∙ ap (λ b. if b then q.turns else turns_of q.context.thread v.calls) (eq_self q.context.thread)),
        tt,
      );
    }

-- ---- a package that got room

stand_kept : (o x : Option LockView) (s : Standing) → option_map kept o ≡ option_map kept x → stand_if o s ≡ stand_if x s
stand_kept None None s e = refl
stand_kept None (Some y) s e = let n : ⊥ = cc e in absurd n
stand_kept (Some l) None s e = let n : ⊥ = cc e in absurd n
stand_kept (Some l) (Some y) s e = refl

module _ (p q : PackageView) (r : IsRoomier p q) where
  given_as : given_of q ≡ given_of p
  given_as = λ j. option_map (λ (g : Grant). record { lock = g.lock; kind = g.kind; number = slice_index_or (r.numbers j) g.lock 0 }) (r.granted j)

  roomier_stand : (i : ℕ) → stand_in q i ≡ stand_in p i
  roomier_stand i =
      stand_kept (locked_in q i) (locked_in p i) (stands_in (turn_by q.context.thread (number_in q i)) (has q.context.guest.held i) (kind_at i (given_of q))) (r.locks i)
      ∙ (λ j. stand_if (locked_in p i) (stands_in (turn_by (r.rest j).context.thread (slice_index_or (r.numbers j) i 0)) (has (r.rest j).context.guest.held i) (kind_at i (given_as j))))

  -- shows the same
  pub roomier_lines : (k : HallTerms) (v : Knows) (xs : List Item) → KnowsLines k v (Pack p ∷ xs) → KnowsLines k v (Pack q ∷ xs)
  roomier_lines k v xs lines = record {
    stands = λ lined i. lines.stands lined i ∙ ap (λ (s : Standing). beside s (shows_at xs i)) (sym (roomier_stand i));
    turns = λ lined. (ap (λ (c : PackageView). turns_of c.context.thread v.calls) r.rest ∙ ((lines.turns lined).0 ∙ sym r.turns), (lines.turns lined).1);
  }
