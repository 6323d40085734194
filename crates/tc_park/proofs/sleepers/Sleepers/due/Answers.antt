use Rattle.std.proofs.Common.{◌∙◌, None, Some, slice_set, sym, subst}
use Rattle.std.proofs.lemmas.List.{length-set}
use Rattle.tc_park.specs.Order.{Sleeps, IsFirstOf, IsKept}
use Rattle.tc_park.proofs.Firsts.{first_of, searched, none_kept}
use Rattle.tc_park.proofs.sleepers.Sleepers.due.Goals as goal
use Rattle.tc_park.proofs.sleepers.Sleepers.due.Goals.{then-self, else-self}

pub invariant_of-self : goal.invariant_of-self
invariant_of-self c =
    let kept : IsKept c.self.inside.room c.self.inside.due.items (Some c.in_ok-sleeper.sleeper) c.self.inside.others =
    subst (λ f. IsKept c.self.inside.room c.self.inside.due.items f c.self.inside.others) c.in_ok-sleeper.was c.self.invariant in
    elim c.if-self.branch [
      | then-self w ↦ searched c.self.inside.room _ c.if-self.self c.self.inside.others
          (length-set c.self.inside.due.items _ _ ∙ kept.places) w.if-self.true
          (subst (λ l. IsFirstOf (Sleeps l) c.if-self.self) w.deref.ensures.value (subst (IsFirstOf (Sleeps w.deref.result.now)) (sym w.self-is) w.first_in-self-inside.ensures))
      | else-self w ↦ subst (λ f. IsKept c.self.inside.room (slice_set c.self.inside.due.items c.in_ok-sleeper.sleeper.thread None) f c.self.inside.others) (sym w.self-is)
          (none_kept c.self.inside.room c.self.inside.due.items c.in_ok-sleeper.sleeper c.self.inside.others kept w.if-self.false)
    ]

pub returns-clause-first : goal.returns-clause-first
returns-clause-first c = record {
  due = c.in_ok-sleeper.sleeper.due;
  by_now = c.if-now-sleeper.false;
  first = first_of c.args.self.now c.in_ok-sleeper.sleeper (subst (λ l. IsFirstOf (Sleeps l) (Some c.in_ok-sleeper.sleeper)) c.self.view_is
      (subst (IsFirstOf (Sleeps c.self.inside.due.items)) c.in_ok-sleeper.was c.self.invariant.first_is));
}
