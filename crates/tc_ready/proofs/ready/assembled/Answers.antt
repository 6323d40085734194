use Rattle.std.proofs.Common.{◌≡◌, ◌++◌, map, ap, ◌∙◌, sym, subst, arith, All, Vec, Global}
use Rattle.std.proofs.lemmas.List.Elements.{All-take}
use Rattle.tc_ready.specs.declared.ends.OtherEnd.{OtherEnd}
use Rattle.tc_ready.specs.EndView.{new_end}
use Rattle.tc_ready.proofs.Crews.{last_all, one_less, member_fits, made_more, all_made}
use Rattle.tc_ready.proofs.ready.assembled.Goals as goal

pub invariant_of-push_reserved : goal.invariant_of-push_reserved
invariant_of-push_reserved c =
    let i = c.loop-own.invariant in
    let m = i.0 in
    let is = last_all (λ es. es.items ≡ map new_end c.args.owners.items) c.pop.new.self.items c.loop-own.all.items c.in-Some-pop.ends c.in-Some-pop.ensures.items i.2 in
    member_fits c.args.threads c.args.room c.loop-own.number c.args.owners.items c.loop-own.yielded c.next.new.self.rest.items c.in-Some.own c.in-Some-pop.ends.items c.requires.owners.0 (m.owners ∙ ap (λ l. c.loop-own.yielded ++ l) c.in-Some.ensures.steps.0) m.number_is is

pub loop-own-preserved : goal.loop-own-preserved
loop-own-preserved c =
    let i = c.loop-own.invariant in
    let m = i.0 in
    let P : Vec OtherEnd Global → Type 0 = λ es. es.items ≡ map new_end c.args.owners.items in
    let is = last_all P c.pop.new.self.items c.loop-own.all.items c.in-Some-pop.ends c.in-Some-pop.ensures.items i.2 in (
      made_more c.args.threads c.args.room c.loop-own.number c.args.owners.items c.loop-own.yielded c.loop-own.own-iterator.rest.items c.next.new.self.rest.items c.in-Some.own c.in-Some-pop.ends.items c.loop-own.crew.items c.push_reserved.new.self.items c.requires.owners.0 m c.in-Some.ensures.steps.0 is c.push_reserved.ensures.items,
      one_less c.loop-own.all.items c.pop.new.self.items c.in-Some-pop.ends c.loop-own.own-iterator.rest.items c.next.new.self.rest.items c.in-Some.own i.1 c.in-Some-pop.ensures.items c.in-Some.ensures.steps.0,
      (λ k d deep. subst (All P) (sym c.pop.ensures.rest) (All-take P _ c.loop-own.all.items i.2) k d deep),
      (let a = c.push_reserved.ensures.capacity in let b = i.3 in omega arith),
    )

pub returns : goal.returns
returns c = all_made c.args.threads c.args.room c.loop-own.number c.args.owners.items c.loop-own.yielded c.loop-own.own-iterator.rest.items c.loop-own.crew.items c.loop-own.invariant.0 (sym c.loop-own.own-iterator.rest.ok.0 ∙ c.in-None.ensures.steps.0)
