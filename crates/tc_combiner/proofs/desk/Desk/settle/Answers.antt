use Rattle.std.proofs.Common.{map, refl, sym, ap, ◌∙◌, subst}
use Rattle.tc_combiner.proofs.Vocabulary.{BenchView, DeskView, EntersFirst, HasSettled, MaySettle, Shown, next_turn}
use Rattle.tc_combiner.proofs.Fitting.{at_bench, has_seats, kept_back, lines_at}
use Rattle.tc_combiner.proofs.desk.Desk.settle.Goals as goal

pub settle_with-requires-clause-lines : goal.settle_with-requires-clause-lines
settle_with-requires-clause-lines g c = λ κs b. c.bench.invariant

pub settle_with-requires-clause-parts : goal.settle_with-requires-clause-parts
settle_with-requires-clause-parts g c = λ κs b. record {
  at = at_bench _ c.args.bench.now c.args.self.now c.args.«package» _ _ c.bench.view_is c.requires.fits (ap (λ (d : DeskView). d.pass) c.self.view_is) (ap (λ (d : DeskView). d.aside) c.self.view_is) c.requires.hand;
  lines = lines_at _ c.args.bench.now c.args.self.now _ c.args.«package» c.bench.view_is c.self.view_is c.requires.knows;
}

pub settle_with-requires-clause-seats : goal.settle_with-requires-clause-seats
settle_with-requires-clause-seats g c = λ κs b. has_seats g.Q.Order.queue g.Q.Order.seen _ c.args.bench.now c.args.self.now c.bench.inside.queues.now c.as_mut_slice.result.now c.bench.view_is c.requires.fits refl (ap (λ xs. map g.Q.Order.seen xs) c.as_mut_slice.ensures.value ∙ ap (λ (d : DeskView). d.seats) c.self.view_is)

pub settle_with-requires-clause-may : goal.settle_with-requires-clause-may
settle_with-requires-clause-may g c = λ κs b.
    subst (λ (d : DeskView). MaySettle c.bench.inside.hall.now.terms.image.value d.pass.knows.worker c.args.end c.args.«package») (sym c.self.view_is)
    (subst (λ (x : Shown). MaySettle x c.args.self.now.pass.knows.worker c.args.end c.args.«package») (sym (ap (λ (b : BenchView). b.hall.terms.image.value) c.bench.view_is ∙ c.requires.fits.hall)) c.requires.may)

pub returns : goal.returns
returns g c =
    let end = kept_back g.Q.Order.seen c.self.inside.seats c.as_mut_slice.result.now c.settle_with.new.seats c.as_mut_slice.ensures.value (λ (d e : DeskView). HasSettled c.args.end c.args.«package» d e c.settle_with.result) _ c.args.bench.now c.args.«package» c.self.inside.sleeping c.settle_with.new.sleeping c.self.inside.parts c.settle_with.new.parts c.args.self.now c.settle_with.result
    c.bench.view_is c.self.view_is c.requires.fits c.requires.hand c.settle_with.ensures.keeps c.settle_with.ensures.settled in
    record { keeps = end.0; settled = end.1; enters = λ i e. subst (λ (z : BenchView × DeskView). EntersFirst (λ q. g.Q.Order.fits q z.0.hall × g.Q.Order.of q i) g.Q.Order.notes (next_turn c.args.«package») z.1.pass c.settle_with.new.parts.pass) (λ j. (c.bench.view_is j, c.self.view_is j)) (c.settle_with.ensures.enters i e) }
