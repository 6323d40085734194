use Rattle.std.proofs.Common.{◌≡◌, map, refl, sym, ap, ◌∙◌, subst}
use Rattle.tc_combiner.proofs.Vocabulary.{BenchView, DeskView, DidAcquire, EntersFirst, next_turn}
use Rattle.tc_combiner.proofs.Fitting.{at_bench, has_seats, kept_back, lines_at, may_want}
use Rattle.tc_combiner.proofs.Settling.{did_acquire, keeps_of}
use Rattle.tc_combiner.proofs.desk.Desk.acquire_lock.Goals as goal

pub acquire_at-requires-clause-lines : goal.acquire_at-requires-clause-lines
acquire_at-requires-clause-lines g c = λ κs b. (c.bench.invariant.0, c.bench.invariant.1)

pub acquire_at-requires-clause-parts : goal.acquire_at-requires-clause-parts
acquire_at-requires-clause-parts g c = λ κs b. at_bench _ c.args.bench.now c.args.self.now c.args.«package» _ _ c.bench.view_is c.requires.fits (ap (λ (d : DeskView). d.pass) c.self.view_is) (ap (λ (d : DeskView). d.aside) c.self.view_is) c.requires.hand

pub acquire_at-requires-clause-knows : goal.acquire_at-requires-clause-knows
acquire_at-requires-clause-knows g c = λ κs b. lines_at _ c.args.bench.now c.args.self.now _ c.args.«package» c.bench.view_is c.self.view_is c.requires.knows

pub acquire_at-requires-clause-seats : goal.acquire_at-requires-clause-seats
acquire_at-requires-clause-seats g c = λ κs b. has_seats g.Q.Order.queue g.Q.Order.seen _ c.args.bench.now c.args.self.now c.bench.inside.queues.now c.as_mut_slice.result.now c.bench.view_is c.requires.fits refl (ap (λ xs. map g.Q.Order.seen xs) c.as_mut_slice.ensures.value ∙ ap (λ (d : DeskView). d.seats) c.self.view_is)

pub acquire_at-requires-clause-may : goal.acquire_at-requires-clause-may
acquire_at-requires-clause-may g c = λ κs b. may_want _ c.args.bench.now c.args.self.now c.args.«package» c.args.lock c.bench.view_is c.requires.fits c.requires.may c.keeps.ensures.sound c.keeps.ensures.want c.requires.wants

pub returns : goal.returns
returns g c =
    let image : c.self.inside.parts.pass.knows.image ≡ c.bench.inside.hall.now.terms.image.value = ap (λ (d : DeskView). d.pass.knows.image) c.self.view_is ∙ (c.requires.fits.image ∙ sym (ap (λ (b : BenchView). b.hall.terms.image.value) c.bench.view_is ∙ c.requires.fits.hall)) in
    let keeps = keeps_of c.bench.inside.hall.now.terms _ c.args.«package» _ _ c.self.inside.sleeping c.self.inside.sleeping _ c.acquire_at.new.parts c.self.inside.parts.ready.items c.acquire_at.result c.clear.ensures c.acquire_at.ensures.acquired.here.answers c.acquire_at.ensures.acquired.same refl refl c.acquire_at.ensures.knows in
    let did = did_acquire c.bench.inside.hall.now.terms c.args.«package» _ _ c.self.inside.sleeping.sleepers c.self.inside.sleeping.clock c.self.inside.parts.ready.items _ c.acquire_at.new.parts image c.args.lock c.acquire_at.result c.acquire_at.ensures.acquired in
    let end = kept_back g.Q.Order.seen c.self.inside.seats c.as_mut_slice.result.now c.acquire_at.new.seats c.as_mut_slice.ensures.value (λ (d e : DeskView). DidAcquire c.args.lock c.args.«package» d e c.acquire_at.result) _ c.args.bench.now c.args.«package» c.self.inside.sleeping c.self.inside.sleeping c.self.inside.parts c.acquire_at.new.parts c.args.self.now c.acquire_at.result
    c.bench.view_is c.self.view_is c.requires.fits c.requires.hand keeps did in
    let enters = subst (λ (z : BenchView × DeskView). EntersFirst (λ q. g.Q.Order.fits q z.0.hall × g.Q.Order.of q c.args.lock) g.Q.Order.notes (next_turn c.args.«package») z.1.pass c.acquire_at.new.parts.pass) (λ i. (c.bench.view_is i, c.self.view_is i)) c.acquire_at.ensures.enters in
    record { keeps = end.0; acquired = (c.args.lock, c.requires.wants, end.1); enters = enters }
