use Rattle.std.proofs.Common.{◌≡◌, ℕ, List, [], ◌∷◌, refl, sym, ap, ◌∙◌, subst, map, arith, length, length-set}
use Rattle.tc_combiner.proofs.Vocabulary.{DeskView, DidNothing, DidPark, Did_park, End, EntersFirst, GoesOn, DeskParts, IsGood, Pack, Sleeping, SettledAs, Shown, desk_of, desk_with, next_turn, packed, threads}
use Rattle.tc_combiner.proofs.Acting.{acts_none, takes_none}
use Rattle.tc_combiner.proofs.Ending.{same_seats, seats_first}
use Rattle.tc_combiner.proofs.Settling.{after_last, did_acquire, did_end, did_unlock, ended, keeps_of, may_ask, may_begin, may_continue, may_end, may_park, may_unlock, settled_end}
use Rattle.tc_combiner.proofs.Answering.{keeps_answers}
use Rattle.tc_combiner.proofs.settle.settle_with.Goals as goal

pub acquire_at-requires-clause-may : goal.acquire_at-requires-clause-may
acquire_at-requires-clause-may g c = λ κs b.
    let block = c.requires.may.0 in
    let after = after_last c.args.shared.now.hall.now.terms.image.value c.args.parts.now.pass.knows.worker c.args.end _ block c.args.«package» c.in-Wants.is c.requires.may c.requires.may.1.last in
    may_ask c.args.shared.now.hall.now.terms c.args.parts.now.pass.knows.worker block c.args.«package» c.keeps.ensures.sound c.in-Wants.lock c.keeps.ensures.want after

pub returns-in-Wants-clause-settled : goal.returns-in-Wants-clause-settled
returns-in-Wants-clause-settled g c =
    let before = desk_with c.args.parts.now (map g.Q.Order.seen c.args.seats.now) c.args.sleeping.now in
    let after = desk_with c.acquire_at.new.parts (map g.Q.Order.seen c.acquire_at.new.seats) c.args.sleeping.now in
    let did = did_acquire c.args.shared.now.hall.now.terms c.args.«package» _ _ c.args.sleeping.now.sleepers c.args.sleeping.now.clock c.args.parts.now.ready.items _ c.acquire_at.new.parts c.requires.parts.at.image c.in-Wants.lock c.acquire_at.result c.acquire_at.ensures.acquired in
    (c.requires.may.0, c.requires.may.1.last, subst (λ (x : End). SettledAs x c.args.«package» c.requires.may.0 before after c.acquire_at.result) (sym c.in-Wants.is) did)

pub returns-in-Wants-clause-keeps : goal.returns-in-Wants-clause-keeps
returns-in-Wants-clause-keeps g c = keeps_of c.args.shared.now.hall.now.terms _ c.args.«package» _ _ c.args.sleeping.now c.args.sleeping.now _ c.acquire_at.new.parts _ c.acquire_at.result c.clear.ensures c.acquire_at.ensures.acquired.here.answers c.acquire_at.ensures.acquired.same refl refl c.acquire_at.ensures.knows

pub returns-in-Wants-clause-enters : goal.returns-in-Wants-clause-enters
returns-in-Wants-clause-enters g c = λ i e.
    let same : c.in-Wants.lock ≡ i = cc (c.in-Wants.is, e) in
    subst (λ n. EntersFirst (λ q. g.Q.Order.fits q c.args.shared.now.hall.now × g.Q.Order.of q n) g.Q.Order.notes (next_turn c.args.«package») c.args.parts.now.pass c.acquire_at.new.parts.pass) same c.acquire_at.ensures.enters

pub unlocked_at-requires-clause-parts : goal.unlocked_at-requires-clause-parts
unlocked_at-requires-clause-parts g c = λ κs b. may_begin c.args.shared.now.hall.now _ 2 _ c.requires.parts.at c.clear.ensures (omega arith)

pub unlocked_at-requires-clause-may : goal.unlocked_at-requires-clause-may
unlocked_at-requires-clause-may g c = λ κs b.
    let block = c.last-block.result in
    let after = after_last c.args.shared.now.hall.now.terms.image.value c.args.parts.now.pass.knows.worker c.args.end _ block c.args.«package» c.in-Unlocked.is c.requires.may c.last-block.ensures in
    may_unlock c.args.shared.now.hall.now.terms c.args.parts.now.pass.knows.worker block c.args.«package» c.keeps.ensures.sound c.args.parts.now.pass.knows c.in-Unlocked.lock c.requires.parts.at.image refl after

pub returns-in-Unlocked-clause-settled : goal.returns-in-Unlocked-clause-settled
returns-in-Unlocked-clause-settled g c =
    let before = desk_with c.args.parts.now (map g.Q.Order.seen c.args.seats.now) c.args.sleeping.now in
    let after = desk_with c.unlocked_at.new.parts (map g.Q.Order.seen c.unlocked_at.new.seats) c.args.sleeping.now in
    let did = did_unlock c.args.shared.now.hall.now.terms c.args.«package» _ _ c.args.sleeping.now.sleepers c.args.sleeping.now.clock c.args.parts.now.ready.items _ c.unlocked_at.new.parts c.requires.parts.at.image c.in-Unlocked.lock c.last-block.result c.unlocked_at.result c.unlocked_at.ensures.unlocks in
    (c.last-block.result, c.last-block.ensures, subst (λ (x : End). SettledAs x c.args.«package» c.last-block.result before after c.unlocked_at.result) (sym c.in-Unlocked.is) did)

pub returns-in-Unlocked-clause-keeps : goal.returns-in-Unlocked-clause-keeps
returns-in-Unlocked-clause-keeps g c =
    keeps_of c.args.shared.now.hall.now.terms _ c.args.«package» _ _ c.args.sleeping.now c.args.sleeping.now _ c.unlocked_at.new.parts _ c.unlocked_at.result c.clear.ensures c.unlocked_at.ensures.unlocks.here.answers c.unlocked_at.ensures.unlocks.same refl refl c.unlocked_at.ensures.knows

pub returns-in-Unlocked-clause-enters : goal.returns-in-Unlocked-clause-enters
returns-in-Unlocked-clause-enters g c = λ i e. let n : ⊥ = cc (c.in-Unlocked.is, e) in absurd n

pub park-requires-clause-may : goal.park-requires-clause-may
park-requires-clause-may g c =
    let after = after_last c.args.shared.now.hall.now.terms.image.value c.args.parts.now.pass.knows.worker c.args.end _ c.requires.may.0 c.args.«package» c.in-Slept.is c.requires.may c.requires.may.1.last in
    may_park c.args.shared.now.hall.now.terms c.args.parts.now.pass.knows.worker c.requires.may.0 c.args.«package» c.keeps.ensures.sound after

pub returns-in-Slept-clause-settled : goal.returns-in-Slept-clause-settled
returns-in-Slept-clause-settled g c =
    let before = desk_with c.args.parts.now (map g.Q.Order.seen c.args.seats.now) c.args.sleeping.now in
    let after = desk_with c.park.new.parts (map g.Q.Order.seen c.args.seats.now) c.park.new.sleeping in
    let did : DidPark c.args.«package» before after = record { seats = refl; aside = c.park.ensures.calls.aside; adds = c.park.ensures.calls.answers.acts.adds; sleeper = ap (λ (x : Sleeping). x.sleepers) c.park.ensures.sleeper } in
    (c.requires.may.0, c.requires.may.1.last, subst (λ (x : End). SettledAs x c.args.«package» c.requires.may.0 before after Did_park) (sym c.in-Slept.is) did)

pub returns-in-Slept-clause-keeps : goal.returns-in-Slept-clause-keeps
returns-in-Slept-clause-keeps g c =
    let room = ap (λ (x : Sleeping). length x.sleepers) c.park.ensures.sleeper ∙ length-set _ _ _ in
    keeps_of c.args.shared.now.hall.now.terms _ c.args.«package» _ _ c.args.sleeping.now c.park.new.sleeping _ c.park.new.parts _ Did_park c.clear.ensures c.park.ensures.calls.answers
    (seats_first (map g.Q.Order.seen c.args.seats.now)) (ap (λ (x : Sleeping). x.clock) c.park.ensures.sleeper) room c.park.ensures.lines

pub returns-in-Slept-clause-enters : goal.returns-in-Slept-clause-enters
returns-in-Slept-clause-enters g c = λ i e. let n : ⊥ = cc (c.in-Slept.is, e) in absurd n

pub returns-in-Cut-clause-settled : goal.returns-in-Cut-clause-settled
returns-in-Cut-clause-settled g c =
    let block = c.requires.may.0 in
    let kept = after_last c.args.shared.now.hall.now.terms.image.value c.args.parts.now.pass.knows.worker c.args.end _ block c.args.«package» c.in-Cut.is c.requires.may c.requires.may.1.last in
    let good = may_continue c.args.shared.now.hall.now.terms c.args.parts.now.pass.knows.worker block c.args.«package» c.keeps.ensures.sound kept in
    let desk : List ℕ → DeskView = λ hs. desk_of c.args.parts.now.pass (map g.Q.Order.seen c.args.seats.now) c.args.sleeping.now.sleepers c.args.sleeping.now.clock c.args.parts.now.aside hs in
    let here = subst (λ (x : Shown). IsGood c.args.«package» x c.args.parts.now.pass.knows.worker) (sym c.requires.parts.at.image) good in
    let goes : DidNothing c.args.«package» (desk c.args.parts.now.ready.items) (desk c.clear.new.self.items) (GoesOn c.args.«package») = (refl, ap desk c.clear.ensures, here) in
    (block, c.requires.may.1.last, subst (λ (x : End). SettledAs x c.args.«package» block (desk c.args.parts.now.ready.items) (desk c.clear.new.self.items) (GoesOn c.args.«package»)) (sym c.in-Cut.is) goes)

pub returns-in-Cut-clause-keeps : goal.returns-in-Cut-clause-keeps
returns-in-Cut-clause-keeps g c =
    let h : DeskParts = record c.args.parts.now { ready = c.clear.new.self } in
    let none = takes_none (threads c.args.shared.now.hall.now.terms) c.clear.new.self.items c.clear.new.self.items [] refl refl in
    let still = acts_none c.args.parts.now.pass (Pack c.args.«package» ∷ packed c.args.parts.now.aside) in
    let answers = keeps_answers c.args.shared.now.hall.now [] c.args.«package» h h (GoesOn c.args.«package») c.requires.parts.at still none refl in
    keeps_of c.args.shared.now.hall.now.terms [] c.args.«package» _ _ c.args.sleeping.now c.args.sleeping.now h h _ (GoesOn c.args.«package») c.clear.ensures answers (seats_first (map g.Q.Order.seen c.args.seats.now)) refl refl c.requires.parts.lines

pub returns-in-Cut-clause-enters : goal.returns-in-Cut-clause-enters
returns-in-Cut-clause-enters g c = λ i e. let n : ⊥ = cc (c.in-Cut.is, e) in absurd n

pub ended_with-requires-clause-parts : goal.ended_with-requires-clause-parts
ended_with-requires-clause-parts g c = λ κs b. may_begin c.args.shared.now.hall.now _ _ _ c.requires.parts.at c.clear.ensures (omega arith)

pub ended_with-requires-clause-may : goal.ended_with-requires-clause-may
ended_with-requires-clause-may g c = λ κs b.
    let block = c.last-block-in_default.result in
    let after = after_last c.args.shared.now.hall.now.terms.image.value c.args.parts.now.pass.knows.worker c.args.end _ block c.args.«package» refl c.requires.may c.last-block-in_default.ensures in
    may_end c.args.shared.now.hall.now.terms c.args.parts.now.pass.knows.worker _ block c.args.«package» c.keeps.ensures.sound after c.args.parts.now.pass.knows c.requires.parts.at.image refl
    (ended c.args.end c.in_default.not-Wants c.in_default.not-Unlocked c.in_default.not-Slept c.in_default.not-Cut)

pub returns-in_default-clause-settled : goal.returns-in_default-clause-settled
returns-in_default-clause-settled g c =
    let block = c.last-block-in_default.result in
    let ends = ended c.args.end c.in_default.not-Wants c.in_default.not-Unlocked c.in_default.not-Slept c.in_default.not-Cut in
    let did = did_end c.args.shared.now.hall.now.terms c.args.«package» _ _ c.args.sleeping.now.sleepers c.args.sleeping.now.clock c.args.parts.now.ready.items _ c.ended_with.new.parts c.requires.parts.at.image block c.ended_with.result c.ended_with.ensures.ends in
    (block, c.last-block-in_default.ensures, settled_end c.args.end c.args.«package» block _ _ c.ended_with.result ends did)

pub returns-in_default-clause-keeps : goal.returns-in_default-clause-keeps
returns-in_default-clause-keeps g c =
    let same = same_seats c.last-block-in_default.result c.args.«package» (map g.Q.Order.seen c.args.seats.now) (map g.Q.Order.seen c.ended_with.new.seats) c.ended_with.ensures.ends.became.0 in
    keeps_of c.args.shared.now.hall.now.terms _ c.args.«package» _ _ c.args.sleeping.now c.args.sleeping.now _ c.ended_with.new.parts _ c.ended_with.result c.clear.ensures c.ended_with.ensures.ends.answers same refl refl c.ended_with.ensures.knows

pub returns-in_default-clause-enters : goal.returns-in_default-clause-enters
returns-in_default-clause-enters g c = λ i e. absurd (c.in_default.not-Wants i e)

-- ---- the orders, and how the pass stands at the lines

pub acquire_at-requires-clause-lines : goal.acquire_at-requires-clause-lines
acquire_at-requires-clause-lines g c = λ κs b. c.requires.lines

pub acquire_at-requires-clause-parts : goal.acquire_at-requires-clause-parts
acquire_at-requires-clause-parts g c = λ κs b. c.requires.parts.at

pub acquire_at-requires-clause-knows : goal.acquire_at-requires-clause-knows
acquire_at-requires-clause-knows g c = λ κs b. c.requires.parts.lines

pub unlocked_at-requires-clause-lines : goal.unlocked_at-requires-clause-lines
unlocked_at-requires-clause-lines g c = λ κs b. c.requires.lines.0

pub unlocked_at-requires-clause-order : goal.unlocked_at-requires-clause-order
unlocked_at-requires-clause-order g c = λ κs b. c.requires.lines.1

pub unlocked_at-requires-clause-knows : goal.unlocked_at-requires-clause-knows
unlocked_at-requires-clause-knows g c = λ κs b. c.requires.parts.lines

pub park-requires-clause-parts : goal.park-requires-clause-parts
park-requires-clause-parts g c = c.requires.parts.at

pub park-requires-clause-lines : goal.park-requires-clause-lines
park-requires-clause-lines g c = c.requires.parts.lines

pub ended_with-requires-clause-lines : goal.ended_with-requires-clause-lines
ended_with-requires-clause-lines g c = λ κs b. c.requires.lines.0

pub ended_with-requires-clause-order : goal.ended_with-requires-clause-order
ended_with-requires-clause-order g c = λ κs b. c.requires.lines.1

pub ended_with-requires-clause-knows : goal.ended_with-requires-clause-knows
ended_with-requires-clause-knows g c = λ κs b. c.requires.parts.lines
