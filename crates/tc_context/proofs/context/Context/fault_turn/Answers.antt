use Rattle.tc_context.proofs.Vocabulary.{◌∙◌, ℕ, false, ◌==◌, refl, ap, sym, subst, None, if◌then◌else◌, option_map, has, act_with, TurnReady, TurnFits, thread_in, journal_in, done_of, faulted_if, Nothing}
use Rattle.tc_context.specs.Locks.{Changed, turned as turned_by}
use Rattle.tc_context.proofs.Moved.{turn_ready, turn_fits, none_noted, did_turn}
use Rattle.tc_context.proofs.context.Context.fault_turn.Goals as goal

pub take_turn-requires : goal.take_turn-requires
take_turn-requires c =
    let image = c.args.image.now in
    let d = thread_in c.args.self.now in
    let may = c.requires.may in
    let act = act_with image d 0 in
    let done = c.faulted.ensures ∙ (c.fault-fueled.ensures.turned 0).done in
    record {
      fits = subst TurnFits (sym done) (turn_fits image d 0 act refl may.go.guards);
      ready = λ k l found.
          subst (λ o. TurnReady (has c.held-held.result) o k l) (sym done)
          (subst (λ n. TurnReady (has n) (option_map done_of act) k l) (sym c.held-held.ensures) (turn_ready image (has c.args.block) d 0 act refl may.covers k l (may.go.of k l found) (may.opened k l.journal (ap (option_map journal_in) found))));
    }

pub returns : goal.returns
returns c =
    let old = c.args.self.now in
    let noting = λ (k : ℕ). if old.guest.fuel == 0 then false else has c.args.block k in
    let turned = c.fault-fueled.ensures.turned 0 in
    record {
      did = did_turn c.args.image.now (has c.args.block) noting old _ old.locks Nothing None 0 c.held-held.result (faulted_if c.fault-fueled.result c.args.fault) c.requires.may.go.of
          (sym c.fault-fueled.ensures.want) (sym c.requires.next) refl (λ k. refl) (none_noted noting 0 old.locks)
          c.held-held.ensures turned.done turned.fits (subst (λ o. Changed (turned_by (has c.held-held.result) o) old.locks c.take_turn.new.self) c.faulted.ensures c.take_turn.ensures) refl turned.thread;
    }
