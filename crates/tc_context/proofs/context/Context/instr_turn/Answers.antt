use Rattle.tc_context.proofs.Vocabulary.{◌≡◌, ℕ, true, ◌==◌, refl, ap, sym, subst, None, option_map, has, act_with, TurnReady, TurnFits, thread_in, journal_in, done_of}
use Rattle.tc_context.proofs.Moved.{turn_ready, turn_fits, noting_block, noted_lock, did_turn}
use Rattle.tc_context.proofs.context.Context.instr_turn.Goals as goal

pub note-requires : goal.note-requires
note-requires c =
    let may = c.requires.may in
    let block = λ (k : ℕ) (h : has c.noting-noting.result k ≡ true). noting_block (c.args.self.now.guest.fuel == 0) (has c.args.block k) _ (c.noting-noting.ensures k) h in
    record { opened = λ k l found h. may.opened k l.journal (ap (option_map journal_in) found) (block k h); room = λ k l found h. may.room k l.journal (ap (option_map journal_in) found) (block k h) }

pub take_turn-requires : goal.take_turn-requires
take_turn-requires c =
    let image = c.args.image.now in
    let d = thread_in c.args.self.now in
    let may = c.requires.may in
    let act = act_with image d c.answer-answer.result in
    record {
      fits = subst TurnFits (sym c.turn-done.ensures.done) (turn_fits image d c.answer-answer.result act refl may.go.guards);
      ready = λ k l found.
          (let lock = noted_lock image (has c.args.block) (has c.noting-noting.result) c.args.self.now c.note.new.self c.load_wanted-want.result None c.answer-answer.result may.go.of may.opened c.note.ensures k l found in
          subst (λ o. TurnReady (has c.held-held.result) o k l) (sym c.turn-done.ensures.done)
          (subst (λ n. TurnReady (has n) (option_map done_of act) k l) (sym c.held-held.ensures) (turn_ready image (has c.args.block) d c.answer-answer.result act refl may.covers k l lock.0 lock.1)));
    }

pub returns : goal.returns
returns c =
    record {
      did = did_turn c.args.image.now (has c.args.block) (has c.noting-noting.result) c.args.self.now _ c.note.new.self c.load_wanted-want.result None c.answer-answer.result c.held-held.result c.turn-done.result c.requires.may.go.of
          c.load_wanted-want.ensures.value (sym c.requires.next) c.answer-answer.ensures c.noting-noting.ensures c.note.ensures
          c.held-held.ensures c.turn-done.ensures.done c.turn-done.ensures.fits c.take_turn.ensures refl c.turn-done.ensures.thread;
    }
