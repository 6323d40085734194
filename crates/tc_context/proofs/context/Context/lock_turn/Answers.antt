use Rattle.tc_context.proofs.Vocabulary.{◌∙◌, false, refl, ap, sym, arith, Some, if◌then◌else◌, option_map, has, thread_after, thread_in, journal_in, nat_tests, done_of, next_wants, next_fueled, next_acts, next_known, Lock, Nothing}
use Rattle.tc_exec.specs.declared.outcome.Done.TheVariants.{Called}
use Rattle.tc_context.proofs.Moved.{noted_lock, did_turn}
use Rattle.tc_context.proofs.context.Context.lock_turn.Goals as goal

pub note_each-requires : goal.note_each-requires
note_each-requires c = record { opened = λ k l found. c.requires.may.opened k l.journal (ap (option_map journal_in) found); room = λ k l found. c.requires.may.room k l.journal (ap (option_map journal_in) found) }

pub take_lock-requires : goal.take_lock-requires
take_lock-requires c =
    let known = next_known c.args.image.now (thread_in c.args.self.now) c.args.lock c.requires.next in
    let few = c.requires.may.go.guards in
    record {
      fuel = (let some = next_fueled c.args.image.now (thread_in c.args.self.now) c.args.lock c.requires.next in grind (arith, nat_tests));
      fits = omega (arith, known, few);
    }

pub begin-requires : goal.begin-requires
begin-requires c =
    let known = next_known c.args.image.now (thread_in c.args.self.now) c.args.lock c.requires.next in
    let few = c.requires.may.go.guards in
    record {
      place = omega (arith, known, few);
      lock = λ l found.
          (noted_lock c.args.image.now (has c.args.block) (has c.args.block) c.args.self.now c.note_each.new.self Nothing (Some c.args.lock) c.lock_answer-answer.result c.requires.may.go.of c.requires.may.opened c.note_each.ensures c.args.lock l found).1
          (c.requires.may.covers.next c.args.lock c.requires.next);
    }

pub returns : goal.returns
returns c =
    let image = c.args.image.now in
    let old = c.args.self.now in
    let d = thread_in old in
    let answer = c.lock_answer-answer.result in
    let acts = sym (next_acts image d c.args.lock answer c.requires.next) in
    let known = next_known image d c.args.lock c.requires.next in
    let few = c.requires.may.go.guards in
    record {
      did = did_turn image (has c.args.block) (has c.args.block) old _ c.note_each.new.self Nothing (Some c.args.lock) answer old.guest.held (Some (Called (Lock c.args.lock))) c.requires.may.go.of
          (sym (next_wants image d c.args.lock c.requires.next)) (sym c.requires.next) c.lock_answer-answer.ensures (λ k. sym (ap (λ b. if b then false else has c.args.block k) (next_fueled image d c.args.lock c.requires.next))) c.note_each.ensures
          refl (ap (option_map done_of) acts) (omega (arith, known, few)) c.begin.ensures refl (c.take_lock.ensures ∙ ap (thread_after d) acts);
    }
