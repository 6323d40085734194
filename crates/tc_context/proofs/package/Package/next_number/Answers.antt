use Rattle.tc_context.proofs.Vocabulary.{refl, view_of}
use Rattle.tc_context.proofs.Staging.{shows, sound_rooms}
use Rattle.tc_context.proofs.package.Package.next_number.Goals as goal

pub invariant_of-self : goal.invariant_of-self
invariant_of-self c =
    let s = shows c.deref_mut-contents.ensures.value c.self.view_is c.self.invariant in
    let p = view_of c.deref_mut-contents.result.now in
    record {
      sound = sound_rooms p p.context.locks p.log_room _ s.kept.sound.places.0 (λ k. refl) s.kept.sound;
      code = s.kept.code;
      ended = s.kept.ended;
      edge = s.kept.edge;
      next = s.kept.next;
      present = s.kept.present;
      pending = s.kept.pending;
      log = s.kept.log;
      room = s.kept.room;
      unsealed = s.kept.unsealed;
      own = s.kept.own;
    }
