use Rattle.std.specs.declared.sync.Arc.{Arc}
use Rattle.tc_context.proofs.Vocabulary.{◌≡◌, ◌-◌, ◌<◌, ◌≤◌, length, List, Option, None, Vec, Global, Part, Contents, KeptPackage, LockView, guest_in, refl, arith, ap, subst, sym, ◌∙◌, is_some, vec_len, vec_capacity, AreEnded, Block, Guest, IsSoundPackage, SameLocks, next_lock, thread_of, PackageView, view_of, locks_with, pending_in, Room}
use Rattle.tc_context.proofs.Ended.{ended_rooms}
use Rattle.tc_context.proofs.Rooms.{EachGives, gives_none}
use Rattle.tc_context.proofs.Staging.{Shows, shows, with_rooms, same_set, same_seen, seen_places, roomy_seen, sound_rooms, unsealed_rooms}
use Rattle.tc_context.proofs.package.Package.reserve_more.Goals as goal

-- what a package keeps with rooms anew
module _ {a : Contents} {v : PackageView} (s : Shows a v) {log : Vec Block Global} {first : Option (Arc (List Part) Global)} {guest : Guest} (items : log.items ≡ a.log.items)
    (thread : guest_in first guest ≡ guest_in a.first a.context.guest) (own : vec_len log < vec_capacity log → first ≡ None) where
  kept_rooms : (now : List (Option LockView)) (room : Room) → SameLocks a.context.locks now → length (locks_with (pending_in a.pending a.log.items) a.context.guest.regs now) ≡ 32
      → room.entries ≤ vec_capacity log - vec_len log → EachGives room now → KeptPackage (record a { first = first; context = record { thread = a.context.thread; guest = guest; locks = now }; log = log; room = room })
  kept_rooms now room same places enough gives =
      let p = view_of a in
      let regs = a.context.guest.regs in
      let seen = locks_with p.pending regs now in
      let as_seen = same_seen p.pending regs a.context.locks now same in
      record {
        sound = subst (λ (z : List Block × Guest). IsSoundPackage (record (with_rooms p seen (vec_capacity log - vec_len log) p.turns) { context = record { thread = p.context.thread; guest = z.1; locks = locks_with (pending_in a.pending z.0) z.1.regs now }; pending = pending_in a.pending z.0; log = z.0 })) (λ i. (sym items i, sym thread i))
            (sound_rooms p seen (vec_capacity log - vec_len log) p.turns places as_seen s.kept.sound);
        code = s.kept.code;
        ended = subst (λ (z : List Block × Guest). AreEnded (record { thread = p.context.thread; guest = z.1; locks = locks_with (pending_in a.pending z.0) z.1.regs now })) (λ i. (sym items i, sym thread i)) (ended_rooms p.context seen as_seen s.kept.ended);
        unsealed = λ b is. unsealed_rooms b regs _ a.context.locks now (ap (λ (g : Guest). g.regs) thread) same (s.kept.unsealed b (ap (pending_in a.pending) (sym items) ∙ is));
        edge = λ packed. s.kept.edge packed ∙ ap (λ (g : Guest). g.regs) (sym thread);
        next = s.kept.next ∙ ap (λ (g : Guest). next_lock p.image (thread_of g)) (sym thread);
        own = own;
        present = λ k. same_set a.context.locks now same k ∙ s.kept.present k;
        pending = subst (λ (g : List Block). is_some (pending_in a.pending g) ≡ a.pending) (sym items) s.kept.pending;
        log = enough;
        room = gives;
      }

  -- and none yet
  kept_none : (now : List (Option LockView)) (room : Room) → SameLocks a.context.locks now → length (locks_with (pending_in a.pending a.log.items) a.context.guest.regs now) ≡ 32
      → room ≡ record { entries = 0; words = 0 } → KeptPackage (record a { first = first; context = record { thread = a.context.thread; guest = guest; locks = now }; log = log; room = room })
  kept_none now room same places none = kept_rooms now room same places (omega (arith, ap (λ (r : Room). r.entries) none)) (subst (λ (r : Room). EachGives r now) (sym none) (gives_none now))

pub invariant_of-self : goal.invariant_of-self
invariant_of-self c =
    let s = shows c.deref_mut-contents.ensures.value c.self.view_is c.self.invariant in
    let m = c.make_room.ensures in
    kept_none s m.same.items m.thread m.own _ _ (λ k. refl) s.kept.sound.places.0 c.none-contents.ensures

pub invariant_of-self-in_err-made : goal.invariant_of-self-in_err-made
invariant_of-self-in_err-made c =
    let m = c.make_room.ensures in
    kept_none (shows c.deref_mut-contents.ensures.value c.self.view_is c.self.invariant) m.same.items m.thread m.own _ _ c.reserve-made.ensures.same (seen_places _ _ c.reserve-made.new.self c.bound.ensures.places) c.none-contents.ensures

pub invariant_of-self-2 : goal.invariant_of-self-2
invariant_of-self-2 c =
    let s = shows c.deref_mut-contents.ensures.value c.self.view_is c.self.invariant in
    let m = c.make_room.ensures in
    let same = c.reserve-made.ensures.same in
    kept_rooms s m.same.items m.thread m.own _ _ same (seen_places _ _ c.reserve-made.new.self c.bound.ensures.places) (let h = c.room-contents.ensures.most.entries in omega (arith, h, c.of.ensures))
    (λ k l e. c.room-contents.ensures.locks k l e (sym (s.kept.present k) ∙ sym (same_set c.deref_mut-contents.result.now.context.locks c.reserve-made.new.self same k) ∙ ap is_some e))

pub returns-clause-ok : goal.returns-clause-ok
returns-clause-ok c =
    let s = shows c.deref_mut-contents.ensures.value c.self.view_is c.self.invariant in
    let a = c.deref_mut-contents.result.now in
    let now = c.reserve-made.new.self in
    let room = roomy_seen (pending_in a.pending c.make_room.new.log.items) c.make_room.new.guest.regs now (λ k l e. c.in_ok-made.ensures.ok k l e (sym (s.kept.present k) ∙ sym (same_set a.context.locks now c.reserve-made.ensures.same k) ∙ ap is_some e)) in
    record { log = omega (arith, c.in_ok-make_room.ensures.room); entries = λ k l e. (room k l e).entry; words = λ k l e. (room k l e).words }

pub returns-clause-same : goal.returns-clause-same
returns-clause-same c = grind (arith, shows, same_seen)
