use Rattle.tc_context.proofs.Vocabulary.{◌≡◌, ◌<◌, arith, refl, ap, subst, sym, ◌∙◌, Some, None, is_some, has, IsAtRest, lock_in, PackageView, AreEnded, IsSoundPackage, locks_with, view_with}
use Rattle.tc_context.proofs.Ended.{ended_placed}
use Rattle.tc_context.proofs.Staging.{rests, shows, place_small, at_rest, set_without, taken_sound, with_locks}
use Rattle.tc_context.proofs.Rooms.{gives_placed}
use Rattle.tc_context.proofs.package.Package.take_out.Goals as goal

pub invariant_of-self : goal.invariant_of-self
invariant_of-self c =
    let s = shows c.deref_mut-contents.ensures.value c.self.view_is c.self.invariant in
    let r = rests s c.requires.pending in
    let p = view_with None c.deref_mut-contents.result.now in
    let small : c.args.lock < 32 = place_small p c.args.lock r.sound (ap (λ (v : PackageView). is_some (lock_in v.context.locks c.args.lock)) r.is ∙ c.requires.here) in
    let free = ap (λ (v : PackageView). has v.context.guest.held c.args.lock) r.is ∙ c.requires.released in
    record {
      sound = subst (λ o. IsSoundPackage (record p { context = with_locks p.context (locks_with o p.context.guest.regs c.take_out.new.self); pending = o })) (sym r.none)
          (subst IsSoundPackage (λ i. record p { context = with_locks p.context (sym c.take_out.ensures.is i) })
          (taken_sound p c.args.lock r.sound refl (ap (λ (v : PackageView). v.granted) r.is ∙ c.requires.granted) free small));
      code = s.kept.code;
      ended = subst (λ o. AreEnded (with_locks p.context (locks_with o p.context.guest.regs c.take_out.new.self))) (sym r.none) (ended_placed p.context _ c.args.lock None c.take_out.ensures.left free r.ended);
      unsealed = λ b is. absurd (let f : None ≡ Some b = sym r.none ∙ is in cc);
      edge = s.kept.edge;
      next = s.kept.next;
      present = set_without c.args.lock p.context.locks _ c.deref_mut-contents.result.now.present _ c.take_out.ensures.left c.less-contents.ensures.each s.kept.present;
      pending = s.kept.pending;
      log = s.kept.log;
      room = gives_placed c.args.lock None p.context.locks _ _ _ c.take_out.ensures.left (record { entries = omega arith; words = omega arith }) (λ l no. absurd (cc)) s.kept.room;
      own = s.kept.own;
    }

pub returns-clause-rest : goal.returns-clause-rest
returns-clause-rest c =
    let r = rests (shows c.deref_mut-contents.ensures.value c.self.view_is c.self.invariant) c.requires.pending in
    subst (λ (v : PackageView). IsAtRest v.image c.args.lock c.in-Some.state) r.is (at_rest (view_with None c.deref_mut-contents.result.now) c.args.lock c.in-Some.state r.sound refl
    (ap (λ (v : PackageView). has v.context.guest.held c.args.lock) r.is ∙ c.requires.released) (sym c.take_out.ensures.taken ∙ c.in-Some.is))
