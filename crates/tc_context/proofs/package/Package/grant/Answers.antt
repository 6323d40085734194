use Rattle.tc_context.proofs.Vocabulary.{◌≡◌, ◌∙◌, sym, subst, set, arith, Some, None, AreEnded, Gives, IsAtRest, PackageView, IsSoundPackage, IsWaiting, MayPassTo, locks_with, view_with}
use Rattle.tc_context.proofs.Ended.{ended_placed}
use Rattle.tc_context.proofs.Staging.{rests, shows, granted_sound, set_with, wanted, with_locks}
use Rattle.tc_context.proofs.Rooms.{gives_placed}
use Rattle.tc_context.proofs.package.Package.grant.Goals as goal

pub invariant_of-self : goal.invariant_of-self
invariant_of-self c =
    let s = shows c.deref_mut-contents.ensures.value c.self.view_is c.self.invariant in
    let r = rests s c.requires.waiting.pending in
    let p = view_with None c.deref_mut-contents.result.now in
    let n = c.number.ensures.is in
    let waiting = subst (λ v. IsWaiting v c.args.lock.number) (sym r.is) c.requires.waiting in
    record {
      sound = subst (λ o. IsSoundPackage (record p {
        context = with_locks p.context (locks_with o p.context.guest.regs c.put_in.new.self);
        granted = Some (record { lock = c.number.result; kind = c.args.kind });
        pending = o;
        numbers = set p.numbers c.number.result c.args.number;
      })) (sym r.none) (subst IsSoundPackage (λ i. record p {
        context = with_locks p.context (sym c.put_in.ensures.is i);
        granted = Some (record { lock = sym n i; kind = c.args.kind });
        numbers = set p.numbers (sym n i) c.args.number;
      }) (granted_sound p c.args.lock c.args.kind c.args.number r.sound waiting
          (subst (λ (v : PackageView). IsAtRest v.image c.args.lock.number c.args.lock) (sym r.is) c.requires.rest) c.requires.kind (subst (λ (v : PackageView). MayPassTo c.args.lock c.args.kind v.context.thread) (sym r.is) c.requires.passes) c.requires.number));
      code = s.kept.code;
      ended = subst (λ o. AreEnded (with_locks p.context (locks_with o p.context.guest.regs c.put_in.new.self))) (sym r.none)
          (ended_placed p.context _ c.args.lock.number (Some c.args.lock) c.put_in.ensures.locks (wanted p r.sound c.args.lock.number waiting.want).free r.ended);
      unsealed = λ b is. absurd (let f : None ≡ Some b = sym r.none ∙ is in cc);
      edge = s.kept.edge;
      next = s.kept.next;
      present = set_with c.args.lock.number _ c.args.lock p.context.locks _ c.deref_mut-contents.result.now.present _ n c.put_in.ensures.locks c.plus-contents.ensures.each s.kept.present;
      pending = s.kept.pending;
      log = (let h = s.kept.log in let less = c.with-contents.ensures.rest.entries in omega (arith, h, less));
      room = gives_placed c.args.lock.number (Some c.args.lock) p.context.locks _ _ _ c.put_in.ensures.locks c.with-contents.ensures.rest (λ l is. subst (Gives _) (let e : c.args.lock ≡ l = cc in e) c.with-contents.ensures.lock) s.kept.room;
      own = s.kept.own;
    }
