use Rattle.tc_context.proofs.Vocabulary.{refl, arith, ap, subst, sym, ◌∙◌, ◌≡◌, ◌==◌, None, Some, is_some, has, next_lock, thread_in, KeptPackage, Room, thread_at_start, with_own, next_by_own, own_of}
use Rattle.std.proofs.lemmas.Nat.Bits.{bit_at-zero}
use Rattle.std.specs.Arc.{arc_value}
use Rattle.tc_context.proofs.Staging.{fresh_sound}
use Rattle.tc_context.proofs.package.Package.start_with.Goals as goal

pub invariant_of-result : goal.invariant_of-result
invariant_of-result c = subst KeptPackage (sym c.in_ok-new.ensures.ok) (record {
  sound = fresh_sound c.args.image.now c.args.t c.args.fuel _ (record {
    image_is = c.of.ensures;
    number = c.in_ok-context.ensures.number;
    thread = ap (with_own (own_of (arc_value c.in_ok-first.first))) c.in_ok-context.ensures.thread
        ∙ ap (λ own. with_own own (thread_at_start c.args.image.now c.args.fuel c.args.t)) (ap own_of c.in_ok-first.ensures.cases ∙ c.requires.first);
    locks = c.in_ok-context.ensures.locks;
    granted = refl;
    pending = refl;
    log = c.new.ensures.items;
    log_room = omega (arith, c.new.ensures.len, c.new.ensures.capacity);
    numbers = refl;
    turns = refl;
    slept = refl;
  }) c.requires.thread (omega (arith, c.guards.ensures.value, c.guards.ensures.bound)) c.in_ok-context.ensures.places refl;
  next = c.next_lock.ensures ∙ ap (λ x. next_lock x (thread_in c.in_ok-context.context)) (sym c.of.ensures)
      ∙ sym (next_by_own _ (own_of (arc_value c.in_ok-first.first)) (thread_in c.in_ok-context.context));
  present = λ k. ap is_some (c.in_ok-context.ensures.locks k) ∙ sym (ap (λ n. has n k) c.none.ensures ∙ ap (λ b. b == 1) (bit_at-zero k));
  code = c.in_ok-code.ensures.cases ∙ c.requires.code ∙ sym c.of.ensures;
  pending = refl;
  ended = λ k l found h. absurd (let f : None ≡ Some l = sym (c.in_ok-context.ensures.locks k) ∙ found in cc);
  edge = λ no. absurd (cc);
  log = omega (arith, ap (λ (r : Room). r.entries) c.none-2.ensures);
  room = λ k l found. absurd (let f : None ≡ Some l = sym (c.in_ok-context.ensures.locks k) ∙ found in cc);
  unsealed = λ b no. absurd (cc);
  own = λ room. absurd (omega (arith, room, c.new.ensures.len, c.new.ensures.capacity));
})
