use Rattle.std.proofs.Common.{Vec, vec_len, vec_capacity, Global, ◌≡◌, ℕ, ◌-◌, ◌∙◌, List, Option, length, refl, true, ap, sym, subst, arith, get_or, get_or-set_same, None, is_some}
use Rattle.tc_context.proofs.Vocabulary.{has, Block, CanSeal, EachHeld, Changed, LockView, PackageView, Registers, IsSoundPackage, Allows, closed_all, locks_with, sealed_as, sealed_block, sealed_in, with_journal, with_seal, view_of, DidSealLast, Contents}
use Rattle.tc_context.proofs.Staging.{Shows, shows, changed_set}
use Rattle.tc_context.proofs.Ended.{ended_sealed}
use Rattle.tc_context.proofs.Running.{IsLast, pending_last, may_seal, seal_each, sealed_sound, seal_is}
use Rattle.tc_context.proofs.Rooms.{gives_sealed}
use Rattle.tc_context.proofs.package.Package.seal.Goals as goal

-- the pending block and its locks, as they are in the package
module _ {a : Contents} {v : PackageView} (s : Shows a v) (some : is_some v.pending ≡ true) where
  pub pends : IsLast (view_of a)
  pends = pending_last (view_of a) s.kept.sound (ap (λ (x : PackageView). is_some x.pending) s.is ∙ some)

  locks_are : (view_of a).context.locks ≡ closed_all pends.block a.context.guest.regs a.context.locks
  locks_are = ap (λ o. locks_with o a.context.guest.regs a.context.locks) pends.pending

  module _ {stamp worker place : ℕ} {log : Vec Block Global} (did : DidSealLast stamp worker a.log log place) {at : Block} (found : at ≡ get_or log.items place at) {regs : Registers} (same : regs ≡ a.context.guest.regs) where
    -- which stands where it stood
    stands : at ≡ sealed_block stamp worker pends.block
    stands =
        let lt = pends.some in
        found ∙ (λ i. get_or (did.log pends.block pends.last i) (did.place_is i) at) ∙ get_or-set_same a.log.items (vec_len a.log - 1) (sealed_block stamp worker pends.block) at (omega (arith, lt, a.log.ok.0))

    pub may : Allows v.context pends.block worker → EachHeld (has at.held) (CanSeal at regs) a.context.locks
    may allows =
        let b = pends.block in
        subst (λ (x : Block × Registers). EachHeld (has x.0.held) (CanSeal x.0 x.1) a.context.locks) (λ i. (sym stands i, sym same i))
        (may_seal (view_of a) b stamp worker a.context.guest.regs a.context.locks s.kept.sound pends.pending locks_are (s.kept.unsealed b pends.pending) (subst (λ (x : PackageView). Allows x.context b worker) (sym s.is) allows))

    module _ (new : List (Option LockView)) (sealed : Changed (sealed_in (has at.held) at regs) a.context.locks new) where
      pub changed : Changed (sealed_in (has pends.block.held) (sealed_block stamp worker pends.block) a.context.guest.regs) a.context.locks new
      changed = subst (λ (x : Block × Registers). Changed (sealed_in (has x.0.held) x.0 x.1) a.context.locks new) (λ i. (stands i, same i)) sealed

      pub each : Changed (λ k. with_journal (sealed_as stamp worker)) (view_of a).context.locks new
      each = subst (λ ls. Changed (λ k. with_journal (sealed_as stamp worker)) ls new) (sym locks_are) (seal_each pends.block stamp worker a.context.guest.regs a.context.locks new (s.kept.unsealed pends.block pends.pending) changed)

      pub is_sealed : length new ≡ 32 → record (view_of a) { context = record { thread = a.context.thread; guest = (view_of a).context.guest; locks = new }; pending = None; log = log.items; log_room = vec_capacity log - vec_len log } ≡ with_seal stamp worker (view_of a)
      is_sealed places = seal_is (view_of a) pends stamp worker _ _ _ new s.kept.sound a.log.ok.0 places each (did.log pends.block pends.last) (omega (arith, did.len, did.capacity))

pub seal-contents-requires : goal.seal-contents-requires
seal-contents-requires c =
    let s = shows c.deref_mut-contents.ensures.value c.self.view_is c.self.invariant in
    let l = pends s c.requires.pending in
    may s c.requires.pending c.seal_last-last.ensures c.index.ensures c.regs.ensures (c.requires.allows l.block (ap (λ (v : PackageView). v.pending) (sym s.is) ∙ l.pending))

pub invariant_of-self : goal.invariant_of-self
invariant_of-self c =
    let s = shows c.deref_mut-contents.ensures.value c.self.view_is c.self.invariant in
    let a = c.deref_mut-contents.result.now in
    let l = pends s c.requires.pending in
    let last = c.seal_last-last.ensures in
    let now = changed s c.requires.pending last c.index.ensures c.regs.ensures c.seal-contents.new.self c.seal-contents.ensures.sealed in
    record {
      sound = subst IsSoundPackage (sym (is_sealed s c.requires.pending last c.index.ensures c.regs.ensures c.seal-contents.new.self c.seal-contents.ensures.sealed c.bound.ensures.places)) (sealed_sound (view_of a) l.block c.args.stamp c.args.worker s.kept.sound l.pending);
      code = s.kept.code;
      ended = ended_sealed c.args.stamp c.args.worker (view_of a).context c.seal-contents.new.self (each s c.requires.pending last c.index.ensures c.regs.ensures c.seal-contents.new.self c.seal-contents.ensures.sealed) s.kept.ended;
      unsealed = λ x no. absurd (cc);
      edge = λ is. c.seal-contents.ensures.packed is ∙ c.regs.ensures;
      next = s.kept.next;
      present = λ k. changed_set _ a.context.locks c.seal-contents.new.self now k ∙ s.kept.present k;
      pending = refl;
      log = (let h = s.kept.log in omega (arith, h, last.len, last.capacity));
      room = gives_sealed (has l.block.held) (sealed_block c.args.stamp c.args.worker l.block) a.context.guest.regs a.context.locks c.seal-contents.new.self a.room now s.kept.room;
      own = λ room. s.kept.own (omega (arith, room, last.len, last.capacity));
    }

pub returns : goal.returns
returns c =
    let s = shows c.deref_mut-contents.ensures.value c.self.view_is c.self.invariant in
    is_sealed s c.requires.pending c.seal_last-last.ensures c.index.ensures c.regs.ensures c.seal-contents.new.self c.seal-contents.ensures.sealed c.bound.ensures.places ∙ ap (with_seal c.args.stamp c.args.worker) s.is
