use Rattle.std.proofs.Common.{◌≡◌, ◌∙◌, ◌-◌, ◌++◌, ◌∷◌, ℕ, List, [], ap, sym, subst, arith, refl, Some, None, is_some, length}
use Rattle.tc_context.proofs.Vocabulary.{AreEnded, Block, Context, EachLock, IsUnsealed, LockView, Kind, Shown, WantIsGranted, is_section, last_of, next_lock, PackageView, IsSoundPackage, IsReserved, kind_of, set_of, thread_in, Room, next_by_own, length-map, lock_in, option_map, some_map, DidRun, closed_with, shut, with_journal, DidRunBlock, block_of, Contents, Running, last_more}
use Rattle.tc_context.specs.declared.context.Ran.{Ran}
use Rattle.tc_context.proofs.Staging.{Shows, shows, Ready, bare_view, ready, ran_seen, mapped_at}
use Rattle.tc_context.proofs.Running.{MayRun, ready_from, can_go, kind_section, sound_ran, ran_ended, did_run}
use Rattle.tc_context.proofs.Rooms.{EachGives, gives_behind, gives_open}
use Rattle.tc_context.proofs.package.Package.run_block.Goals as goal

-- the contents that may run a block
module _ {image : Shown} {a : Contents} {v : PackageView} (s : Shows a v) (is : v.image ≡ image) (rest : v.pending ≡ None) (reserved : IsReserved v) (running : v.context.guest.status ≡ Running) (want : WantIsGranted image v) where
  pub o : Ready a v
  o = ready a v s rest reserved.log

  pub may : MayRun image (bare_view a)
  may = subst (MayRun image) (sym o.is) (record { is = is; sound = subst IsSoundPackage o.is o.sound; rest = rest; running = running; want = want })

  pub kind_is : {kind : Kind} → kind ≡ kind_of v.granted v.log → kind ≡ kind_of a.granted a.log.items
  kind_is e = e ∙ ap (λ (x : PackageView). kind_of x.granted x.log) (sym o.is)

  -- and did
  module _ {new : Context} {ran : Ran} {kind : Kind} (did : DidRunBlock image kind a.context new ran) (places : length new.locks ≡ 32) (k : kind ≡ kind_of v.granted v.log) {log : List Block} (pushed : log ≡ a.log.items ++ block_of new kind ran ∷ []) where
    abbrev b : Block
    b = block_of a.context kind ran

    items : log ≡ a.log.items ++ b ∷ []
    items = pushed ∙ ap (λ t. a.log.items ++ record b { thread = t } ∷ []) did.runs.keeps.thread

    pub last : last_of log ≡ Some b
    last = ap last_of items ∙ last_more a.log.items b

    abbrev close : LockView → LockView
    close = with_journal (closed_with b new.guest.regs)

    full : length (shut b new).locks ≡ 32
    full = length-map new.locks (option_map close) ∙ places

    pub present : (n : ℕ) → set_of new n ≡ set_of a.context n
    present n = sym (ap is_some (mapped_at close new.locks n) ∙ some_map close (lock_in new.locks n)) ∙ did.runs.keeps.set n

    pub sound : IsSoundPackage (record (bare_view a) { context = shut b new; granted = None; pending = Some b; log = log; log_room = (bare_view a).log_room - 1; slept = ran.turns.slept })
    sound = sound_ran image (bare_view a) may (shut b new) b log ran.turns.slept full did.runs did.journals refl (kind_is k) items

    pub ended : AreEnded (shut b new)
    ended = ran_ended image (bare_view a) may (shut b new) b log ran.turns.slept full did.runs did.journals refl (kind_is k) items

    pub did_it : DidRun image v (record (bare_view a) { context = shut b new; granted = None; pending = Some b; log = log; log_room = (bare_view a).log_room - 1; slept = ran.turns.slept })
    did_it = did_run image (bare_view a) may (shut b new) b log ran.turns.slept full did.runs did.journals refl (kind_is k) items v o.is did.pc did.bounds did.sleeps

pub run_block-ran-requires : goal.run_block-ran-requires
run_block-ran-requires c =
    let s = shows c.deref_mut-contents.ensures.value c.self.view_is c.self.invariant in
    let image = c.args.image.now in
    let p = bare_view c.deref_mut-contents.result.now in
    let o = ready _ _ s c.requires.pending c.requires.reserved.log in
    let may = may s c.requires.image c.requires.pending c.requires.reserved c.requires.running c.requires.want in
    record {
      may = record {
        code = c.deref.ensures ∙ s.kept.code ∙ may.is;
        go = can_go image p may;
        takes = o.next ∙ ap (λ x. next_lock x (thread_in p.context)) may.is;
        ready = ready_from image p may (subst IsReserved (sym o.is) c.requires.reserved);
        ended = o.ended;
        section = ap is_section (c.next_kind-kind.ensures ∙ ap (λ (v : PackageView). kind_of v.granted v.log) (sym o.is)) ∙ kind_section image p may;
      };
      packed = s.kept.edge;
    }

pub push_reserved-requires : goal.push_reserved-requires
push_reserved-requires c =
    let room = (ready _ _ (shows c.deref_mut-contents.ensures.value c.self.view_is c.self.invariant) c.requires.pending c.requires.reserved.log).room in
    omega (arith, room)

pub invariant_of-self : goal.invariant_of-self
invariant_of-self c =
    let s = shows c.deref_mut-contents.ensures.value c.self.view_is c.self.invariant in
    let a = c.deref_mut-contents.result.now in
    let n = ready a _ s c.requires.pending c.requires.reserved.log in
    let e = c.run_block-ran.ensures.did in
    let b = block_of a.context c.next_kind-kind.result c.run_block-ran.result in
    let new = c.run_block-ran.new.self in
    let log = c.push_reserved.new.self.items in
    let r = c.requires in
    let last = last s r.image r.pending r.reserved r.running r.want e c.bound.ensures.places c.next_kind-kind.ensures c.push_reserved.ensures.items in
    record {
      sound = ran_seen IsSoundPackage a new b log ((bare_view a).log_room - 1) _ c.run_block-ran.result.turns.slept n.none (omega (arith, c.push_reserved.ensures.len, c.push_reserved.ensures.capacity)) last
          (sound s r.image r.pending r.reserved r.running r.want e c.bound.ensures.places c.next_kind-kind.ensures c.push_reserved.ensures.items);
      code = s.kept.code;
      next = e.follows ∙ ap (λ x. next_lock x (thread_in new)) (sym (may s r.image r.pending r.reserved r.running r.want).is) ∙ sym (next_by_own a.of.value _ (thread_in new));
      present = λ k. present s r.image r.pending r.reserved r.running r.want e c.bound.ensures.places c.next_kind-kind.ensures c.push_reserved.ensures.items k ∙ s.kept.present k;
      pending = ap is_some last;
      log = (let h = s.kept.log in omega (arith, h, ap (λ (r : Room). r.entries) c.behind-contents.ensures, c.push_reserved.ensures.len, c.push_reserved.ensures.capacity));
      room = gives_open b new.guest.regs new.locks _ (subst (λ (r : Room). EachGives r (shut b new).locks) (sym c.behind-contents.ensures) (gives_behind c.args.image.now a.context (shut b new) b a.room e.journals s.kept.room));
      ended = ran_seen (λ v. AreEnded v.context) a new b log 0 0 c.run_block-ran.result.turns.slept n.none refl last
          (ended s r.image r.pending r.reserved r.running r.want e c.bound.ensures.places c.next_kind-kind.ensures c.push_reserved.ensures.items);
      unsealed = λ x is. (let same : Some b ≡ Some x = sym last ∙ is in let f : b ≡ x = cc in subst (λ y. EachLock (IsUnsealed y new.guest.regs) new.locks) f e.unsealed);
      edge = λ is. absurd (let no = c.run_block-ran.ensures.packed in cc);
      own = λ room. n.none;
    }

pub returns-clause-ran : goal.returns-clause-ran
returns-clause-ran c =
    let s = shows c.deref_mut-contents.ensures.value c.self.view_is c.self.invariant in
    let a = c.deref_mut-contents.result.now in
    let n = ready a _ s c.requires.pending c.requires.reserved.log in
    let e = c.run_block-ran.ensures.did in
    let r = c.requires in
    ran_seen (DidRun c.args.image.now _) a c.run_block-ran.new.self (block_of a.context c.next_kind-kind.result c.run_block-ran.result) c.push_reserved.new.self.items ((bare_view a).log_room - 1) _ c.run_block-ran.result.turns.slept n.none (omega (arith, c.push_reserved.ensures.len, c.push_reserved.ensures.capacity))
    (last s r.image r.pending r.reserved r.running r.want e c.bound.ensures.places c.next_kind-kind.ensures c.push_reserved.ensures.items)
    (did_it s r.image r.pending r.reserved r.running r.want e c.bound.ensures.places c.next_kind-kind.ensures c.push_reserved.ensures.items)
