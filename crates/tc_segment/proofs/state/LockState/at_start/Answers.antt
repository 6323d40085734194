use Rattle.tc_segment.proofs.Vocabulary.{AreCounted, Fits, ◌≡◌, ◌∙◌, length, refl, sym, ap, subst, arith, Some, None, AllFit, IsSoundLock, KeptLock, LockView, Shown, blocks_of, guard_at, last_finish, run_of, room_in, starting_bytes}
use Rattle.std.proofs.lemmas.List.Elements.{All-nil}
use Rattle.tc_segment.proofs.Keeping.{fresh_view, sound_fresh}
use Rattle.tc_segment.proofs.state.LockState.at_start.Goals as goal

pub invariant_of-result : goal.invariant_of-result
invariant_of-result c =
    let image = c.args.image.now in
    let guard = c.guard-start.ensures in
    let place = guard.value in
    let of : c.of.result.value ≡ image = c.of.ensures in
    let edges = c.new-2.result.words in
    let words = c.new-3.result.items in
    let records = c.new.ensures.items in
    let room : room_in c.new-3.result ≡ 0 = omega (arith, c.new-3.ensures.len, c.new-3.ensures.capacity) in
    let view = fresh_view _ image c.args.lock c.args.limit c.args.strict _ words edges _ _ _ of (c.in_ok-starting_bytes.ensures ∙ ap (λ p. starting_bytes image p.0 p.1) place) records (omega arith) room in
    let none = ap length records in
    subst KeptLock (sym c.in_ok-new.ensures.ok) (record {
      sound = subst (λ (l : LockView). IsSoundLock l) (sym view) (sound_fresh image c.args.lock c.args.limit c.args.strict c.requires.known (omega arith) guard.kept c.requires.lawful);
      start = (ap (λ p. p.0) place ∙ ap (λ (x : Shown). (guard_at x c.args.lock).start) (sym of));
      records = subst (λ rs. AllFit edges words rs) (sym records) (All-nil (Fits edges words));
      sealed = omega arith;
      closed = omega (arith, none);
      opened = tt;
      from = λ no. sym (ap length c.new-3.ensures.items);
      ends = λ no regs on. absurd (let f : None ≡ Some regs = ap (λ (l : LockView). last_finish l.journal.sealed l.journal.closed) (sym view) ∙ on in cc);
      parts = subst (λ rs. AreCounted rs 0 0) (sym records) (refl, refl);
      near = record { behind = omega arith; inside = omega arith; near = omega (arith, c.new-2.ensures); small = omega arith };
      few = (let n = ap (λ (x : Shown). length x.guards) of in omega (arith, n));
      run = sym (ap (λ (l : LockView). run_of c.args.lock (blocks_of l)) view);
      short = omega arith;
      rooms = record { entries = omega (arith, none); most = omega arith; edges = omega arith; words = omega arith };
    })
