use Rattle.tc_context.proofs.Vocabulary.{◌≡◌, ℕ, Bool, false, ◌==◌, if◌then◌else◌, refl, ap, sym, subst, None, Option, option_map, has, Shown, Registers, Done, TurnReady, TurnFits, thread_in, journal_in, Nothing}
use Rattle.std.specs.Prelude.{Ok}
use Rattle.tc_exec.specs.Step.{instruction_at, wants_by, wants_from, wants_of}
use Rattle.tc_isa.specs.declared.instr.Instr.TheVariants.{Ecall}
use Rattle.tc_context.proofs.Moved.{turn_ready, turn_fits, none_noted, did_turn}
use Rattle.tc_context.proofs.context.Context.call_turn.Goals as goal

wants_nothing : (image : Shown) (held : ℕ → Bool) (r : Registers) → instruction_at image r.pc ≡ Ok Ecall → Nothing ≡ wants_of image held r
unfolding wants_of wants_by
wants_nothing image held r is = sym (ap (wants_from image held r) is)

pub turn-done-requires : goal.turn-done-requires
turn-done-requires c = record { instr = c.requires.instr; want = wants_nothing c.args.image.now (has c.args.self.now.guest.held) c.args.self.now.guest.regs c.requires.instr }

pub take_turn-requires : goal.take_turn-requires
take_turn-requires c =
    let may = c.requires.may in
    let d = thread_in c.args.self.now in
    record {
      fits = subst TurnFits (sym c.turn-done.ensures.done) (turn_fits c.args.image.now d 0 _ refl may.go.guards);
      ready = λ k l found. subst (λ (x : ℕ × Option Done). TurnReady (has x.0) x.1 k l) (λ i. (sym c.held-held.ensures i, sym c.turn-done.ensures.done i)) (turn_ready c.args.image.now (has c.args.block) d 0 _ refl may.covers k l (may.go.of k l found) (may.opened k l.journal (ap (option_map journal_in) found)));
    }

pub returns : goal.returns
returns c =
    let image = c.args.image.now in
    let old = c.args.self.now in
    let noting = λ (k : ℕ). if old.guest.fuel == 0 then false else has c.args.block k in
    record {
      did = did_turn image (has c.args.block) noting old _ old.locks Nothing None 0 c.held-held.result c.turn-done.result c.requires.may.go.of
          (wants_nothing image (has old.guest.held) old.guest.regs c.requires.instr) (sym c.requires.next) refl (λ k. refl) (none_noted noting 0 old.locks)
          c.held-held.ensures c.turn-done.ensures.done c.turn-done.ensures.fits c.take_turn.ensures refl c.turn-done.ensures.thread;
    }
