use Rattle.std.proofs.Common.{rules, ◌+◌, ◌*◌, List, sym, subst}
use Rattle.std.specs.Prelude.{Option}
use Rattle.tc_isa.specs.declared.instr.Instr.{Instr}
use Rattle.tc_exec.specs.Code.{SlotsTell, SlotTells}
use Rattle.tc_exec.proofs.Slots.{slot_more}
use Rattle.tc_exec.proofs.code.slots_from.Goals as goal

pub words-preserved : goal.words-preserved
words-preserved c =
    let image = c.args.image.now in
    let start = c.args.start in
    let s : Option Instr = c.slot_at.result in
    record {
      tells = subst (λ (xs : List (Option Instr)). SlotsTell image start xs) (sym c.push_reserved.ensures.items)
          (slot_more image start c.words.slots.items s c.words.invariant.tells (subst (λ n. SlotTells image (start + 4 * n) s) (sym c.words.invariant.count) c.slot_at.ensures));
      count = search rules;
      room = search rules;
    }
