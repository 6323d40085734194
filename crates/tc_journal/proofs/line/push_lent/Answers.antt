use Rattle.std.proofs.Common.{◌≡◌, ◌+◌, ◌-◌, ◌++◌, drop, map, take, ap, sym, ◌∙◌, append_assoc, arith}
use Rattle.std.specs.Prelude.{string_bytes}
use Rattle.tc_journal.specs.Line as spec
use Rattle.tc_journal.proofs.Histories.{text_on}
use Rattle.tc_journal.proofs.line.push_lent.Goals as goal

pub loop-done-preserved : goal.loop-done-preserved
loop-done-preserved c =
    let d = c.loop-done.done in
    let m = c.min-done.result in
    let more : d + m - d ≡ m = omega arith in
    let lines : c.into_str.result.now ≡ spec.history_text (map (λ b. b.now) (take m (drop d c.args.history.now))) = rw more at (c.into_str.ensures ∙ c.put_lines.ensures.value) in
    let before = string_bytes c.args.text.now in
    let first = spec.history_text (map (λ b. b.now) (take d c.args.history.now)) in
    let on = text_on (λ b. b.now) d m c.args.history.now c.loop-done.invariant.within in
    let added : string_bytes c.push_str.new.self ≡ string_bytes c.loop-done.text ++ c.into_str.result.now = grind arith in
    record {
      within = grind arith;
      written = added ∙ ap (λ t. t ++ c.into_str.result.now) c.loop-done.invariant.written ∙ append_assoc before first c.into_str.result.now ∙ ap (λ t. before ++ t) (ap (λ t. first ++ t) lines ∙ sym on);
      capacity = grind arith;
      len = grind arith;
    }
