use Rattle.std.proofs.Common.{◌≡◌, true, rules, ◌-◌, ◌+◌, arith}
use Rattle.std.specs.Prelude.{find, Some}
use Rattle.tc_elf.specs.Places.{touches_range, in_range}
use Rattle.tc_elf.specs.Shown.{Range}
use Rattle.tc_elf.proofs.Reach.{bytes_there}
use Rattle.tc_elf.proofs.image.Image.bytes.Goals as goal

pub returns-clause-each : goal.returns-clause-each
returns-clause-each c = λ i below.
    let r : Range = c.in_ok-range.range.now in
    let found : find (touches_range c.args.start c.args.count) c.args.self.now.ranges ≡ Some r = search rules in
    let inside : in_range c.args.start c.args.count r ≡ true = search rules in
    let low : c.range.inside.start ≡ r.start = search rules in
    let whole : c.deref-2.result.now ≡ r.bytes = search rules in
    let from = c.range.inside.start in
    bytes_there c.args.self.now r from c.args.start c.args.count (c.args.start - from + c.args.count - (c.args.start - from)) i c.deref-2.result.now found inside low whole below (omega arith)
