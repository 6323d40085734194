use Rattle.std.proofs.Common.{◌≡◌, ◌<◌, length, ap, arith}
use Rattle.tc_core.specs.Events.{entered}
use Rattle.tc_core.specs.View.{CoreView, custody_at}
use Rattle.tc_core.proofs.Numbers.{line_more, line_room}
use Rattle.tc_core.proofs.Parts.{custody_became}
use Rattle.tc_core.proofs.machine.Core.enter.Goals as goal

pub enter-requires-clause-room : goal.enter-requires-clause-room
enter-requires-clause-room c =
    let n = length c.args.image.now.entries in
    let line = (c.requires.parts).lines c.args.lock in
    let room : length (custody_at c.args.self.now.custodies c.args.lock).line < n = line_room n c.args.thread _ line c.requires.thread c.requires.out in
    let same : length (custody_at c.self.inside.custodies c.args.lock).line ≡ length (custody_at c.args.self.now.custodies c.args.lock).line = ap (λ (s : CoreView). length (custody_at s.custodies c.args.lock).line) c.self.view_is in
    let bound = c.threads.ensures.bound in let value = c.threads.ensures.value in
    omega arith

pub returns : goal.returns
returns c =
    custody_became c.args.image.now _ c.args.self.now c.args.lock (λ x. entered x c.args.thread) c.enter.new.self c.self.view_is c.requires.parts c.requires.known c.enter.ensures
    (line_more _ c.args.thread _ (c.requires.parts.lines c.args.lock) c.requires.thread c.requires.out)
