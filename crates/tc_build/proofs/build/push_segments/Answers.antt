use Rattle.std.proofs.Common.{◌+◌}
use Rattle.tc_build.specs.Build.{segment_words}
use Rattle.tc_build.proofs.Files.{three_more}
use Rattle.tc_build.proofs.build.push_segments.Goals as goal

pub returns : goal.returns
returns c =
    let note = c.args.note in
    let code = c.args.code in
    three_more c.args.file.now.items _ _ _ (segment_words 4 148 0 note 4) (segment_words 1 (148 + note) 0x00100000 code 5) (segment_words 1 (148 + note + code) 0x00020000 c.args.fill 6) c.in_ok-push_segment.ensures c.in_ok-push_segment-2.ensures c.in_ok-push_segment-3.ensures
