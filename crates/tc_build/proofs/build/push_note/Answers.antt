use Rattle.std.proofs.Common.{length}
use Rattle.std.specs.List.{flat_map}
use Rattle.tc_build.specs.Build.{pair_words, note_head}
use Rattle.tc_build.proofs.Files.{three_more}
use Rattle.tc_build.proofs.build.push_note.Goals as goal

pub returns-clause-written : goal.returns-clause-written
returns-clause-written c =
    let entries = c.args.entries.now in
    let guards = c.args.guards.now in
    three_more c.args.file.now.items _ _ _ (note_head (length entries) (length guards)) (flat_map pair_words entries) (flat_map pair_words guards) c.in_ok-push_note_head.ensures c.in_ok-push_pairs.ensures.written c.in_ok-push_pairs-2.ensures.written
