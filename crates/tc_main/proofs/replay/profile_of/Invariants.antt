use Rattle.std.proofs.Common.{◌≡◌, length, take}
use Rattle.tc_main.proofs.replay.profile_of.Given as goal

abbrev pub invariant-loop-block : goal.invariant-loop-block
invariant-loop-block l = record {
  history : l.profile.history ≡ take l.block-index l.history;
  threads : l.profile.threads ≡ length l.image.entries;
  locks : l.profile.locks ≡ length l.image.guards;
}
