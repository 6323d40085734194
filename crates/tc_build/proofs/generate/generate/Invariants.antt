use Rattle.std.proofs.Common.{◌≡◌, ◌*◌, ◌≤◌, length, map}
use Rattle.tc_build.specs.Generator.{code_of, entry, numbers_below}
use Rattle.tc_build.proofs.generate.generate.Given as goal

abbrev pub invariant-loop-thread : goal.invariant-loop-thread
invariant-loop-thread l = record {
  code : l.code ≡ code_of l.rounds l.thread;
  few : length l.code ≤ 36003 * l.thread;
  entries : l.entries.items ≡ map (entry l.rounds) (numbers_below l.thread);
}
