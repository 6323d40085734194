use Rattle.std.proofs.Common.{◌≡◌, ◌++◌, drop, map, take, vec_capacity}
use Rattle.tc_youngest.specs.Stack.{passed_over}
use Rattle.tc_youngest.proofs.stack.pass_over.Given as goal

abbrev pub invariant-loop-i : goal.invariant-loop-i
invariant-loop-i l = record {
  rest : drop l.i l.waiting.items ≡ drop l.i l.fn.waiting.items;
  passed : take l.i l.waiting.items ++ map passed_over (drop l.i l.waiting.items) ≡ map passed_over l.fn.waiting.items;
  count : l.waiting.len ≡ l.fn.waiting.len;
  capacity : vec_capacity l.waiting ≡ vec_capacity l.fn.waiting;
}
