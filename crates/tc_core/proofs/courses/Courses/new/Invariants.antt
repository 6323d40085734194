use Rattle.std.proofs.Common.{◌≡◌, ℕ, length}
use Rattle.tc_core.specs.Core.{first_course}
use Rattle.tc_core.specs.View.{course_at}
use Rattle.tc_core.proofs.courses.Courses.new.Given as goal

abbrev pub invariant-loop : goal.invariant-loop
invariant-loop l = record {
  each : (t : ℕ) → course_at l.courses.items t ≡ first_course;
  long : length l.courses.items ≡ l.counter;
}
