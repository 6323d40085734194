use Rattle.std.proofs.Common.{length, refl, sym, subst, ◌∙◌, arith}
use Rattle.tc_core.specs.Core.{Custody, first_course}
use Rattle.tc_core.specs.View.{IsCourse, IsLine, IsSoundCore}
use Rattle.tc_core.proofs.Numbers.{line_none}
use Rattle.tc_core.proofs.Erasure.{first_sound}
use Rattle.tc_core.proofs.machine.Core.new.Goals as goal

begins : IsCourse first_course
begins = record { turns = λ e. omega arith; end = tt }

pub returns : goal.returns
returns c =
    let slow = c.in_ok-start.ensures in
    let courses = c.in_ok-new.ensures in
    let custodies = c.in_ok-new-2.ensures in
    record {
      core = λ i. record { machine = slow.start i; course = λ t. courses.each t i; custody = λ k. custodies.each k i };
      limits = refl;
      suits = record {
        parts = record {
          plain = slow.suits;
          courses = courses.long ∙ c.threads.ensures.value;
          custodies = custodies.long ∙ c.guards.ensures.value;
          blocks = λ t. subst (λ x. IsCourse x) (sym (courses.each t)) begins;
          lines = λ k. subst (λ (x : Custody). IsLine (length c.args.image.now.entries) x.line) (sym (custodies.each k)) (line_none _);
        };
        sound = subst (λ x. IsSoundCore x) (sym (λ i. record { machine = slow.start i; course = λ t. courses.each t i; custody = λ k. custodies.each k i })) (first_sound c.args.image.now c.args.fuel);
      };
    }
