use Rattle.std.proofs.Common.{sym, subst, ◌∙◌}
use Rattle.tc_core.specs.View.{core_of, limits_of, IsSoundCore}
use Rattle.tc_core.proofs.Erasure.{sound_after}
use Rattle.tc_core.proofs.machine.Core.step.Goals as goal

pub returns-then-enabled-clause-suits : goal.returns-then-enabled-clause-suits
returns-then-enabled-clause-suits c =
    let s = c.args.self.now in
    record {
      parts = c.take_effect.ensures.parts;
      sound = subst (λ x. IsSoundCore x) (sym c.take_effect.ensures.core)
          (sound_after c.args.image.now (limits_of s) (core_of s) c.args.event (sym c.is_enabled-enabled.ensures ∙ c.if-enabled.true) c.requires.sound);
    }
