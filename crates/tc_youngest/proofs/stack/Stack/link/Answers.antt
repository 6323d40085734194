use Rattle.std.proofs.Common.{sym, subst, arith}
use Rattle.tc_youngest.specs.Stack.{AreSteady}
use Rattle.tc_youngest.proofs.Steady.{steady_more}
use Rattle.tc_youngest.proofs.stack.Stack.link.Goals as goal

pub invariant_of-self : goal.invariant_of-self
invariant_of-self c =
    let bound = c.self.inside.bound in record {
      room = (let a = c.push_reserved.ensures.capacity in let r = c.self.invariant.room in omega arith);
      steady = subst (AreSteady 0 bound) (sym c.push_reserved.ensures.items) (steady_more bound 0 c.self.inside.waiting.items c.args.turn c.self.invariant.steady (omega arith) c.requires);
    }
