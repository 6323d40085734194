use Rattle.std.proofs.Common.{Option, subst, sym, ◌∙◌}
use Rattle.tc_combiner.proofs.Vocabulary.{Owns, PackageView, outs, packed}
use Rattle.tc_combiner.proofs.Acquiring.{puts_both}
use Rattle.tc_combiner.proofs.Stances.{stop_acts}
use Rattle.tc_combiner.proofs.acquire.put_all_back.Goals as goal

pub put_back-requires : goal.put_back-requires
put_back-requires c = record { may = record { own = c.requires.parts.own; out = c.requires.parts.out.1.0; plain = c.requires.plain }; stop = c.requires.stop }

pub put_back-requires-in-Some : goal.put_back-requires-in-Some
put_back-requires-in-Some c = let o = c.requires.parts.out in record {
  stop = stop_acts _ _ _ c.args.parts.now.pass c.put_back.new.pass c.put_back.ensures c.requires.stop;
  may = record {
    own = c.put_back.ensures.own.0 ∙ c.requires.parts.own;
    out = (subst (λ (x : Option PackageView). Owns o.0 (outs c.put_back.new.pass.knows) (packed x)) (sym c.take.ensures.value ∙ c.in-Some.is) (c.put_back.ensures.moves o.0 (packed c.args.parts.now.aside) o.1)).0;
    plain = (c.requires.parts.aside c.in-Some.other (cc)).goes.plain;
  };
}

pub returns-in-Some : goal.returns-in-Some
returns-in-Some c = puts_both c.args.«package» c.in-Some.other c.args.parts.now _ c.put_back.new.pass (sym c.take.ensures.value ∙ c.in-Some.is) (c.requires.parts.aside c.in-Some.other (cc)).goes.runs c.take.ensures.after c.clear.ensures c.put_back.ensures c.put_back-in-Some.ensures
