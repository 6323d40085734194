use Rattle.tc_context.proofs.Vocabulary.{◌-◌, refl, sym, ◌∙◌, arith, rules}
use Rattle.tc_context.proofs.Partway.{runs_some}
use Rattle.tc_context.proofs.Ended.{held_ready, taken_ready}
use Rattle.tc_context.proofs.Blocked.{begins_from, begun_may, unsealed, old_slept, finished_runs, finished_journals}
use Rattle.tc_context.proofs.context.Context.run_block.Goals as goal

pub open_entries-held-requires : goal.open_entries-held-requires
open_entries-held-requires c =
    record {
      packed = λ is. c.requires.packed is ∙ sym c.regs-start.ensures;
      held = held_ready c.args.image.now c.args.self.now c.held-on.result c.regs-start.result.now c.held-on.ensures c.regs-start.ensures c.requires.may.ready c.requires.may.ended;
      takes = taken_ready c.args.image.now c.args.self.now c.held-on.result c.args.takes c.requires.may.go.guards c.requires.may.takes c.held-on.ensures c.requires.may.ready;
    }

pub turns-turns-requires : goal.turns-turns-requires
turns-turns-requires c =
    record {
      code = c.requires.may.code;
      may = begun_may c.requires.may (begins_from c.args.image.now c.args.self.now c.open_entries-held.result c.open_entries-held.new.self c.requires.may.takes c.held-on.ensures c.regs-start.ensures c.fuel-fuel.ensures c.open_entries-held.ensures.block c.open_entries-held.ensures.opened);
      takes = c.requires.may.takes;
    }

pub returns : goal.returns
returns c =
    let begins = begins_from c.args.image.now c.args.self.now c.open_entries-held.result c.open_entries-held.new.self c.requires.may.takes c.held-on.ensures c.regs-start.ensures c.fuel-fuel.ensures c.open_entries-held.ensures.block c.open_entries-held.ensures.opened in
    let ran = c.turns-turns in
    record {
      did = record {
        runs = finished_runs c.requires.may begins c.pc-pc.result ran.ensures.did;
        journals = finished_journals c.requires.may begins c.pc-pc.result ran.ensures.did;
        unsealed = unsealed c.requires.may begins c.pc-pc.result ran.ensures.did;
        sleeps = ran.ensures.did.sleeps ∙ old_slept c.requires.may begins c.pc-pc.result ran.ensures.did (ran.result.count - 1);
        pc = search rules;
        bounds = record { stamp = omega arith; thread = omega arith; some_turns = runs_some ran.ensures.did.runs; most_turns = ran.ensures.did.most; held = omega arith; worker = omega arith; pc = omega arith; end = ran.ensures.did.ends };
        follows = search rules;
      };
      packed = refl;
    }
