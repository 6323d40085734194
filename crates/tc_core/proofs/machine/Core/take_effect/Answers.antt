use Rattle.std.proofs.Common.{sym, ap, ◌∙◌, arith}
use Rattle.tc_core.specs.Core.{Custody}
use Rattle.tc_core.specs.Events.{taken_by, left_by_all, freed, effect}
use Rattle.tc_core.specs.View.{CoreView, custody_at, core_of}
use Rattle.tc_core.proofs.Parts.{adopted, granted, custody_became, lock_in, took_effect}
use Rattle.tc_core.proofs.Numbers.{line_none}
use Rattle.tc_core.proofs.Known.{known_as}
use Rattle.tc_core.proofs.machine.Core.take_effect.Goals as goal

pub place-requires : goal.place-requires
place-requires c = record { parts = c.requires.core.parts; thread = known_as _ _ _ c.in-Claim.is c.requires.enabled }

pub commit-requires : goal.commit-requires
commit-requires c = record { parts = c.requires.core.parts; thread = known_as _ _ _ c.in-Commit.is c.requires.enabled }

pub enter-requires : goal.enter-requires
enter-requires c = let known = known_as _ _ _ c.in-Enter.is c.requires.enabled in record { parts = c.requires.core.parts; thread = known.0; known = known.1; out = known.2 }

pub place-requires-in-Ship : goal.place-requires-in-Ship
place-requires-in-Ship c = record { parts = c.requires.core.parts; thread = known_as _ _ _ c.in-Ship.is c.requires.enabled }

pub pass-requires : goal.pass-requires
pass-requires c = record { parts = c.requires.core.parts; lock = (known_as _ _ _ c.in-Adopt.is c.requires.enabled).1 }

pub place-requires-in-Adopt : goal.place-requires-in-Adopt
place-requires-in-Adopt c = record { parts = c.pass.ensures.parts; thread = (known_as _ _ _ c.in-Adopt.is c.requires.enabled).0 }

pub pass-requires-in-Grant : goal.pass-requires-in-Grant
pass-requires-in-Grant c = record { parts = c.requires.core.parts; lock = (known_as _ _ _ c.in-Grant.is c.requires.enabled).1 }

pub place-requires-in-Grant : goal.place-requires-in-Grant
place-requires-in-Grant c = record { parts = c.pass-in-Grant.ensures.parts; thread = (known_as _ _ _ c.in-Grant.is c.requires.enabled).0 }

pub place-requires-in-HandBack : goal.place-requires-in-HandBack
place-requires-in-HandBack c = record { parts = c.requires.core.parts; thread = known_as _ _ _ c.in-HandBack.is c.requires.enabled }

pub place-requires-in-Park : goal.place-requires-in-Park
place-requires-in-Park c = record { parts = c.requires.core.parts; thread = known_as _ _ _ c.in-Park.is c.requires.enabled }

pub place-requires-in-Finish : goal.place-requires-in-Finish
place-requires-in-Finish c = record { parts = c.requires.core.parts; thread = known_as _ _ _ c.in-Finish.is c.requires.enabled }

pub grant-requires : goal.grant-requires
grant-requires c = lock_in c.args.image.now _ _ _ c.self.view_is c.requires.core.parts (known_as _ _ _ c.in-Take.is c.requires.enabled)

pub leave-requires : goal.leave-requires
leave-requires c = lock_in c.args.image.now _ _ _ c.self-in-Leave.view_is c.requires.core.parts (known_as _ _ _ c.in-Leave.is c.requires.enabled)

pub free-requires : goal.free-requires
free-requires c = lock_in c.args.image.now _ _ _ c.self-in-Free.view_is c.requires.core.parts (known_as _ _ _ c.in-Free.is c.requires.enabled)

pub at-requires : goal.at-requires
at-requires c = lock_in c.args.image.now _ _ _ c.self-in-Adopt.view_is c.requires.core.parts (known_as _ _ _ c.in-Adopt.is c.requires.enabled).1

pub prove-unreachable-requires : goal.prove-unreachable-requires
prove-unreachable-requires c =
    let known = known_as _ _ _ c.in-Adopt.is c.requires.enabled in
    let lt = known.2 in
    let run = ap (λ (x : Custody). x.run) c.at.ensures in
    let same = ap (λ (s : CoreView). (custody_at s.custodies c.in-Adopt.lock).run) c.self-in-Adopt.view_is in
    let limit = ap (λ (s : CoreView). s.batch) c.self-in-Adopt.view_is in
    let here = c.if-prove.true in
    omega arith

pub returns-in-Commit : goal.returns-in-Commit
unfolding effect
returns-in-Commit c = took_effect c.in-Commit.is c.commit.ensures

pub returns-in-Take : goal.returns-in-Take
unfolding effect
returns-in-Take c =
    let e = c.in-Take in
    let parts = c.requires.core.parts in
    took_effect e.is (custody_became c.args.image.now _ c.args.self.now e.lock (λ x. taken_by x e.thread) c.grant.new.self c.self.view_is parts (known_as _ _ _ e.is c.requires.enabled) c.grant.ensures (parts.lines e.lock))

pub returns-in-Leave : goal.returns-in-Leave
unfolding effect
returns-in-Leave c =
    let e = c.in-Leave in
    let parts = c.requires.core.parts in
    took_effect e.is (custody_became c.args.image.now _ c.args.self.now e.lock (λ x. left_by_all x) c.leave.new.self c.self-in-Leave.view_is parts (known_as _ _ _ e.is c.requires.enabled) c.leave.ensures (line_none _))

pub returns-in-Free : goal.returns-in-Free
unfolding effect
returns-in-Free c =
    let e = c.in-Free in
    let parts = c.requires.core.parts in
    took_effect e.is (custody_became c.args.image.now _ c.args.self.now e.lock (λ x. freed x) c.free.new.self c.self-in-Free.view_is parts (known_as _ _ _ e.is c.requires.enabled) c.free.ensures (parts.lines e.lock))

pub returns-in-Adopt : goal.returns-in-Adopt
returns-in-Adopt c =
    let e = c.in-Adopt in
    let core = core_of c.args.self.now in
    let run = ap (λ (x : Custody). x.run) c.at.ensures ∙ ap (λ (s : CoreView). (custody_at s.custodies e.lock).run) c.self-in-Adopt.view_is in
    record {
      core = adopted c.args.image.now core (core_of c.pass.new.self) (core_of c.place-in-Adopt.new.self) e.worker e.thread e.lock c.at.result.now.run c.pass.ensures.core c.place-in-Adopt.ensures.core run
          ∙ ap (effect c.args.image.now core) (sym e.is);
      limits = c.place-in-Adopt.ensures.limits ∙ c.pass.ensures.limits;
      parts = c.place-in-Adopt.ensures.parts;
    }

pub returns-in-Grant : goal.returns-in-Grant
returns-in-Grant c =
    let e = c.in-Grant in
    let core = core_of c.args.self.now in
    record {
      core = granted c.args.image.now core (core_of c.pass-in-Grant.new.self) (core_of c.place-in-Grant.new.self) e.worker e.thread e.lock c.pass-in-Grant.ensures.core c.place-in-Grant.ensures.core
          ∙ ap (effect c.args.image.now core) (sym e.is);
      limits = c.place-in-Grant.ensures.limits ∙ c.pass-in-Grant.ensures.limits;
      parts = c.place-in-Grant.ensures.parts;
    }
