use Rattle.std.proofs.Common.{arith}
use Rattle.tc_replay.proofs.Starting.{count_more, package_more}
use Rattle.tc_replay.proofs.checker.packages_at_start.Goals as goal

pub loop-t-preserved : goal.loop-t-preserved
loop-t-preserved c = record {
  count = count_more c.loop-t.t c.loop-t.packages.items c.push_reserved.new.self.items c.in_ok-package.package c.loop-t.invariant.count c.push_reserved.ensures.items;
  fresh = package_more c.args.image.now c.args.terms.fuel c.loop-t.t c.loop-t.packages.items c.push_reserved.new.self.items c.in_ok-package.package c.loop-t.invariant.count c.loop-t.invariant.fresh c.in_ok-package.ensures c.push_reserved.ensures.items;
  room = (let m = c.loop-t.invariant.room in let e = c.push_reserved.ensures.capacity in omega arith);
}

pub returns-clause-limits : goal.returns-clause-limits
returns-clause-limits c = record { threads = (let n = c.threads-threads.ensures.value in let b = c.threads-threads.ensures.bound in omega (arith, n, b)); turns = c.args.terms.most_fuel }
