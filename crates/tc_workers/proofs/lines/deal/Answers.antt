use Rattle.std.proofs.Common.{rules, ◌≡◌, arith, get_or, subst, length}
use Rattle.tc_workers.proofs.Hiring.{one_longer}
use Rattle.tc_workers.proofs.Rows.{Dealing, all_first, dealt_none, dealt_one, dealt_all, firsts_less}
use Rattle.tc_workers.proofs.lines.deal.Goals as goal

pub loop-dealt-init : goal.loop-dealt-init
loop-dealt-init g c = record {
  left = search rules;
  firsts = all_first c.args.seats.items;
  dealing = dealt_none (λ row. row.items) c.args.rows.now.items c.args.seats.items (length c.args.seats.items) (omega arith) c.requires;
}

pub loop-dealt-preserved : goal.loop-dealt-preserved
loop-dealt-preserved g c =
    let i = c.loop-dealt.invariant in
    let left = i.left in
    let count = i.dealing.count in
    let below = c.loop-dealt-test.true in
    let rest = c.pop.new.self.items in
    let fewer = one_longer c.loop-dealt.seats.items rest c.in-Some.seat c.in-Some.ensures.items in
    let old = c.index_mut.result.now in
    let at : get_or c.loop-dealt.rows.items (length rest) old ≡ old = search rules in record {
      left = omega arith;
      firsts = firsts_less c.args.seats.items c.loop-dealt.seats.items rest c.in-Some.seat i.firsts c.in-Some.ensures.items;
      dealing = dealt_one (λ row. row.items) c.args.rows.now.items c.args.seats.items (length c.loop-dealt.seats.items) c.loop-dealt.rows.items _ rest c.loop-dealt.seats.items c.in-Some.seat old c.push.new.self old i.dealing i.firsts c.in-Some.ensures.items (omega arith) (omega arith) at c.in_ok-push.ensures.items (search rules);
    }

pub returns : goal.returns
returns g c =
    let left = c.loop-dealt.invariant.left in
    let past = c.loop-dealt-test.false in
    dealt_all (λ row. row.items) c.args.rows.now.items c.args.seats.items c.loop-dealt.rows.items (subst (λ n. Dealing (λ row. row.items) c.args.rows.now.items c.args.seats.items n c.loop-dealt.rows.items) (omega arith) c.loop-dealt.invariant.dealing)
