use Rattle.tc_workers.proofs.Leaving.{has_left, may_aside}
use Rattle.tc_workers.proofs.leave.leave.Goals as goal

pub put_back-requires-2-after_bounds : goal.put_back-requires-2-after_bounds
put_back-requires-2-after_bounds g c κs within = may_aside c.args.bench.now c.put_back.new.desk c.back-aside.new.self c.back-aside.result c.put_back.ensures.may c.back-aside.ensures.given c.back-aside.ensures.rest

pub returns : goal.returns
returns g c = has_left c.args.bench.now c.args.hand c.back-aside.result c.args.desk.now c.put_back.new.desk c.back-aside.new.self c.put_back-2.new.desk c.put_back.ensures c.back-aside.ensures.given c.back-aside.ensures.rest c.put_back-2.ensures
