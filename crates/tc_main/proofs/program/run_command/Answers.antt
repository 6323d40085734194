use Rattle.std.proofs.Common.{◌≡◌, refl}
use Rattle.tc_main.specs.Ends.{Ends}
use Rattle.tc_main.specs.declared.status.Status.{Status}
use Rattle.tc_main.specs.declared.status.Status.TheVariants.{Done, Usage, ReadFault, Refused, WriteFault, OutOfMemory, Rejected}
use Rattle.tc_main.proofs.program.run_command.Goals as goal

-- the clauses of the top call together say how it ends
pub returns-in-Ok : goal.returns-in-Ok
returns-in-Ok g c = (c.deref.result.now, ends c.tclocks.result refl, c.tclocks.ensures.unread)
  where
    ends : (s : Status) → c.tclocks.result ≡ s
        → Ends c.deref.result.now (g.S.Source.stream c.args.source.now) (g.S.Source.stream c.tclocks.new.source) (g.K.Sink.stream c.args.sink.now) (g.K.Sink.stream c.tclocks.new.sink) s
    ends Done is = c.tclocks.ensures.done is
    ends Usage is = c.tclocks.ensures.usage is
    ends ReadFault is = c.tclocks.ensures.read is
    ends (Refused k) is = c.tclocks.ensures.refused k is
    ends WriteFault is = c.tclocks.ensures.write is
    ends OutOfMemory is = c.tclocks.ensures.memory is
    ends (Rejected r) is = c.tclocks.ensures.rejected r is
