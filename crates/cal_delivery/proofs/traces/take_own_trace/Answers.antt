use Rattle.std.proofs.lemmas.Result.{on_ok_weaker}
use Rattle.cal_delivery.proofs.OwnTraces.{no_trace, trace_means}
use Rattle.cal_delivery.proofs.traces.take_own_trace.Goals as goal

pub take_trace-requires-clause-means : goal.take_trace-requires-clause-means
take_trace-requires-clause-means g c = (
  c.requires.own.0,
  trace_means c.args.context.now c.args.script.now c.args.tree.now c.args.seat.now
      c.args.own.now c.requires.own.0 c.in-Some.trace.now c.requires.own.1 c.in-Some.ensures,
)

pub unreachable-requires : goal.unreachable-requires
unreachable-requires g c = no_trace c.args.own.now c.requires.own.1.has c.in-None.ensures

pub returns-clause-taken : goal.returns-clause-taken
returns-clause-taken g c = on_ok_weaker c.take_trace.result
    (λ taken recs own. taken recs
    (trace_means c.args.context.now c.args.script.now c.args.tree.now c.args.seat.now
    c.args.own.now recs c.in-Some.trace.now own c.in-Some.ensures)) c.take_trace.ensures.taken
