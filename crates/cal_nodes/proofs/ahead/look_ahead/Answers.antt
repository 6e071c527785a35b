use Rattle.std.proofs.Common.{get_or, arith}
use Rattle.cal_nodes.proofs.Numbering.{met_later}
use Rattle.cal_once.proofs.Learning.{learns_then}
use Rattle.cal_once.specs.Seats.{view}
use Rattle.cal_words.specs.declared.node.NodeId.{NodeId}
use Rattle.cal_nodes.proofs.ahead.look_ahead.Goals as goal

pub look-requires-clause-node : goal.look-requires-clause-node
look-requires-clause-node c =
    let none : NodeId = record { 0 = 0 } in
    let inv = c.loop-next.invariant in
    met_later c.args.tree.now c.args.seat.now c.loop-next.seat inv.learns.more
    c.args.numbers.now (get_or c.args.nodes.now c.loop-next.next none)
    (c.requires.nodes c.loop-next.next none (omega arith))

pub loop-next-preserved : goal.loop-next-preserved
loop-next-preserved c =
    let inv = c.loop-next.invariant in
    record {
      seat = c.look.ensures.seat;
      learns = learns_then (view c.args.seat.now) (view c.loop-next.seat)
          (view c.look.new.seat) inv.learns c.look.ensures.learns;
    }
