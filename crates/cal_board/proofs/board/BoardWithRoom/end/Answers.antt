use Rattle.cal_board.specs.Blackboard.{Blackboard}
use Rattle.cal_board.proofs.LimitLemmas.{fewer-as_values, fewer-references}
use Rattle.cal_board.proofs.board.BoardWithRoom.end.Goals as goal

pub invariant_of-self : goal.invariant_of-self
invariant_of-self g c =
    let b : Blackboard g.row.N.Denot = record { references = c.self.inside.references; as_values = c.self.inside.as_values } in
    fewer-as_values b c.self.invariant c.slot.result c.pop.new.self c.pop.ensures

pub invariant_of-self-else-attr : goal.invariant_of-self-else-attr
invariant_of-self-else-attr g c =
    let b : Blackboard g.row.N.Denot = record { references = c.self.inside.references; as_values = c.self.inside.as_values } in
    fewer-references b c.self.invariant c.slot-else-attr.result c.pop-else-attr.new.self c.pop-else-attr.ensures
