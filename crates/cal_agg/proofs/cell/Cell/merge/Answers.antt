use Rattle.cal_agg.proofs.FigureLemmas.{merged_is, merged_small, room_is}
use Rattle.cal_agg.proofs.cell.Cell.merge.Goals as goal

pub joined-self-inside-requires : goal.joined-self-inside-requires
joined-self-inside-requires c =
    (room_is c.self.inside c.other.inside _ _
    (record { one = c.self.view_is; other = c.other.view_is }) c.requires).whole

pub joined-self-inside-requires-2 : goal.joined-self-inside-requires-2
joined-self-inside-requires-2 c =
    (room_is c.self.inside c.other.inside _ _
    (record { one = c.self.view_is; other = c.other.view_is }) c.requires).fixed

pub returns : goal.returns
returns c =
    merged_is c.self.inside c.other.inside _ _ _ _
    (record { one = c.self.view_is; other = c.other.view_is })
    c.joined-self-inside.ensures c.joined-self-inside-2.ensures

pub invariant_of-self : goal.invariant_of-self
invariant_of-self c =
    merged_small c.self.inside c.other.inside _ _ c.self.invariant c.other.invariant
    (room_is c.self.inside c.other.inside _ _
    (record { one = c.self.view_is; other = c.other.view_is }) c.requires)
    c.joined-self-inside.ensures c.joined-self-inside-2.ensures
