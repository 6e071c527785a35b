use Rattle.std.proofs.Common.{◌<◌, ◌^◌, subst, sym, ◌∙◌, arith}
use Rattle.cal_parts.specs.Parts.{HasRoom}
use Rattle.cal_parts.proofs.Rooms.{are_within_below}
use Rattle.cal_parts.proofs.part.Part.percentage.Goals as goal

pub percent_total-requires : goal.percent_total-requires
percent_total-requires c =
    let s = c.args.self.now in
    let few : s.many < 2 ^ 32 = omega (arith, c.many.ensures.many) in
    are_within_below s.many c.in-Sum.sum few (subst (HasRoom s.many) (sym c.held.ensures ∙ c.in-Sum.is) c.many.ensures.room)
