use Rattle.std.proofs.Common.{◌<◌, ◌^◌, subst, sym, ◌∙◌, arith}
use Rattle.cal_agg.specs.Parts.{AreWithin, Parts}
use Rattle.cal_parts.proofs.Rooms.{held_within}
use Rattle.cal_parts.proofs.part.Part.held.Goals as goal

pub of_parts-requires : goal.of_parts-requires
of_parts-requires c =
    let s = c.args.self.now in
    let few : s.many < 2 ^ 32 = omega (arith, c.many.ensures.many) in
    subst (λ (p : Parts). AreWithin 126 p) (λ i. record { whole = sym c.whole-whole.ensures i; fixed = sym c.fixed-fixed.ensures i })
    (held_within s.many s.held few c.many.ensures.room (sym c.way.ensures ∙ c.in-Sum.is))
