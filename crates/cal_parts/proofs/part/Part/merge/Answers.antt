use Rattle.std.proofs.Common.{◌≡◌, ◌+◌, ◌<◌, ◌^◌, subst, sym, ◌∙◌, arith}
use Rattle.cal_agg.specs.Results.{both}
use Rattle.cal_parts.specs.Parts.{IsWithinWay, joined_by}
use Rattle.cal_parts.proofs.Rooms.{joins, merged_made}
use Rattle.cal_parts.proofs.part.Part.merge.Goals as goal

pub together-whole-requires : goal.together-whole-requires
together-whole-requires c =
    let one = c.args.self.now in
    let other = c.args.other.now in
    let same = sym c.way-way.ensures ∙ c.is_same.ensures c.if-not-is_same.false ∙ c.way.ensures in
    let few : one.many + other.many < 2 ^ 32 = omega (arith, c.many.ensures.many, c.many-2.ensures.many, c.in-Some.ensures) in
    let j = joins one.many other.many one.held other.held same few c.many.ensures.room c.many-2.ensures.room in
    subst (λ w. IsWithinWay w (both (joined_by w) c.whole.result c.whole-2.result)) (sym c.way-way.ensures)
    (rw (c.whole.ensures, c.whole-2.ensures) j.whole)

pub together-fixed-requires : goal.together-fixed-requires
together-fixed-requires c =
    let one = c.args.self.now in
    let other = c.args.other.now in
    let same = sym c.way-way.ensures ∙ c.is_same.ensures c.if-not-is_same.false ∙ c.way.ensures in
    let few : one.many + other.many < 2 ^ 32 = omega (arith, c.many.ensures.many, c.many-2.ensures.many, c.in-Some.ensures) in
    let j = joins one.many other.many one.held other.held same few c.many.ensures.room c.many-2.ensures.room in
    subst (λ w. IsWithinWay w (both (joined_by w) c.fixed.result c.fixed-2.result)) (sym c.way-way.ensures)
    (rw (c.fixed.ensures, c.fixed-2.ensures) j.fixed)

pub made-requires : goal.made-requires
made-requires c =
    let one = c.args.self.now in
    let other = c.args.other.now in
    let w = c.way-way.result in
    let same = c.is_same.ensures c.if-not-is_same.false ∙ c.way.ensures in
    let counted : c.in-Some.many ≡ one.many + other.many = omega (arith, c.many.ensures.many, c.many-2.ensures.many, c.in-Some.ensures) in
    let few : c.in-Some.many < 2 ^ 32 = omega (arith, c.in-Some.ensures) in
    (merged_made one other c.in-Some.many w c.together-whole.result c.together-fixed.result c.way-way.ensures same counted few
    c.many.ensures.room c.many-2.ensures.room
    (c.together-whole.ensures ∙ (λ i. both (joined_by w) (c.whole.ensures i) (c.whole-2.ensures i)))
    (c.together-fixed.ensures ∙ (λ i. both (joined_by w) (c.fixed.ensures i) (c.fixed-2.ensures i)))).room

pub returns-clause-ok : goal.returns-clause-ok
returns-clause-ok c =
    let one = c.args.self.now in
    let other = c.args.other.now in
    let w = c.way-way.result in
    let same = c.is_same.ensures c.if-not-is_same.false ∙ c.way.ensures in
    let counted : c.in-Some.many ≡ one.many + other.many = omega (arith, c.many.ensures.many, c.many-2.ensures.many, c.in-Some.ensures) in
    let few : c.in-Some.many < 2 ^ 32 = omega (arith, c.in-Some.ensures) in
    c.made.ensures
    ∙ (merged_made one other c.in-Some.many w c.together-whole.result c.together-fixed.result c.way-way.ensures same counted few
    c.many.ensures.room c.many-2.ensures.room
    (c.together-whole.ensures ∙ (λ i. both (joined_by w) (c.whole.ensures i) (c.whole-2.ensures i)))
    (c.together-fixed.ensures ∙ (λ i. both (joined_by w) (c.fixed.ensures i) (c.fixed-2.ensures i)))).is
