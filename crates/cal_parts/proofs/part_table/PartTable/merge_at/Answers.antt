use Rattle.std.proofs.Common.{◌≡◌, length, sym, ap, ◌∙◌, arith}
use Rattle.std.proofs.lemmas.Result.{on_ok_weaker}
use Rattle.std.specs.Simd.{first_chunks}
use Rattle.cal_parts.specs.PartLists.{put_parts}
use Rattle.cal_parts.proofs.PartLists.{chunk_added}
use Rattle.cal_parts.proofs.PartTables.{length-first_chunks, number_there, places_within}
use Rattle.cal_parts.proofs.part_table.PartTable.merge_at.Goals as goal

pub overflow_mul-from : goal.overflow_mul-from
overflow_mul-from c =
    let s = c.self.inside in
    omega (arith, places_within s.width s.count c.args.number s.parts _ c.self.invariant c.self.view_is c.requires)

pub merge_from-requires : goal.merge_from-requires
merge_from-requires c =
    let s = c.self.inside in
    omega (arith, c.if-width-self.false, places_within s.width s.count c.args.number s.parts _ c.self.invariant c.self.view_is c.requires)

pub returns-clause-ok : goal.returns-clause-ok
returns-clause-ok c =
    let s = c.self.inside in
    let n = c.args.number in
    let fresh = c.args.parts.now in
    let wide : length fresh ≡ s.width = omega (arith, c.if-width-self.false) in
    on_ok_weaker c.merge_from.result
    (λ merged.
    ap (first_chunks s.width s.count) merged
    ∙ chunk_added s.width s.count n s.parts fresh (number_there s.width s.count n s.parts _ c.self.view_is c.requires) c.self.invariant wide
    ∙ ap (λ ps. put_parts ps n fresh) c.self.view_is)
    c.merge_from.ensures.merged

pub returns-clause-long : goal.returns-clause-long
returns-clause-long c =
    let s = c.self.inside in
    length-first_chunks s.width s.count _ ∙ sym (length-first_chunks s.width s.count s.parts) ∙ ap length c.self.view_is
