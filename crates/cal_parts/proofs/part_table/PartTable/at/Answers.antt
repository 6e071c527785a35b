use Rattle.std.proofs.Common.{◌++◌, [], length, ap, ◌∙◌, arith}
use Rattle.std.specs.Prelude.{slice_index_or}
use Rattle.std.specs.Option.{option_to_list}
use Rattle.std.proofs.lemmas.List.{take_all}
use Rattle.cal_parts.proofs.PartTables.{chunk_long, take_next}
use Rattle.cal_parts.proofs.part_table.PartTable.at.Goals as goal

pub loop-place-preserved : goal.loop-place-preserved
loop-place-preserved c =
    c.in_ok-push_some.ensures
    ∙ (λ i. c.loop-place.invariant i ++ option_to_list (c.get.ensures i))
    ∙ take_next c.loop-place.place (slice_index_or c.args.self.now c.args.number [])

pub returns : goal.returns
returns c =
    let s = c.self.inside in
    let own = slice_index_or c.args.self.now c.args.number [] in
    c.loop-place.invariant
    ∙ take_all c.loop-place.place own
    (omega (arith, c.loop-place-test.false, ap (λ ps. length (slice_index_or ps c.args.number [])) c.self.view_is, chunk_long s.width s.count c.args.number s.parts))
