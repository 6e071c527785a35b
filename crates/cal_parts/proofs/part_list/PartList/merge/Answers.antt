use Rattle.std.proofs.Common.{length, sym, ap, ◌∙◌, arith}
use Rattle.cal_parts.specs.PartLists.{merged_at, parts_in}
use Rattle.cal_parts.proofs.PartLists.{at_set}
use Rattle.cal_parts.proofs.part_list.PartList.merge.Goals as goal

pub returns-in-Some-clause-merged : goal.returns-in-Some-clause-merged
returns-in-Some-clause-merged c =
    let fresh = c.args.part.now in
    let held = sym (ap parts_in c.in-Narrow.is) ∙ c.self.view_is in
    at_set c.in-Narrow.parts.items c.args.place c.index.result.now c.in-Some.narrow fresh
    (omega (arith, c.requires, ap length held)) c.index.ensures c.in-Some.ensures
    ∙ ap (λ ps. merged_at ps c.args.place fresh) held
