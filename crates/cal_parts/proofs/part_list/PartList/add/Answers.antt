use Rattle.std.proofs.Common.{[], ◌∷◌, length, sym, ap, ◌∙◌, arith}
use Rattle.cal_parts.specs.PartLists.{merged_at, parts_in}
use Rattle.cal_parts.specs.Parts.{part_over}
use Rattle.cal_parts.proofs.PartLists.{at_set}
use Rattle.cal_parts.proofs.part_list.PartList.add.Goals as goal

pub returns-in-Some-clause-added : goal.returns-in-Some-clause-added
returns-in-Some-clause-added c =
    let fresh = part_over c.args.kernel (c.args.number.now ∷ []) in
    let held = sym (ap parts_in c.in-Narrow.is) ∙ c.self.view_is in
    at_set c.in-Narrow.parts.items c.args.place c.index.result.now c.in-Some.narrow fresh
    (omega (arith, c.requires, ap length held)) c.index.ensures c.in-Some.ensures
    ∙ ap (λ ps. merged_at ps c.args.place fresh) held
