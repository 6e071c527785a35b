use Rattle.std.proofs.Common.{[], IfSome, get_or, subst, sym, ap, ◌∙◌, arith}
use Rattle.std.specs.Prelude.{Option, slice_get}
use Rattle.cal_parts.proofs.PartTables.{chunk_place, chunk_within}
use Rattle.cal_parts.specs.Parts.{Gathered}
use Rattle.cal_parts.specs.Shown.{ComesTo}
use Rattle.cal_parts.proofs.part_table.PartTable.shown.Goals as goal

pub overflow_mul-number : goal.overflow_mul-number
overflow_mul-number c =
    let s = c.self.inside in
    omega (arith, c.self.invariant, chunk_within s.width s.count c.args.number (omega arith))

pub overflow_add-number : goal.overflow_add-number
overflow_add-number c =
    let s = c.self.inside in
    omega (arith, c.self.invariant, chunk_within s.width s.count c.args.number (omega arith))

pub returns : goal.returns
returns c =
    let s = c.self.inside in
    subst (λ (o : Option Gathered). IfSome c.shown.result (ComesTo c.args.kernel o))
    (sym (chunk_place s.width s.count c.args.number c.args.place s.parts (omega arith)
    (omega arith)) ∙ ap (λ ps. slice_get (get_or ps c.args.number []) c.args.place) c.self.view_is)
    c.shown.ensures
