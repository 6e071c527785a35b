use Rattle.std.proofs.Common.{sym, ◌∙◌}
use Rattle.cal_line.specs.Escapes.{escaped}
use Rattle.cal_tabfmt.proofs.PartLemmas.{HasParts-absent, HasParts-part, part_appended}
use Rattle.cal_tabfmt.proofs.part.append_part.Goals as goal

pub returns-then-is_empty : goal.returns-then-is_empty
returns-then-is_empty c =
    λ before parts vs shows has.
    HasParts-absent before c.args.out.now c.args.is_first parts c.args.cell.now c.args.header.now vs shows (sym c.is_empty.ensures ∙ c.if-is_empty.true) has

pub returns : goal.returns
returns c =
    let text = part_appended c.args.out.now _ _ _ _ (escaped c.args.header.now) (escaped c.args.cell.now.text) c.in_ok-append_comma.ensures
    c.in_ok-append_front.ensures (rw c.as_str.ensures at c.in_ok-append_written.ensures) in
    λ before parts vs shows has.
    HasParts-part before c.args.out.now _ c.args.is_first parts c.args.cell.now c.args.header.now vs shows (sym c.is_empty.ensures ∙ c.if-is_empty.false) has text
