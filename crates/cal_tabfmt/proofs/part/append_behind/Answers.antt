use Rattle.std.proofs.Common.{List, ℕ, ◌++◌, ap, sym, ◌∙◌}
use Rattle.cal_line.specs.Escapes.{escaped}
use Rattle.cal_tabfmt.proofs.PartLemmas.{HasParts-absent, HasParts-part, part_appended}
use Rattle.cal_tabfmt.proofs.part.append_behind.Goals as goal

pub returns-then-is_empty : goal.returns-then-is_empty
returns-then-is_empty c =
    λ before parts vs header front shows has.
    HasParts-absent before c.args.out.now c.args.is_first parts c.args.cell.now header vs shows (sym c.is_empty.ensures ∙ c.if-is_empty.true) has

pub returns : goal.returns
returns c =
    λ before parts vs header front shows has.
    let fronted = c.in_ok-push_str.ensures.ok ∙ ap (λ (t : List ℕ). c.append_comma.new.out ++ t) (c.as_str.ensures ∙ front) in
    let text = part_appended c.args.out.now _ _ _ _ (escaped header) (escaped c.args.cell.now.text) c.in_ok-append_comma.ensures
    fronted (rw c.as_str-2.ensures at c.in_ok-append_written.ensures) in
    HasParts-part before c.args.out.now _ c.args.is_first parts c.args.cell.now header vs shows (sym c.is_empty.ensures ∙ c.if-is_empty.false) has text
