use Rattle.std.proofs.Common.{◌≡◌, ℕ, suc, sym, ap, ◌∙◌, arith}
use Rattle.cal_tabfmt.specs.Grid.{nth_text, on_line}
use Rattle.cal_treefmt.specs.Tree.{line_texts}
use Rattle.cal_treefmt.proofs.shown_line.ShownLine.text.Goals as goal

pub returns-in-Some : goal.returns-in-Some
returns-in-Some c = λ columns line shows up_to.
    let at : c.args.place ≡ suc c.in-Some.column = omega (arith, c.in-Some.ensures) in
    c.cell_text.ensures columns line shows (omega (arith, up_to, at)) ∙ ap (λ (k : ℕ). nth_text (line_texts columns line) k) (sym at)

pub returns-in-None : goal.returns-in-None
returns-in-None c = λ columns line shows up_to.
    let at : c.args.place ≡ 0 = omega (arith, c.in-None.ensures) in
    ap on_line shows.label ∙ ap (λ (k : ℕ). nth_text (line_texts columns line) k) (sym at)
