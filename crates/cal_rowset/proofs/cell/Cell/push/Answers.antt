use Rattle.std.proofs.Common.{List, ℕ, ◌++◌, [], ◌∷◌, ap, ◌∙◌, sym, append_assoc}
use Rattle.std.proofs.lemmas.Result.{on_ok_weaker}
use Rattle.cal_value.specs.Values.{value_text}
use Rattle.cal_rowset.specs.declared.cell.Cell.{Cell}
use Rattle.cal_rowset.proofs.Showing.{Shows-first, Shows-next}
use Rattle.cal_rowset.proofs.cell.Cell.push.Goals as goal
use Rattle.cal_rowset.proofs.cell.Cell.push.Goals.{then-is_empty, else-is_empty+in_ok-push_str}

pub returns : goal.returns
returns c =
    let printed = λ (cell : Cell). cell.text ++ value_text c.args.value.now in
    let held = λ (cell : Cell). cell.content in
    on_ok_weaker c.print_value.result
    (λ is vs shows. elim c.if-is_empty.branch [
      | then-is_empty w ↦
          Shows-first c.args.self.now _ c.args.value.now vs shows (sym c.is_empty.ensures ∙ w.if-is_empty.true)
          (is ∙ ap printed w.self-is) (ap held w.self-is ∙ w.content_of_value-self.ensures)
      | else-is_empty+in_ok-push_str w ↦
          Shows-next c.args.self.now _ c.args.value.now vs shows (sym c.is_empty.ensures ∙ w.if-is_empty.false)
          (is ∙ ap printed w.self-is ∙ ap (λ (text : List ℕ). text ++ value_text c.args.value.now) w.in_ok-push_str.ensures.ok ∙ append_assoc c.args.self.now.text (47 ∷ []) (value_text c.args.value.now))
          (ap held w.self-is)
    ])
    c.print_value.ensures.ok
