use Rattle.std.proofs.Common.{ℕ, List, [], Option, ap, ◌∙◌, unwrap_or}
use Rattle.std.proofs.lemmas.Option.{unwrap_or-slice_get}
use Rattle.cal_tabfmt.specs.Grid.{width}
use Rattle.cal_tabfmt.proofs.shape.width_at.Goals as goal

pub returns-in-None : goal.returns-in-None
returns-in-None c =
    ap (λ (text : Option (List ℕ)). width (unwrap_or text [])) c.in-None.ensures
    ∙ ap width (unwrap_or-slice_get c.args.line.now c.args.place [])
