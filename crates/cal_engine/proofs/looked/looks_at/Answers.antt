use Rattle.std.proofs.Common.{◌≡◌, true, ◌||◌, not, sym, ap, ◌∙◌}
use Rattle.cal_engine.specs.Looked.{speaks_of}
use Rattle.cal_engine.specs.Rows.{is_aggregated}
use Rattle.cal_engine.proofs.Speaking.{spoken_by}
use Rattle.cal_engine.proofs.looked.looks_at.Goals as goal

pub returns : goal.returns
returns c = λ is.
    let q = c.args.query.now in
    let grouped : is_aggregated q ≡ true =
    sym c.is_aggregated.ensures ∙ c.if-not-is_aggregated.false in
    c.is_among.ensures ∙ spoken_by q c.args.names.now.keys c.args.attribute.now is
    ∙ ap (λ b. not b || speaks_of q c.args.attribute.now) (sym grouped)
