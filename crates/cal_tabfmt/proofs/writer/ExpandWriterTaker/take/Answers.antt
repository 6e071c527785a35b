use Rattle.std.proofs.Common.{ℕ, List, [], ◌∷◌, ◌++◌, None, ap, ◌∙◌}
use Rattle.std.proofs.lemmas.Result.{on_ok_weaker}
use Rattle.cal_context.specs.Snapshots.{meaning}
use Rattle.cal_value.specs.Flat.{flat}
use Rattle.cal_tabfmt.specs.Expand.{expand_line}
use Rattle.cal_tabfmt.proofs.LinesMore.{lines_push}
use Rattle.cal_tabfmt.proofs.StandLemmas.{AreReady-filled, HoldsRow-filled}
use Rattle.cal_tabfmt.proofs.writer.ExpandWriterTaker.take.Goals as goal

pub returns : goal.returns
returns c =
    let row = meaning c.args.context.now c.args.snapshot.now in
    on_ok_weaker c.append_line.result
    (λ appended rows has.
    let filled = c.in_ok-fill.ensures has.ready in
    record {
      text = appended (HoldsRow-filled c.args.context.now c.fill.new.self (flat row) filled)
          ∙ ap (λ (text : List ℕ). text ++ (expand_line None row ++ 10 ∷ [])) has.text ∙ lines_push rows row;
      ready = AreReady-filled c.args.context.now c.fill.new.self (flat row) filled;
    })
    c.append_line.ensures
