use Rattle.std.proofs.Common.{◌++◌, List, ap, sym, ◌∙◌, arith}
use Rattle.cal_steps.proofs.RowLemmas.{more-numbered}
use Rattle.cal_steps.proofs.world.World.rows.Goals as goal
use Rattle.cal_steps.specs.Rows.{rows_at}
use Rattle.cal_value.specs.declared.record.Rec.{Rec}

pub loop-place-preserved : goal.loop-place-preserved
loop-place-preserved c =
    let w = c.args.self.now in
    let i = c.loop-place.place in
    let channel = c.index-channels-place.result in
    c.in_ok-push_rows.ensures
    ∙ ap (λ (rs : List Rec). rs ++ rows_at w (i, channel)) c.loop-place.invariant
    ∙ sym (more-numbered (rows_at w) 0 i i c.args.channels.now channel (omega arith) (omega arith)
    c.index-channels-place.is)
