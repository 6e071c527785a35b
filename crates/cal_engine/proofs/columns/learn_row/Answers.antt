use Rattle.std.proofs.Common.{◌≡◌, false, length, take, ap, ◌∙◌, arith}
use Rattle.std.proofs.lemmas.Grind.{common_steps}
use Rattle.cal_engine.specs.Learning.{learned, names_beside}
use Rattle.cal_engine.proofs.Learned.{learned_row}
use Rattle.cal_engine.proofs.columns.learn_row.Goals as goal

pub returns : goal.returns
returns c =
    let paths = c.args.row.now.paths in
    let long : length c.as_slice-path-items.result.now ≡ length paths = ap length c.as_slice-path-items.ensures in
    let all : take c.loop-path.path-index paths ≡ paths = grind (arith, common_steps, long) in
    learned_row c.args.names.now.keys c.loop-path.names.keys c.learn_entries-2.new.names.keys c.args.row.now
    (rw all at c.loop-path.invariant)
    (c.in_ok-learn_entries-2.ensures ∙ ap (λ es. learned c.loop-path.names.keys (names_beside false es)) c.as_slice-2.ensures)
