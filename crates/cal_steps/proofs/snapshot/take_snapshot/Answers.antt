use Rattle.std.proofs.Common.{◌++◌, List, ap, ◌∙◌}
use Rattle.cal_board.specs.PathBoards.{entries_of}
use Rattle.cal_run.specs.Snapshots.{snapshot_of}
use Rattle.cal_steps.proofs.snapshot.take_snapshot.Goals as goal
use Rattle.cal_steps.specs.Sights.{sight_of}
use Rattle.cal_value.specs.declared.attribute.Entry.{Entry}

pub returns : goal.returns
unfolding snapshot_of
returns c =
    let script = c.args.script.now in
    let s = sight_of c.args.sight.now in
    let paths = c.in_ok-paths-2.ensures.ok
    ∙ ap (λ (ps : List (List Entry)). ps ++ entries_of script.attributes s.process.references)
    (c.in_ok-paths.ensures.ok
    ∙ ap (λ (ps : List (List Entry)). ps ++ entries_of script.attributes s.mine.references)
    c.new-paths.ensures) in
    λ j. record { paths = paths j; imms = c.in_ok-imms.ensures j }
