use Rattle.std.proofs.Common.{◌≡◌, ◌-◌, arith}
use Rattle.cal_counts.proofs.RowLemmas.{rows-split}
use Rattle.cal_counts.specs.Counts.{group_count}
use Rattle.cal_run.specs.Plain.{plain}
use Rattle.cal_summary.proofs.NumberLemmas.{summary_one}
use Rattle.cal_summary.proofs.summarizing.summary_by.Goals as goal

pub overflow_sub-groups : goal.overflow_sub-groups
overflow_sub-groups c =
    let script = c.args.script.now in
    let split = rows-split script (plain script) in
    let rows = c.requires.measured.rows in
    let traced = c.requires.counted.traced in
    omega (arith, split, rows, traced)

pub returns : goal.returns
returns c =
    let script = c.args.script.now in
    let split = rows-split script (plain script) in
    let rows = c.requires.measured.rows in
    let traced = c.requires.counted.traced in
    let groups : c.args.measure.rows - c.args.counts.traced ≡ group_count script (plain script) =
    omega (arith, split, rows, traced) in
    summary_one _ _ c.len-threads.ensures c.count_lines-lines.ensures c.requires.counted.nodes
    c.requires.counted.in_all groups c.requires.measured.bytes
