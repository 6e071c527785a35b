use Rattle.std.proofs.Common.{List, ◌+◌, ◌<◌, ◌≤◌, ◌++◌, drop, length, ap, ◌∙◌, arith}
use Rattle.std.specs.Prelude.{flat_map}
use Rattle.std.specs.List.{enumerate_from}
use Rattle.std.proofs.lemmas.List.Sums.{get_or-le-sum_by}
use Rattle.cal_run.proofs.PlainLemmas.{history-drop, history-end}
use Rattle.cal_run.specs.Plain.{placed_lines}
use Rattle.cal_script.specs.declared.journal.Placed.{Placed}
use Rattle.cal_run.proofs.placing.place_threads.Goals as goal

pub place_lines-requires : goal.place_lines-requires
place_lines-requires c =
    let script = c.args.script.now in
    let t = c.lines_of_thread-lines.result.now in
    let below : c.loop-number.number < length script.threads = omega arith in
    let most = get_or-le-sum_by length script.threads c.loop-number.number t below in
    let same = ap length (c.lines_of_thread-lines.ensures t) in
    omega (arith, most, same, c.requires.runnable.few_lines)

pub loop-number-preserved : goal.loop-number-preserved
loop-number-preserved c =
    let script = c.args.script.now in
    let i = c.loop-number.number in
    let t = c.lines_of_thread-lines.result.now in
    let below : i < length script.threads = omega arith in
    record {
      so_far = ap (λ (history : List Placed). history
          ++ flat_map (placed_lines script) (enumerate_from (i + 1) (drop (i + 1) script.threads)))
          c.in_ok-place_lines.ensures
          ∙ history-drop script script.threads i t c.loop-number.history below
          (c.lines_of_thread-lines.ensures t)
          ∙ c.loop-number.invariant.so_far;
    }

pub returns : goal.returns
returns c =
    let past : length c.args.script.now.threads ≤ c.loop-number.number = omega arith in
    history-end c.args.script.now c.args.script.now.threads c.loop-number.number
    c.loop-number.history _ past c.loop-number.invariant.so_far
