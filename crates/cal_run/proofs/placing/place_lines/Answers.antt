use Rattle.std.proofs.Common.{List, ◌+◌, ◌++◌, drop, map, ap, ◌∙◌, refl}
use Rattle.cal_run.proofs.PlainLemmas.{numbers_from, place, placed-drop, placed-end}
use Rattle.cal_run.specs.Lines.{is_process_line}
use Rattle.cal_script.specs.declared.journal.Placed.{Placed}
use Rattle.cal_run.proofs.placing.place_lines.Goals as goal

pub loop-place-preserved : goal.loop-place-preserved
loop-place-preserved c =
    let i = c.loop-place.place in
    let l = c.line_in-line.result in
    let script = c.args.script.now in
    record {
      so_far = ap (λ (history : List Placed). history
          ++ map (place c.args.thread)
          (numbers_from script (i + 1 + 1) (drop (i + 1) c.args.lines.now)))
          c.in_ok-place_line.ensures
          ∙ placed-drop script c.args.thread c.args.lines.now i l (is_process_line script l)
          c.loop-place.history c.loop-place-test.true
          (c.line_in-line.ensures l) refl
          ∙ c.loop-place.invariant.so_far;
    }

pub returns : goal.returns
returns c = placed-end c.args.script.now c.args.thread c.args.lines.now c.loop-place.place
    c.loop-place.history _ c.loop-place-test.false
    c.loop-place.invariant.so_far
