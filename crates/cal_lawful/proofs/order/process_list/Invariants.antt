use Rattle.std.proofs.Common.{◌≡◌, ◌++◌, ◌+◌, drop, ℕ, if◌then◌else◌}
use Rattle.std.specs.Prelude.{filter_map, Some, None}
use Rattle.std.specs.List.{enumerate_from}
use Rattle.cal_run.specs.Lawful.{process_lines}
use Rattle.cal_run.specs.Lines.{is_process_line}
use Rattle.cal_script.specs.declared.script.Line.{Line}
use Rattle.cal_lawful.proofs.order.process_list.Given as goal

-- those so far, and those among the lines that are left, are all
abbrev pub invariant-loop-place : goal.invariant-loop-place
invariant-loop-place l = l.list.items
    ++ filter_map (λ (e : ℕ × Line). if is_process_line l.script e.1 then Some e.0 else None)
    (enumerate_from (l.place + 1) (drop l.place l.lines))
    ≡ process_lines l.script l.lines
