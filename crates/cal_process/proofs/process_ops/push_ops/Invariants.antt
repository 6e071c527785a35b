use Rattle.std.proofs.Common.{◌≡◌, ◌≤◌, ℕ}
use Rattle.std.specs.Prelude.{Some}
use Rattle.std.specs.List.{All, Contains}
use Rattle.cal_process.specs.Operations.{IsOpOf, op_of_line}
use Rattle.cal_run.specs.Lines.{line_at}
use Rattle.cal_script.specs.declared.script.Line.{Line}
use Rattle.cal_words.specs.declared.op.OpRec.{OpRec}
use Rattle.cal_process.proofs.process_ops.push_ops.Given as goal

-- those of the lines so far are there
abbrev pub invariant-loop-place : goal.invariant-loop-place
invariant-loop-place l = record {
  ops : All (IsOpOf l.script) l.fn.ops → All (IsOpOf l.script) l.ops;
  more : (op : OpRec) → Contains l.fn.ops op → Contains l.ops op;
  all : (number : ℕ) (x : Line) (op : OpRec) → number ≤ l.place
      → line_at l.script l.thread number ≡ Some x
      → op_of_line l.script l.thread number x ≡ Some op → Contains l.ops op;
}
