use Rattle.std.proofs.Common.{◌≡◌, ◌<◌, ℕ}
use Rattle.std.specs.Prelude.{Some}
use Rattle.std.specs.List.{All, Contains}
use Rattle.cal_process.specs.Operations.{IsOpOf, op_of_line}
use Rattle.cal_run.specs.Lines.{line_at}
use Rattle.cal_script.specs.declared.script.Line.{Line}
use Rattle.cal_words.specs.declared.op.OpRec.{OpRec}
use Rattle.cal_process.proofs.process_ops.process_ops.Given as goal

-- those of the threads so far are there
abbrev pub invariant-loop-thread : goal.invariant-loop-thread
invariant-loop-thread l = record {
  ops : All (IsOpOf l.script) l.ops;
  all : (thread number : ℕ) (x : Line) (op : OpRec) → thread < l.thread
      → line_at l.script thread number ≡ Some x
      → op_of_line l.script thread number x ≡ Some op → Contains l.ops op;
}
