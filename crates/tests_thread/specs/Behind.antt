-- A thread behind so many of its lines, whatever it has seen.
use Rattle.std.specs.Prelude.{ℕ, List}
use Rattle.cal_process.specs.declared.common.Common.{Common}
use Rattle.cal_run.specs.Steps.{ThreadState}
use Rattle.cal_thread.specs.Threads.{IsThread}
use Rattle.cal_thread.specs.declared.thread.Thread.{Thread}
use Rattle.cal_words.specs.declared.op.OpRec.{OpRec}

-- It has seen some operations, with which the history begins, and has some state.
abbrev pub IsBehind : Common → Thread → (done : ℕ) → Type 0
IsBehind common thread done =
    (h : List OpRec) × (state : ThreadState) × IsThread common thread done h state
