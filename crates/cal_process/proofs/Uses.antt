-- The words that a thread's seat has in use in the tree, as operations are taken in and lines done.
use Rattle.std.proofs.Common.{◌≡◌, ℕ, ◌+◌, ◌++◌, List, arith}
use Rattle.std.specs.Prelude.{Some}
use Rattle.std.proofs.lemmas.List.Sums.{sum_by-append}
use Rattle.cal_once.specs.Seats.{view}
use Rattle.cal_once.specs.declared.seat.RowSeat.{RowSeat}
use Rattle.cal_once.specs.declared.view.View.{View}
use Rattle.cal_process.specs.Operations.{operation_in, own_words, words_made, words_of_ops}
use Rattle.cal_process.specs.Replicas.{AddsWords}
use Rattle.cal_process.specs.Rooms.{UsesAtMost}
use Rattle.cal_process.specs.declared.common.Common.{Common}
use Rattle.cal_process.proofs.Lines.{next-line, thread_lines}
use Rattle.cal_process.proofs.Words.{sum-more, sum-next}
use Rattle.cal_run.specs.Lines.{line_at}
use Rattle.cal_script.specs.declared.script.Line.{Line}
use Rattle.cal_words.specs.declared.op.OpRec.{OpRec}
use Rattle.cal_words.specs.declared.sort.NodeSort.{NodeSort}

module _ (common : Common) where
  -- behind one line more, whatever it is
  pub uses-later : (v : View NodeSort) (h : List OpRec) (thread done : ℕ)
      → UsesAtMost common v h thread done → UsesAtMost common v h thread (done + 1)
  uses-later v h thread done uses =
      let script = common.script.now in
      let more = sum-more (own_words script) (thread_lines script thread) done in
      omega (arith, uses, more)

  module _ (was is : RowSeat NodeSort) (h : List OpRec) (thread done : ℕ) where
    pub uses-taken : (ops : List OpRec)
        → AddsWords common was is (words_of_ops common.script.now ops)
        → UsesAtMost common (view was) h thread done
        → UsesAtMost common (view is) (h ++ ops) thread done
    uses-taken ops adds uses =
        let sum = sum_by-append
        (λ (op : OpRec). words_made common.script.now (operation_in op)) h ops in
        omega (arith, adds, uses, sum)

    -- behind the next line, which made its own node
    pub uses-own : (l : Line) → line_at common.script.now thread (done + 1) ≡ Some l
        → AddsWords common was is (own_words common.script.now l)
        → UsesAtMost common (view was) h thread done
        → UsesAtMost common (view is) h thread (done + 1)
    uses-own l at adds uses =
        let script = common.script.now in
        let own = sum-next (own_words script) (thread_lines script thread) done l
        (next-line script thread done l at) in
        omega (arith, adds, uses, own)

    -- and by which operations were taken in
    pub uses-line : (ops : List OpRec) (l : Line)
        → line_at common.script.now thread (done + 1) ≡ Some l
        → AddsWords common was is
        (words_of_ops common.script.now ops + own_words common.script.now l)
        → UsesAtMost common (view was) h thread done
        → UsesAtMost common (view is) (h ++ ops) thread (done + 1)
    uses-line ops l at adds uses =
        let script = common.script.now in
        let sum = sum_by-append (λ (op : OpRec). words_made script (operation_in op)) h ops in
        let own = sum-next (own_words script) (thread_lines script thread) done l
        (next-line script thread done l at) in
        omega (arith, adds, uses, sum, own)
