use Rattle.std.proofs.Common.{length-take, arith}
use Rattle.std.proofs.lemmas.Result.{err_from_is_err_and}
use Rattle.cal_base.proofs.Taking.{TakesUpTo-read, StopsAt-then}
use Rattle.cal_files.proofs.taking.take_rest.Goals as goal

-- what was taken before this read, and why it gave no more
pub returns-in_err-count-clause-refused : goal.returns-in_err-count-clause-refused
returns-in_err-count-clause-refused g c =
    let p = err_from_is_err_and c.from_residual.result c.from_residual.ensures.1 in
    let stops = rw (c.len.ensures, c.loop-taken.taken.ok.0) at c.in_err-count.ensures.refused in
    rw (p.1, p.2) (StopsAt-then _ c.args.allowed _ _ _ _ _ _ c.loop-taken.taken.items
    c.loop-taken.invariant.taken
    (omega (arith, c.loop-taken.invariant.within, c.loop-taken.taken.ok.0))
    c.loop-taken.invariant.later stops)

pub returns-in_err-extend_from_slice-clause-refused :
    goal.returns-in_err-extend_from_slice-clause-refused
returns-in_err-extend_from_slice-clause-refused g c =
    let gone = c.from_residual-in_err-extend_from_slice in
    let p = err_from_is_err_and gone.result gone.ensures.1 in
    let now = length-take c.in_ok-count.count c.read_piece.new.buffer in
    rw (p.1, p.2) (TakesUpTo-read _ _ _ _ _ _ c.loop-taken.invariant.taken
    c.in_ok-count.ensures.taken
    (omega (
      arith,
      now,
      c.loop-taken.taken.ok.0,
      c.in_ok-count.ensures.within,
      c.loop-taken.invariant.within,
      c.len.ensures,
    )))
