use Rattle.std.proofs.Common.{◌+◌, ◌-◌, ◌<◌, ◌≤◌, length, vec_len}
use Rattle.cal_base.specs.Told.{Takes}
use Rattle.cal_base.proofs.reading.take_all.Given as goal

-- what was taken so far, within the limit
abbrev pub invariant-loop-taken : goal.invariant-loop-taken
invariant-loop-taken g l =
    let source = g.S.Source in
    record {
      taken : Takes (source.left l.fn.input) (source.left l.input) l.taken.items;
      within : vec_len l.taken ≤ l.limit;
      room : 0 < length l.buffer;
      later : source.faults l.fn.input ≤ source.faults l.input;
    }

abbrev pub decreases-loop-taken : goal.decreases-loop-taken
decreases-loop-taken g l = l.limit + 1 - vec_len l.taken
