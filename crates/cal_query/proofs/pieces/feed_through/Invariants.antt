use Rattle.std.proofs.Common.{◌+◌, ◌-◌, ◌<◌, ◌≤◌, length}
use Rattle.cal_query.specs.Pieces.{Feeds}
use Rattle.cal_query.proofs.pieces.feed_through.Given as goal

-- what was taken and fed so far, within the limit
abbrev pub invariant-loop-count : goal.invariant-loop-count
invariant-loop-count g l =
    let source = g.S.Source in
    let fed = g.F.Fed in
    record {
      feeds : Feeds (fed.has_read l.fn.fed) (fed.has_read l.fed) (source.left l.fn.input)
          (source.left l.input) l.total;
      ready : fed.is_ready l.fed;
      within : l.total ≤ l.limit;
      room : 0 < length l.buffer;
      later : source.faults l.fn.input ≤ source.faults l.input;
      about : (what : fed.About) → fed.is_about l.fn.fed what → fed.is_about l.fed what;
    }

abbrev pub decreases-loop-count : goal.decreases-loop-count
decreases-loop-count g l = l.limit + 1 - l.total
