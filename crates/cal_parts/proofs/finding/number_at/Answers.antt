use Rattle.std.proofs.Common.{arith}
use Rattle.std.proofs.lemmas.Option.{slice_get_past}
use Rattle.cal_context.specs.Snapshots.{meaning}
use Rattle.cal_value.specs.Flat.{flat}
use Rattle.cal_parts.proofs.Seekers.{found_at, nothing_at}
use Rattle.cal_parts.proofs.finding.number_at.Goals as goal

pub returns-then-place-count : goal.returns-then-place-count
returns-then-place-count c = λ knows.
    nothing_at c.args.seekers.now c.args.place (flat (meaning c.args.context.now c.args.snapshot.now))
    (slice_get_past c.args.seekers.now c.args.place (omega arith))

pub returns : goal.returns
returns c = λ knows.
    found_at c.args.context.now c.args.seekers.now c.args.place c.index-seekers-place.result
    (flat (meaning c.args.context.now c.args.snapshot.now)) c.number_found.result
    (omega arith) c.index-seekers-place.is knows c.number_found.ensures
