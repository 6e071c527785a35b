use Rattle.std.proofs.Common.{arith}
use Rattle.bench_crew.proofs.Hired.{all-hired}
use Rattle.bench_crew.proofs.crew.hire.Goals as goal

pub time_threads-requires-clause-hired : goal.time_threads-requires-clause-hired
time_threads-requires-clause-hired g c κs within =
    all-hired c.args.run.now c.in_ok-runners.runners.items c.in_ok-runners.ensures.hired

pub time_threads-requires-clause-clocks : goal.time_threads-requires-clause-clocks
time_threads-requires-clause-clocks g c =
    let many = c.in_ok-runners.ensures.hired.many in
    let enough = c.requires.clocks in
    omega (arith, many, enough)
