use Rattle.std.proofs.Common.{◌≤◌, length, subst, sym, arith}
use Rattle.cal_script.specs.declared.script.Script.{Script}
use Rattle.bench_crew.proofs.crew.measure.Goals as goal

-- a script has at most 64 threads
pub hire-measured-requires-clause-clocks : goal.hire-measured-requires-clause-clocks
hire-measured-requires-clause-clocks g c κs within =
    let few = c.requires.few_threads in
    let many = c.in_ok-clocks.ensures in
    subst (λ (s : Script). length s.threads ≤ length c.in_ok-clocks.clocks.items)
    (sym c.in_ok-run.ensures.run.script_is) (omega (arith, few, many))
