use Rattle.std.proofs.Common.{◌≡◌, ◌-◌, ◌++◌}
use Rattle.cal_gen.specs.Generated.{generated, threads_from}
use Rattle.cal_gen.proofs.generating.generate.Given as goal

-- the threads that are left make the text whole
abbrev pub invariant-loop : goal.invariant-loop
invariant-loop l =
    l.text ++ threads_from (l.threads - l.counter) l.lines l.draws.x ≡ generated l.seed l.threads l.lines
