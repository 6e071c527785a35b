use Rattle.std.proofs.Common.{◌≡◌, not, filter}
use Rattle.cal_keys.specs.Groups.{takes}
use Rattle.cal_engine.proofs.grouping.pick.Given as goal

abbrev pub invariant-loop-entry : goal.invariant-loop-entry
invariant-loop-entry l = record {
  took : l.took.items ≡ filter (takes l.in_path l.name) l.yielded;
  rest : l.rest.items ≡ filter (λ e. not (takes l.in_path l.name e)) l.yielded;
}
