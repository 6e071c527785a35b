use Rattle.std.proofs.Common.{◌≡◌, filter, not, take}
use Rattle.cal_profile.specs.Groups.{is_result}
use Rattle.cal_steps.proofs.groups.group_of.Given as goal

-- the immediates so far that aren't results
abbrev pub invariant-loop-entry : goal.invariant-loop-entry
invariant-loop-entry l = l.imms
    ≡ filter (λ e. not (is_result l.aggs e)) (take l.entry-index l.row.imms)
