use Rattle.std.proofs.Common.{◌≡◌, filter, take}
use Rattle.cal_value.specs.Props.{is_as_value}
use Rattle.cal_records.proofs.globals.valued.Given as goal

-- those of the entries so far
abbrev pub invariant-loop-entry : goal.invariant-loop-entry
invariant-loop-entry l = l.imms.items
    ≡ filter (λ e. is_as_value e.attr.props) (take l.entry-index l.entries)
