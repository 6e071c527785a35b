use Rattle.std.proofs.Common.{◌≡◌, [], ◌∷◌, filter, map, take}
use Rattle.cal_value.specs.Props.{is_reference}
use Rattle.cal_records.proofs.globals.referred.Given as goal

-- those of the entries so far
abbrev pub invariant-loop-entry : goal.invariant-loop-entry
invariant-loop-entry l = l.paths.items
    ≡ map (λ e. e ∷ []) (filter (λ e. is_reference e.attr.props) (take l.entry-index l.entries))
