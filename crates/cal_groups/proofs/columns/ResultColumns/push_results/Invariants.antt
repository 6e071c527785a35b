use Rattle.std.proofs.Common.{◌∷◌, List, ℕ, take}
use Rattle.std.specs.List.{flat_map, zip}
use Rattle.std.specs.Prelude.{codes}
use Rattle.cal_agg.specs.declared.cell.Cell.{Cell}
use Rattle.cal_agg.specs.declared.num.Num.TheVariants.{Whole}
use Rattle.cal_filter.specs.Kept.{result_entry}
use Rattle.cal_filter.specs.Numbers.{value_of_number}
use Rattle.cal_groups.specs.Appended.{Appends, record_of}
use Rattle.cal_groups.proofs.columns.ResultColumns.push_results.Given as goal
use Rattle.cal_profile.specs.TableRows.{cell_entries}

-- the results of the value attributes so far
abbrev pub invariant-loop-place : goal.invariant-loop-place
invariant-loop-place l = Appends l.context l.fn.imms.items l.imms.items
    (result_entry (codes "count") (value_of_number (Whole l.held.count))
    ∷ flat_map (λ (c : List ℕ × Cell). cell_entries l.held.count
    (record_of l.context l.nodes l.fn.imms.items) c.0 c.1)
    (take l.place (zip l.channel.values l.held.cells)))
