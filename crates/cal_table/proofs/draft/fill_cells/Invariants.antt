use Rattle.std.proofs.Common.{◌≡◌, [], ◌∷◌, map, take}
use Rattle.cal_agg.specs.Rows.{cell_over}
use Rattle.cal_table.specs.Snapshots.{numbers_of}
use Rattle.cal_table.proofs.draft.fill_cells.Given as goal

-- the cells so far are those of the value attributes so far
abbrev pub invariant-loop-flags : goal.invariant-loop-flags
invariant-loop-flags l =
    l.cells ≡ map (λ flags. cell_over (numbers_of flags (l.snap ∷ []))) (take l.flags-index l.shape.values)
