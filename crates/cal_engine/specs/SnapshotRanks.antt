-- The places of rows by number beside the values by which these are ordered.
use Rattle.std.specs.Prelude.{◌≡◌, List, ◌∷◌, Option, map}
use Rattle.std.specs.Option.{option_copied}
use Rattle.std.specs.Borrow.{Bor}
use Rattle.cal_context.specs.Tree.{Tree}
use Rattle.cal_filter.specs.Known.{sought}
use Rattle.cal_filter.specs.Sought.{value_sought}
use Rattle.cal_filter.specs.declared.seeker.Seeker.{Seeker}
use Rattle.cal_rowset.specs.NumberedRows.{NumberedRow, meant, nth_numbered}
use Rattle.cal_value.specs.Flat.{flat}
use Rattle.cal_value.specs.declared.record.Rec.{Rec}
use Rattle.cal_value.specs.declared.variant.Variant.{Variant}
use Rattle.cal_engine.specs.declared.snapshot_order.RankedPlace.{RankedPlace}
use Rattle.cal_engine.specs.declared.sorting.Ranked.{Ranked}

-- values that are referred to
abbrev pub others_in : List (Option (Bor Variant)) → List (Option Variant)
others_in values = map option_copied values

-- the values of a row, one for each key
abbrev pub ranked_values : RankedPlace → List (Option Variant)
ranked_values r = option_copied r.first ∷ others_in r.others.items

-- a row with the value that each seeker finds
abbrev pub rank_by : Seeker → List Seeker → Rec → Ranked
rank_by first others row = record {
  values = value_sought (sought first) (flat row)
      ∷ map (λ s. value_sought (sought s) (flat row)) others;
  row = row;
}

-- the row whose place it is, with the values beside it
abbrev pub as_rank : Tree → List NumberedRow → RankedPlace → Ranked
as_rank t rows r = record { values = ranked_values r; row = meant t (nth_numbered rows r.place) }

-- places of rows stand beside the right values of these rows
abbrev pub AreRanked : Tree → Seeker → List Seeker → List NumberedRow → List NumberedRow
    → List RankedPlace → Type 0
AreRanked t first others rows seen ranked =
    map (as_rank t rows) ranked ≡ map (rank_by first others) (map (meant t) seen)
