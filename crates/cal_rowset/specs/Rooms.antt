-- The cells of a row while a snapshot of a context is shown in them.
use Rattle.std.specs.Prelude.{◌≡◌, ℕ, ◌<◌, List, ◌++◌, Option, None, Some, true}
use Rattle.std.specs.Prelude.{filter, length, slice_get, slice_index_or, MatchOption}
use Rattle.std.specs.List.{Contains}
use Rattle.cal_value.specs.declared.attribute.Entry.{Entry}
use Rattle.cal_value.specs.declared.variant.Variant.{Variant}
use Rattle.cal_context.specs.Tree.{Tree, attribute_at, path_at}
use Rattle.cal_context.specs.declared.numbers.AttributeNumber.{AttributeNumber}
use Rattle.cal_context.specs.declared.numbers.NodeNumber.{NodeNumber}
use Rattle.cal_rowset.specs.Cells.{values}
use Rattle.cal_rowset.specs.Filling.{Shows, names}
use Rattle.cal_rowset.specs.Hierarchy.{is_of_hierarchy}
use Rattle.cal_rowset.specs.Known.{known_entries}
use Rattle.cal_rowset.specs.Trails.{IsTrail}
use Rattle.cal_rowset.specs.declared.cells.Cells.{Cells}
use Rattle.cal_rowset.specs.declared.shown_row.ShownRow.{ShownRow}

-- a name stands at this place among names, or at none
abbrev pub IsNamedAt : List (List ℕ) → List ℕ → Option ℕ → Type 0
IsNamedAt names name place =
    MatchOption place (¬ Contains names name) (λ p. slice_get names p ≡ Some name)

-- of each attribute of a context it is known where its name stands among these
pub record KnowsEach (t : Tree) (names : List (List ℕ)) (places : List (Option ℕ)) : Type 0 where
  pub counted : length places ≡ length t.attributes
  pub known : (n : AttributeNumber) → n.0 < length t.attributes
      → IsNamedAt names (attribute_at t n).name (slice_index_or places n.0 None)

-- the cells of a row know it of the attributes of a context
abbrev pub KnowsAttributes : Tree → ShownRow → Type 0
KnowsAttributes t shown = KnowsEach t (names shown.cells) shown.attributes.items

-- the same columns, and the same attributes
pub record IsAlike (old new : ShownRow) : Type 0 where
  pub names : names new.cells ≡ names old.cells
  pub places : new.places.items ≡ old.places.items
  pub attributes : new.attributes.items ≡ old.attributes.items
  pub shows_path : new.shows_path ≡ old.shows_path

-- These entries of a context are added to the cells of their names, and these to the hierarchy.
pub record AddsEntries (t : Tree) (old new : ShownRow) (entries nested : List Entry) : Type 0 where
  pub alike : IsAlike old new
  pub node : new.node ≡ old.node
  pub depth : new.depth ≡ old.depth
  pub cells : KnowsAttributes t old → (before : List Entry) → IsTrail old.cells before
      → IsTrail new.cells (before ++ known_entries (names old.cells) entries)
  pub hierarchy : old.shows_path ≡ true → (before : List Variant) → Shows old.hierarchy before
      → Shows new.hierarchy (before ++ values nested)

-- those of a path that are of the hierarchy
abbrev pub nested : List Entry → List Entry
nested path = filter (λ e. is_of_hierarchy e.attr) path

-- the same of entries of paths
abbrev pub AddsPath : Tree → ShownRow → ShownRow → List Entry → Type 0
AddsPath t old new path = AddsEntries t old new path (nested path)

-- cells that hold the path of one node, as far as its names are known, come to hold another one's
abbrev pub GoesTo : Tree → Cells → NodeNumber → Cells → NodeNumber → Type 0
GoesTo t old from new to = IsTrail old (known_entries (names old) (path_at t from))
    → IsTrail new (known_entries (names old) (path_at t to))
