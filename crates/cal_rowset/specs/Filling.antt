-- The cells of one row while it is filled in.
use Rattle.std.specs.Prelude.{◌≡◌, ℕ, ◌<◌, Bool, true, false, List, [], ◌∷◌, ◌++◌, ◌⊎◌}
use Rattle.std.specs.Prelude.{length, map}
use Rattle.std.specs.Prelude.{slice_index_or}
use Rattle.std.specs.List.{All, Contains}
use Rattle.cal_value.specs.declared.attribute.Entry.{Entry}
use Rattle.cal_value.specs.declared.variant.Variant.{Variant}
use Rattle.cal_context.specs.Lists.{AreApart}
use Rattle.cal_rowset.specs.Cells.{content_of, joined_texts, values_with}
use Rattle.cal_rowset.specs.Texts.{first_seen}
use Rattle.cal_rowset.specs.declared.cell.Cell.{Cell}
use Rattle.cal_rowset.specs.declared.cell.Content.{Content}
use Rattle.cal_rowset.specs.declared.cell.Content.TheVariants.{Nothing}
use Rattle.cal_rowset.specs.declared.cells.Cells.{Cells}

-- whether a cell holds nothing
abbrev pub is_nothing : Content → Bool
is_nothing Nothing = true
is_nothing _ = false

-- a cell shows these values
pub record Shows (c : Cell) (vs : List Variant) : Type 0 where
  pub text : c.text ≡ joined_texts vs
  pub content : c.content ≡ content_of vs

-- the cell at a place of a list, and the name
abbrev pub no_cell : Cell
no_cell = record { text = []; content = Nothing }

abbrev pub nth_cell : List Cell → ℕ → Cell
nth_cell cells place = slice_index_or cells place no_cell

abbrev pub nth_name : List (List ℕ) → ℕ → List ℕ
nth_name names place = slice_index_or names place []

-- Cells by place, each with a name of its own, hold these entries of a row: each shows those of its
-- name. The used places are those of the entries' names, as they are first seen.
pub record HoldsIn (names : List (List ℕ)) (cells : List Cell) (used : List ℕ)
    (entries : List Entry) : Type 0 where
  pub counted : length cells ≡ length names
  pub apart : AreApart names
  pub shows : (place : ℕ) → place < length names
      → Shows (nth_cell cells place) (values_with (nth_name names place) entries)
  pub used_names : map (nth_name names) used ≡ first_seen (map (λ e. e.attr.name) entries)
  pub within : All (λ place. place < length names) used
  pub idle : (place : ℕ) → place < length names
      → Contains used place ⊎ Shows (nth_cell cells place) []

-- the names of cells, by place
abbrev pub names : Cells → List (List ℕ)
names c = c.names

-- the places of the cells that aren't empty, in the order in which they were first filled
abbrev pub used : Cells → List ℕ
used c = c.used.items

-- the cells by the places of their names
abbrev pub cells : Cells → List Cell
cells c = c.cells.items

-- the cells hold these entries of a row
abbrev pub Holds : Cells → List Entry → Type 0
Holds c entries = HoldsIn c.names c.cells.items c.used.items entries

-- the cells hold a row
abbrev pub HoldsSome : Cells → Type 0
HoldsSome c = (entries : List Entry) × Holds c entries

-- the used places with one more, if it is new to them
abbrev pub with_use : Bool → List ℕ → ℕ → List ℕ
with_use true places place = places ++ place ∷ []
with_use false places place = places

-- a cell that is to be cleared is empty, and an empty one stays so
pub record ClearedIf (P : Type 0) (old new : Cell) : Type 0 where
  pub cleared : P → Shows new []
  pub stays : Shows old [] → Shows new []

abbrev pub AreCleared : List Cell → List Cell → List ℕ → Type 0
AreCleared old new places = (place : ℕ) → place < length old
    → ClearedIf (Contains places place) (nth_cell old place) (nth_cell new place)
