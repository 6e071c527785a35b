-- Which entries a table looks at: the others may be left out of a snapshot.
use Rattle.std.specs.Prelude.{◌≡◌, ℕ, Bool, false, ◌||◌, filter, slice_index_or}
use Rattle.std.specs.List.{list_any}
use Rattle.cal_snap.specs.declared.numbered.NumberedSnap.{NumberedSnap}
use Rattle.cal_table.specs.declared.shape.TableShape.{TableShape}

-- whether an attribute, by its number, is a key or a value attribute
abbrev pub looks_at : TableShape → ℕ → Bool
looks_at shape attribute = slice_index_or shape.keys attribute false
    || list_any (λ flags. slice_index_or flags attribute false) shape.values

-- a snapshot with the entries alone that a table looks at
pub record IsLookedAt (shape : TableShape) (snap looked : NumberedSnap) : Type 0 where
  pub refs : looked.refs.items ≡ snap.refs.items
  pub imms : looked.imms.items ≡ filter (λ e. looks_at shape e.attribute) snap.imms.items
