-- Cells that hold entries of a row, and can give up the last ones.
use Rattle.std.specs.Prelude.{◌≡◌, ℕ, ◌<◌, List, [], ◌∷◌, ◌++◌, length, reverse, slice_set, take}
use Rattle.std.specs.Str.{IsUtf8}
use Rattle.cal_value.specs.declared.attribute.Entry.{Entry}
use Rattle.cal_rowset.specs.Filling.{HoldsIn, is_nothing, nth_cell, with_use}
use Rattle.cal_rowset.specs.declared.cell.Cell.{Cell}
use Rattle.cal_rowset.specs.declared.cells.Cells.{Cells}
use Rattle.cal_rowset.specs.declared.step.Step.{Step}

-- a cell as it was before a step
abbrev pub undone : Step → Cell → Cell
undone step cell = record { text = take step.length cell.text; content = step.content }

-- what is cut then is whole characters
abbrev pub CanUndo : Step → Cell → Type 0
CanUndo step cell = IsUtf8 (take step.length cell.text)

-- what cells are filled with
pub record Filling : Type 0 where
  pub cells : List Cell
  pub used : List ℕ
  pub entries : List Entry

-- A step leads from what the cells held to what they hold with one entry more, and can be undone.
pub record Leads (step : Step) (old new : Filling) : Type 0 where
  pub within : step.place < length new.cells
  pub cells : old.cells
      ≡ slice_set new.cells step.place (undone step (nth_cell new.cells step.place))
  pub text : CanUndo step (nth_cell new.cells step.place)
  pub used : new.used ≡ with_use (is_nothing step.content) old.used step.place
  pub entry : Entry
  pub entries : new.entries ≡ old.entries ++ entry ∷ []

-- The cells hold the entries, and each of the steps, the last one first, leads back to cells that
-- hold one entry less, down to none.
abbrev pub GoesBack : List (List ℕ) → List Step → Filling → Type 0
GoesBack names [] f = HoldsIn names f.cells f.used f.entries × (f.entries ≡ [])
GoesBack names (step ∷ steps) f = HoldsIn names f.cells f.used f.entries
    × (old : Filling) × Leads step old f × GoesBack names steps old

-- how the cells came to hold what they do, the last entry last
abbrev pub steps : Cells → List Step
steps c = c.steps.items

-- the cells hold these entries of a row, and can give up the last ones
abbrev pub IsTrail : Cells → List Entry → Type 0
IsTrail c entries = GoesBack c.names (reverse c.steps.items)
    (record { cells = c.cells.items; used = c.used.items; entries = entries })
