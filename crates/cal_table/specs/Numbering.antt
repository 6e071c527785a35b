-- Snapshots whose entries own their attributes, by the numbers of these in a list.
use Rattle.std.specs.Prelude.{◌≡◌, List, [], ◌∷◌}
use Rattle.std.specs.List.{All, Contains}
use Rattle.cal_value.specs.declared.attribute.Attribute.{Attribute}
use Rattle.cal_snap.specs.Numbered.{IsKnown, meaning}
use Rattle.cal_snap.specs.declared.numbered.NumberedSnap.{NumberedSnap}
use Rattle.cal_snap.specs.declared.snap.Snap.{Snap}
use Rattle.cal_table.specs.Snapshots.{IsWithin64, table_of}
use Rattle.cal_table.specs.Tables.{Same, TableValue, merged_tables}

-- a snapshot may be added: each of its attributes is in the list, each of its numbers has 64 bits
pub record MayAdd (attrs : List Attribute) (snap : Snap) : Type 0 where
  pub known : All (λ e. Contains attrs e.attr) snap.imms
  pub numbers : All (λ e. IsWithin64 e.value) snap.imms

-- a snapshot by numbers that means this one, with attributes by their numbers in the list
pub record Numbers (attrs : List Attribute) (snap : Snap) (numbered : NumberedSnap) : Type 0 where
  pub known : All (IsKnown attrs) numbered.imms.items
  pub means : meaning attrs numbered ≡ snap

-- a table after a snapshot was added, by the numbers of its attributes in the list
pub record Added (attrs : List Attribute) (snap : Snap) (old new : TableValue) : Type 0 where
  pub numbered : NumberedSnap
  pub numbers : Numbers attrs snap numbered
  pub added : Same new (merged_tables old (table_of old.shape (numbered ∷ [])))
