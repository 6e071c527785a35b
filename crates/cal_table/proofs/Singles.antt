-- The row of one snapshot is within its bound.
use Rattle.std.proofs.Common.{Bool, Option, None, Some, List, [], ◌∷◌, length, get_or, refl}
use Rattle.std.specs.List.{All, cons_option}
use Rattle.std.specs.Option.{ForSome}
use Rattle.std.proofs.lemmas.List.{length-map}
use Rattle.std.proofs.lemmas.List.Elements.{All-map}
use Rattle.cal_agg.specs.RowLimits.{CellIsWithin, CellIsWithin-none, CellIsWithin-one, IsOf64}
use Rattle.cal_agg.specs.Rows.{cell_over}
use Rattle.cal_agg.specs.declared.num.Num.{Num}
use Rattle.cal_snap.specs.declared.numbered.NumberedSnap.{NumberedSnap}
use Rattle.cal_table.specs.Held.{IsHeld}
use Rattle.cal_table.specs.Snapshots.{HasNumberOf64, held_over, last_number, numbers_of}
use Rattle.cal_table.specs.declared.shape.TableShape.{TableShape}
use Rattle.cal_table.proofs.Lasts.{last_number-of64}

cell_within : (last : Option Num) → ForSome last IsOf64 → CellIsWithin 1 (cell_over (cons_option last []))
cell_within None h = CellIsWithin-none 1
cell_within (Some n) h = CellIsWithin-one n (h n refl)

pub IsHeld-single : (shape : TableShape) (snap : NumberedSnap) → All HasNumberOf64 snap.imms.items → IsHeld (length shape.values) (held_over shape (snap ∷ []))
IsHeld-single shape snap each = record {
  within = record {
    count = refl;
    cells = All-map (CellIsWithin 1) (λ (flags : List Bool). cell_over (numbers_of flags (snap ∷ []))) shape.values (λ k d l. cell_within (last_number (get_or shape.values k d) snap.imms.items) (last_number-of64 (get_or shape.values k d) snap.imms.items each));
  };
  long = length-map shape.values (λ (flags : List Bool). cell_over (numbers_of flags (snap ∷ [])));
}
