-- A table without rows takes another one in by becoming it.
use Rattle.std.proofs.Common.{◌≡◌, ℕ, List, [], ◌∷◌, ◌++◌, refl, sym, ap, ◌∙◌, arith}
use Rattle.std.specs.Prelude.{sum_by}
use Rattle.cal_agg.specs.declared.row.AggRow.{AggRow}
use Rattle.cal_table.specs.declared.key.TableKey.{TableKey}
use Rattle.cal_table.specs.Held.{AreHeld, size}
use Rattle.cal_table.specs.Rows.{Row, rows_of, tally}
use Rattle.cal_table.specs.Tables.{Same, TableValue, merged_tables}

no_rows : (keys : List TableKey) → rows_of keys [] ≡ []
no_rows [] = refl
no_rows (key ∷ keys) = refl

pub becomes : (cells snapshots : ℕ) (keys : List TableKey) (rows : List AggRow)
    → AreHeld cells snapshots keys rows → rows ≡ [] → (was other : TableValue)
    → was.rows ≡ rows_of keys rows → was.snapshots ≡ snapshots → other.shape ≡ was.shape
    → Same other (merged_tables was other)
becomes cells snapshots keys rows held none was other rows_are snapshots_are made =
    let total : 0 ≡ snapshots = ap (sum_by size) (sym none) ∙ held.total in
    let empty : was.rows ≡ [] = rows_are ∙ ap (rows_of keys) none ∙ no_rows keys in
    record {
      shape = made;
      snapshots = omega (arith, total, snapshots_are);
      tally = λ asked. ap (λ (rs : List Row). tally asked (rs ++ other.rows)) (sym empty);
    }
