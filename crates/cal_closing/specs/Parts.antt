-- What tables of one shape come to.
use Rattle.std.specs.Prelude.{◌≡◌, List, [], ◌∷◌, ◌++◌, All, flat_map, sum_by}
use Rattle.cal_book.specs.declared.view.Account.{Account}
use Rattle.cal_table.specs.Tables.{Same, TableValue}
use Rattle.cal_table.specs.declared.shape.TableShape.{TableShape}

-- the tables are of one shape
abbrev pub AreOfShape : TableShape → List TableValue → Type 0
AreOfShape shape tables = All (λ (table : TableValue). table.shape ≡ shape) tables

-- and so are the parts that threads have given
abbrev pub AreMadeFor : TableShape → List (Account TableValue) → Type 0
AreMadeFor shape accounts = All (λ account. AreOfShape shape account.given) accounts

-- The table of a shape that stands for all that these tables stand for: it has their rows, one list
-- behind another.
abbrev pub all_of : TableShape → List TableValue → TableValue
all_of shape tables = record {
  shape = shape;
  rows = flat_map (λ (table : TableValue). table.rows) tables;
  snapshots = sum_by (λ (table : TableValue). table.snapshots) tables;
}

-- The tables that a channel of a run leaves: those that its threads never gave to its book, and
-- behind them the book's, which stands for all parts that they gave.
pub record AreTablesOf (shape : TableShape) (given left tables : List TableValue) : Type 0 where
  pub book : TableValue
  pub tables_are : tables ≡ left ++ book ∷ []
  pub merged : Same book (all_of shape given)
