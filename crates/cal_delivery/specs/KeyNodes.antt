-- The nodes of a table's keys in a context (private).
use Rattle.std.specs.Prelude.{List, All, Option}
use Rattle.cal_agg.specs.declared.row.AggRow.{AggRow}
use Rattle.cal_context.specs.Tree as contexts
use Rattle.cal_context.specs.declared.numbers.NodeNumber.{NodeNumber}
use Rattle.cal_nodes.specs.Numbers.{CanNumber, IsNumbered}
use Rattle.cal_once.specs.declared.seat.RowSeat.{RowSeat}
use Rattle.cal_table.specs.Tables.{TableValue}
use Rattle.cal_table.specs.declared.key.TableKey.{TableKey}
use Rattle.cal_table_rows.specs.Meanings.{HasRows}
use Rattle.cal_tree.specs.declared.tree.Tree.{Tree}
use Rattle.cal_words.specs.declared.node.NodeId.{NodeId}
use Rattle.cal_words.specs.declared.sort.NodeSort.{NodeSort}

-- the nodes of a key
abbrev pub nodes_of : TableKey → List NodeId
nodes_of key = key.refs

-- each node of a key can be put into the context
abbrev pub CanNumberKey : Tree → RowSeat NodeSort → contexts.Tree → TableKey → Type 0
CanNumberKey tree seat t key = All (CanNumber tree seat t) key.refs

-- each node of a key has its number
abbrev pub IsKeyNumbered : List (Option NodeNumber) → TableKey → Type 0
IsKeyNumbered numbers key = All (IsNumbered numbers) key.refs

-- so it is with the keys of a table's rows, in whatever order they are read
abbrev pub CanNumberTable : Tree → RowSeat NodeSort → contexts.Tree → TableValue → Type 0
CanNumberTable tree seat t table = (keys : List TableKey) (held : List AggRow)
    → HasRows table keys held → All (CanNumberKey tree seat t) keys

-- the keys of a table's rows were read, and each is numbered
pub record IsTableNumbered (numbers : List (Option NodeNumber)) (table : TableValue) : Type 0 where
  pub keys : List TableKey
  pub held : List AggRow
  pub rows : HasRows table keys held
  pub numbered : All (IsKeyNumbered numbers) keys
