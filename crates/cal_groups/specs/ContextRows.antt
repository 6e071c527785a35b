-- The rows of a table in a context: its nodes have numbers there, and so have its attributes.
use Rattle.std.specs.Prelude.{◌≡◌, List, map, flat_map, All, Option, Some}
use Rattle.std.specs.List.{AllZip}
use Rattle.cal_agg.specs.Numbers.{IsWithin}
use Rattle.cal_context.specs.Snapshots.{IsBelowRoot}
use Rattle.cal_context.specs.Tree.{Tree, path_at}
use Rattle.cal_context.specs.declared.numbers.NodeNumber.{NodeNumber}
use Rattle.cal_filter.specs.Named.{HasSmallNumbers}
use Rattle.cal_nodes.specs.Numbers.{number_in}
use Rattle.cal_profile.specs.TableRows.{KeyedRow, row_record}
use Rattle.cal_snap.specs.Numbered.{IsKnown, entry_of}
use Rattle.cal_script.specs.declared.script.ChannelQuery.{ChannelQuery}
use Rattle.cal_table.specs.Rows.{Row}
use Rattle.cal_table.specs.Tables.{TableValue}
use Rattle.cal_value.specs.declared.attribute.Entry.{Entry}
use Rattle.cal_value.specs.declared.record.Rec.{Rec}
use Rattle.cal_words.specs.declared.node.NodeId.{NodeId}

module _ (nodes : List (Option NodeNumber)) (t : Tree) where
  -- a node has a number in the context, that of a node below the root with this path
  pub record HasPath (node : NodeId) (entries : List Entry) : Type 0 where
    pub number : NodeNumber
    pub numbered : number_in nodes node ≡ Some number
    pub below : IsBelowRoot t number
    pub path : path_at t number ≡ entries

  -- A row means a keyed one: its nodes have the paths of the key, its entries are the key's
  -- immediates, and what is held is the same.
  pub record RowMeans (row : Row) (keyed : KeyedRow) : Type 0 where
    pub paths : AllZip HasPath row.key.refs keyed.key.paths
    pub known : All (IsKnown t.attributes) row.key.imms
    pub imms : map (entry_of t.attributes) row.key.imms ≡ keyed.key.imms
    pub held : row.held ≡ keyed.held

-- Its results are within the limits of numbers: it counts at most 2^40 snapshots, and no number of
-- its key is above 2^86 in magnitude.
pub record HasRoom (keyed : KeyedRow) : Type 0 where
  pub count : IsWithin 40 keyed.held.count
  pub numbers : HasSmallNumbers keyed.key

-- a row that may be handed over: it means such a keyed one
pub record MayTakeRow (nodes : List (Option NodeNumber)) (t : Tree) (row : Row) : Type 0 where
  pub keyed : KeyedRow
  pub means : RowMeans nodes t row keyed
  pub room : HasRoom keyed

-- rows that may be handed over
pub record MayTake (nodes : List (Option NodeNumber)) (t : Tree) (rows : List Row) : Type 0 where
  pub keyed : List KeyedRow
  pub means : AllZip (RowMeans nodes t) rows keyed
  pub room : All HasRoom keyed

-- the same of a table, by its rows
abbrev pub TableMeans : (nodes : List (Option NodeNumber)) → (t : Tree) → TableValue
    → List KeyedRow → Type 0
TableMeans nodes t table keyed = AllZip (RowMeans nodes t) table.rows keyed

abbrev pub MayTakeTable : (nodes : List (Option NodeNumber)) → (t : Tree) → TableValue → Type 0
MayTakeTable nodes t table = MayTake nodes t table.rows

-- the records in place of the rows of tables
abbrev pub records_of : ChannelQuery → List (List KeyedRow) → List Rec
records_of channel keyed = flat_map (λ (rows : List KeyedRow). map (row_record channel) rows) keyed
