-- What the rows of a table mean, whose keys are numbered, by what a seat knows of the tree.
use Rattle.std.specs.Prelude.{◌≡◌, List, length}
use Rattle.std.specs.List.{AllZip, IsDistinct}
use Rattle.cal_agg.specs.declared.row.AggRow.{AggRow}
use Rattle.cal_channel.specs.Channels.{Means}
use Rattle.cal_context.specs.Lists.{AreApart}
use Rattle.cal_once.specs.declared.seat.RowSeat.{RowSeat}
use Rattle.cal_profile.specs.TableRows.{AreRowsOf, KeyedRow}
use Rattle.cal_rowset.specs.Texts.{is_same}
use Rattle.cal_script.specs.Parts.{attribute_names}
use Rattle.cal_script.specs.declared.script.ChannelQuery.{ChannelQuery}
use Rattle.cal_script.specs.declared.script.Script.{Script}
use Rattle.cal_table.specs.Rows.{Row, rows_of}
use Rattle.cal_table.specs.Tables.{TableValue}
use Rattle.cal_table.specs.declared.key.TableKey.{TableKey}
use Rattle.cal_tree.specs.declared.tree.Tree.{Tree}
use Rattle.cal_value.specs.declared.attribute.Attribute.{Attribute}
use Rattle.cal_value.specs.declared.record.Rec.{Rec}
use Rattle.cal_words.specs.declared.sort.NodeSort.{NodeSort}

-- The names of a script's attributes are apart, and so are those of a run's.
pub record NamesAreApart (attributes : List Attribute) (script : Script) : Type 0 where
  pub declared : IsDistinct is_same (attribute_names script.attributes)
  pub all : IsDistinct is_same (attribute_names attributes)

-- The keys of a table's rows, each once, and beside each what it holds: as `Table::rows` gives
-- them.
pub record HasRows (table : TableValue) (keys : List TableKey) (held : List AggRow) : Type 0 where
  pub rows : rows_of keys held ≡ table.rows
  pub long : length keys ≡ length held
  pub once : AreApart keys

-- By the attributes of a run's numbers, by its script, and by what a seat knows of the tree:
module _ (attributes : List Attribute) (script : Script) (tree : Tree)
    (seat : RowSeat NodeSort) where
  -- a row means another one: its key means that one's, and it holds the same
  pub record RowMeans (row : Row) (keyed : KeyedRow) : Type 0 where
    pub key : Means attributes script tree seat row.key.refs row.key.imms keyed.key
    pub held : keyed.held ≡ row.held

  -- rows mean those of a channel's table that stands for records
  pub record MeanRowsOf (channel : ChannelQuery) (recs : List Rec) (rows : List Row) : Type 0 where
    pub keyed : List KeyedRow
    pub mean : AllZip RowMeans rows keyed
    pub are : AreRowsOf channel recs keyed
