-- What is laid out of an input, or why it isn't (ours).
use Rattle.std.specs.Prelude.{◌≡◌, ℕ, Bool, List, filter}
use Rattle.cal_base.specs.Change.{Change}
use Rattle.cal_base.specs.ReadEnds.{ReadsAll, StopsAt}
use Rattle.cal_base.specs.declared.reading.ReadEnd.TheVariants as read_end
use Rattle.cal_engine.specs.Answers.{answer_of}
use Rattle.cal_filter.specs.Conditions.{where_holds}
use Rattle.cal_jsonfmt.specs.Json.{json}
use Rattle.cal_ql.specs.declared.names.Format as formats
use Rattle.cal_ql.specs.declared.names.Format.TheVariants as format
use Rattle.cal_ql.specs.declared.query.Cond.{Cond}
use Rattle.cal_ql.specs.declared.query.Query.{Query}
use Rattle.cal_read.specs.Stream.{IsFault, IsStreamOf}
use Rattle.cal_read.specs.declared.kind.StreamKind.{StreamKind}
use Rattle.cal_rowset.specs.declared.rowset.Rowset.{Rowset}
use Rattle.cal_tabfmt.specs.Expand.{expand}
use Rattle.cal_tabfmt.specs.Table.{table}
use Rattle.cal_treefmt.specs.Tree.{tree}
use Rattle.cal_value.specs.declared.record.Rec.{Rec}
use Rattle.cal_value.specs.declared.record.Records.{Records}
use Rattle.cal_query.specs.Joining.{rows_seen}
use Rattle.cal_query.specs.declared.end.RowsEnd as ends
use Rattle.cal_query.specs.declared.end.RowsEnd.TheVariants as end

-- the layout of an answer in a format
abbrev pub layout : formats.Format → Rowset → List ℕ
layout format.Table answer = table answer
layout format.Json answer = json answer
layout format.Expand answer = expand answer
layout format.Tree answer = tree answer

-- what a query prints of the rows that it sees: the layout of its answer, in its format
abbrev pub answer_text : Query → List Rec → List ℕ
answer_text query rows = layout query.format (answer_of query rows)

-- the bytes are a stream, and this is what a query prints of it, with the globals joined or not
pub record IsLayout (query : Query) (join : Bool) (bytes text : List ℕ) : Type 0 where
  pub records : Records
  pub stream : IsStreamOf bytes records
  pub is : text ≡ answer_text query (rows_seen join records)

-- what an input had left was laid out as this text
pub record LaysOut (query : Query) (join : Bool) (limit : ℕ) (input : Change) (text : List ℕ)
    : Type 0 where
  pub bytes : List ℕ
  pub reads : ReadsAll limit input bytes
  pub layout : IsLayout query join bytes text

-- the bytes are a stream, and this is what a query prints of those of its rows of which conditions
-- hold, as they were read
pub record IsLayoutWhere (conditions : List Cond) (query : Query) (bytes text : List ℕ)
    : Type 0 where
  pub records : Records
  pub stream : IsStreamOf bytes records
  pub is : text ≡ answer_text query (filter (where_holds conditions) records.rows)

-- the same of what an input had left
pub record LaysOutWhere (conditions : List Cond) (query : Query) (limit : ℕ) (input : Change)
    (text : List ℕ) : Type 0 where
  pub bytes : List ℕ
  pub reads : ReadsAll limit input bytes
  pub layout : IsLayoutWhere conditions query bytes text

-- what an input had left goes wrong first at this line
pub record Falls (limit : ℕ) (input : Change) (line : ℕ) (kind : StreamKind) : Type 0 where
  pub bytes : List ℕ
  pub reads : ReadsAll limit input bytes
  pub fault : IsFault bytes line kind

-- why an input isn't laid out
abbrev pub StopsRows : ends.RowsEnd → ℕ → Change → Type 0
StopsRows (end.BadLine line kind) limit input = Falls limit input line kind
StopsRows end.ReadFault limit input = StopsAt read_end.ReadFault limit input
StopsRows end.TooLong limit input = StopsAt read_end.TooLong limit input
StopsRows end.OutOfMemory limit input = StopsAt read_end.OutOfMemory limit input
