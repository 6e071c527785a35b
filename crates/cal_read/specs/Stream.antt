-- What a stream means, line by line (the `.cali` format, with Giltmoth's table of faults: a line
-- has the first that applies).
use Rattle.std.specs.Prelude.{◌≡◌, ℕ, List, [], ◌∷◌, ◌++◌, Result, Ok, Err, not, if◌then◌else◌}
use Rattle.std.specs.Str.{is_utf8}
use Rattle.cal_line.specs.FirstFault.{◌>>=◌, after_lines, IsFirstFault}
use Rattle.cal_line.specs.Fields.{fields_of}
use Rattle.cal_line.specs.Lines.{lines_of}
use Rattle.cal_line.specs.declared.field.Field.{Field}
use Rattle.cal_value.specs.declared.record.Rec.{Rec}
use Rattle.cal_value.specs.declared.record.Records.{Records}
use Rattle.cal_read.specs.BuiltIn.{built_in}
use Rattle.cal_read.specs.Fields.{or_fault, repeats_key, sort_of}
use Rattle.cal_read.specs.NodeLines.{node_step}
use Rattle.cal_read.specs.Nodes.{Named}
use Rattle.cal_read.specs.RecordLines.{record_of}
use Rattle.cal_read.specs.declared.kind.StreamKind.{StreamKind}
use Rattle.cal_read.specs.declared.kind.StreamKind.TheVariants as kind
use Rattle.cal_read.specs.declared.sort.Sort.{Sort}
use Rattle.cal_read.specs.declared.sort.Sort.TheVariants.{OfNode, OfRow, OfGlobals}

-- What lines have made: the nodes by their ids, the rows, and the globals.
pub record Stream : Type 0 where
  pub nodes : List Named
  pub rows : List Rec
  pub globals : Rec

-- before the first line there are the built-in nodes
abbrev pub no_lines : Stream
no_lines = record { nodes = built_in; rows = []; globals = record { paths = []; imms = [] } }

-- a record with the paths and the immediates of another behind its own
abbrev pub with_record : Rec → Rec → Rec
with_record globals r =
    record { paths = globals.paths ++ r.paths; imms = globals.imms ++ r.imms }

-- A `node` line adds to the nodes or repeats what is there, a `ctx` line adds a row, and a
-- `globals` line adds to the globals.
abbrev pub step_by_sort : Stream → List Field → Sort → Result Stream StreamKind
step_by_sort s fields OfNode = do
  nodes ← node_step s.nodes fields
  Ok (record s { nodes = nodes })
step_by_sort s fields OfRow = do
  row ← record_of s.nodes fields
  Ok (record s { rows = s.rows ++ row ∷ [] })
step_by_sort s fields OfGlobals = do
  more ← record_of s.nodes fields
  Ok (record s { globals = with_record s.globals more })

-- the fields of a line have each another key, and the first says what sort of line it is
abbrev pub step_by_fields : Stream → List Field → Result Stream StreamKind
step_by_fields s fields =
    if repeats_key fields then Err kind.BadField else (do
      sort ← sort_of fields
      step_by_sort s fields sort)

-- a line that isn't blank is a list of fields
abbrev pub step_by_list : Stream → List ℕ → Result Stream StreamKind
step_by_list s line = do
  fields ← or_fault kind.BadField (fields_of line)
  step_by_fields s fields

-- a blank line adds nothing
abbrev pub step_by_text : Stream → List ℕ → Result Stream StreamKind
step_by_text s [] = Ok s
step_by_text s (byte ∷ bytes) = step_by_list s (byte ∷ bytes)

-- What a line makes of the lines before it, or what is wrong with it there.
abbrev pub line_step : Stream → List ℕ → Result Stream StreamKind
line_step s line = if not (is_utf8 line) then Err kind.NotText else step_by_text s line

-- the bytes are a stream that has made this
abbrev pub IsStream : List ℕ → Stream → Type 0
IsStream bytes s = after_lines line_step no_lines (lines_of bytes) ≡ Ok s

-- the bytes are a stream of these records
pub record IsStreamOf (bytes : List ℕ) (records : Records) : Type 0 where
  pub nodes : List Named
  pub stream : IsStream bytes
      (record { nodes = nodes; rows = records.rows; globals = records.globals })

-- the bytes go wrong first at this line, counted from 1, with this kind of fault
abbrev pub IsFault : List ℕ → ℕ → StreamKind → Type 0
IsFault bytes = IsFirstFault line_step no_lines (lines_of bytes)
