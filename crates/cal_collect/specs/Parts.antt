-- Parts of tables, what a sender may send of them, and what they come to.
use Rattle.std.specs.Prelude.{◌≡◌, ℕ, ◌+◌, ◌==◌, ◌≤◌, ◌^◌, if◌then◌else◌, Some, List, [], ◌∷◌}
use Rattle.std.specs.Prelude.{flat_map, length, slice_get, sum_by}
use Rattle.cal_collect.specs.declared.part.Part.{Part}
use Rattle.cal_table.specs.Tables.{Same, TableValue}
use Rattle.cal_table.specs.declared.shape.TableShape.{TableShape}

abbrev pub part_of : ℕ → TableValue → Part
part_of channel table = record { channel = channel; table = table }

-- the tables among some parts that are for a channel, in order
abbrev pub tables_for : ℕ → List Part → List TableValue
tables_for channel [] = []
tables_for channel (part ∷ parts) =
    if part.channel == channel then part.table ∷ tables_for channel parts
    else tables_for channel parts

-- for how many snapshots some tables stand
abbrev pub snapshots_of : List TableValue → ℕ
snapshots_of tables = sum_by (λ (table : TableValue). table.snapshots) tables

-- the merge of tables of a shape: it has the rows of all, one list behind another
abbrev pub merge_of : TableShape → List TableValue → TableValue
merge_of shape tables = record {
  shape = shape;
  rows = flat_map (λ (table : TableValue). table.rows) tables;
  snapshots = snapshots_of tables;
}

-- A sender that has sent these parts may send this one: it is for one of the channels, and of that
-- one's shape; and what the sender sent for that channel stands with it for 2^20 snapshots at most.
pub record MaySend (shapes : List TableShape) (sent : List Part) (part : Part) : Type 0 where
  pub shape : slice_get shapes part.channel ≡ Some part.table.shape
  pub few : snapshots_of (tables_for part.channel sent) + part.table.snapshots ≤ 2 ^ 20

-- the tables that senders sent for a channel: the first one's, then the second one's, and so on
abbrev pub sent_for : ℕ → List (List Part) → List TableValue
sent_for channel sents = flat_map (tables_for channel) sents

-- for each channel its table, which stands for the merge of all that the senders sent for it
pub record AreMergesOf (shapes : List TableShape) (sents : List (List Part))
    (tables : List TableValue) : Type 0 where
  pub many : length tables ≡ length shapes
  pub each : (channel : ℕ) (shape : TableShape) (table : TableValue)
      → slice_get shapes channel ≡ Some shape → slice_get tables channel ≡ Some table
      → Same table (merge_of shape (sent_for channel sents))
