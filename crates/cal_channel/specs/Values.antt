-- What contracts see of a channel of a thread.
use Rattle.std.specs.Prelude.{◌≡◌, ℕ, ◌+◌, ◌<◌, ◌≤◌, ◌^◌, Bool, List, [], ◌∷◌, if◌then◌else◌}
use Rattle.std.specs.Prelude.{Option, Some, None, IfSome, is_some, option_map, unwrap_or}
use Rattle.cal_channel.specs.Traces.{ShownSnap}
use Rattle.cal_snap.specs.declared.numbered.NumberedEntry.{NumberedEntry}
use Rattle.cal_snap.specs.declared.numbered.NumberedSnap.{NumberedSnap}
use Rattle.cal_table.specs.Snapshots.{table_of}
use Rattle.cal_table.specs.Tables.{Same, TableValue, empty_table, merged_tables}
use Rattle.cal_table.specs.declared.shape.TableShape.{TableShape}
use Rattle.cal_words.specs.declared.node.NodeId.{NodeId}

-- The reading of its snapshot before, which at first is the thread's start reading; the snapshots
-- of its trace, if it has one; and its table, if it has one.
pub record ChannelValue : Type 0 where
  pub previous : ℕ
  pub trace : Option (List ShownSnap)
  pub table : Option TableValue

-- a channel that has taken nothing
abbrev pub new_channel : (has_trace : Bool) → Option TableShape → ChannelValue
new_channel has_trace shape = record {
  previous = 0;
  trace = if has_trace then Some [] else None;
  table = option_map empty_table shape;
}

-- with another reading before
abbrev pub started_at : ChannelValue → ℕ → ChannelValue
started_at c reading = record { previous = reading; trace = c.trace; table = c.table }

-- with another table
abbrev pub with_table : ChannelValue → TableValue → ChannelValue
with_table c table = record { previous = c.previous; trace = c.trace; table = Some table }

-- how many snapshots its table stands for, 0 where it has none
abbrev pub unflushed_of : Option TableValue → ℕ
unflushed_of table = unwrap_or (option_map (λ (t : TableValue). t.snapshots) table) 0

-- The channel has a trace where it had one, and a table of the same shape where it had one, which
-- stands for at most one snapshot more.
pub record KeepsServices (old new : ChannelValue) : Type 0 where
  pub trace : is_some new.trace ≡ is_some old.trace
  pub shape : option_map (λ (t : TableValue). t.shape) new.table
      ≡ option_map (λ (t : TableValue). t.shape) old.table
  pub few : unflushed_of new.table ≤ unflushed_of old.table + 1

-- the table, if there is one, has room: it stands for fewer snapshots than a run has lines at most
abbrev pub HasRoom : ChannelValue → Type 0
HasRoom c = IfSome c.table (λ table. table.snapshots < 2 ^ 20)

-- a snapshot of these nodes and entries was added to a table
pub record AddsSnap (nodes : List NodeId) (entries : List NumberedEntry) (old new : TableValue)
    : Type 0 where
  pub snap : NumberedSnap
  pub refs : snap.refs.items ≡ nodes
  pub imms : snap.imms.items ≡ entries
  pub added : Same new (merged_tables old (table_of old.shape (snap ∷ [])))

-- to the table, if there is one
abbrev pub Counted : List NodeId → List NumberedEntry → (old new : Option TableValue) → Type 0
Counted nodes entries None new = new ≡ None
Counted nodes entries (Some old) new =
    (table : TableValue) × (new ≡ Some table) × AddsSnap nodes entries old table
