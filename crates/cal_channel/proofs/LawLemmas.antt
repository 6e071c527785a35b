-- What a channel has taken stays so, and what its parts stand for.
use Rattle.std.proofs.Common.{◌≡◌, ℕ, ◌<◌, ◌^◌, Bool, true, false, List, [], length, map, subst}
use Rattle.std.proofs.Common.{arith}
use Rattle.std.specs.Prelude.{Option, None, Some, IfSome, if◌then◌else◌}
use Rattle.std.specs.List.{AllZip}
use Rattle.std.specs.Option.{option_map}
use Rattle.std.proofs.lemmas.Slice.Zip.{AllZip-long}
use Rattle.cal_board.proofs.StandingLemmas.{AllZip-weaken}
use Rattle.cal_channel.specs.Channels.{Counts, HasTaken, IsCounted, IsPathShown, IsTraced, Means}
use Rattle.cal_channel.specs.Shown.{numbered_entry}
use Rattle.cal_channel.specs.Traces.{ShownSnap}
use Rattle.cal_channel.specs.Values.{ChannelValue, HasRoom, new_channel, started_at, with_table}
use Rattle.cal_hand.specs.Nodes.{node_entry}
use Rattle.cal_once.specs.Seats.{view}
use Rattle.cal_once.specs.Views.{KnowsMore}
use Rattle.cal_once.specs.declared.seat.RowSeat.{RowSeat}
use Rattle.cal_script.specs.declared.script.Script.{Script}
use Rattle.cal_snap.specs.declared.numbered.NumberedEntry.{NumberedEntry}
use Rattle.cal_table.specs.TableLaws.{Same-refl}
use Rattle.cal_table.specs.Tables.{TableValue, empty_table}
use Rattle.cal_table.specs.declared.shape.TableShape.{TableShape}
use Rattle.cal_tree.proofs.Ways.{leads_later}
use Rattle.cal_tree.specs.Seats.{slots_of}
use Rattle.cal_tree.specs.declared.tree.Tree.{Tree}
use Rattle.cal_value.specs.declared.attribute.Attribute.{Attribute}
use Rattle.cal_value.specs.declared.attribute.Entry.{Entry}
use Rattle.cal_value.specs.declared.record.Rec.{Rec}
use Rattle.cal_words.specs.declared.node.NodeId.{NodeId}
use Rattle.cal_words.specs.declared.sort.NodeSort.{NodeSort}

if-some : {A : Type 0} (P Q : A → Type 0) → ((x : A) → P x → Q x) → (o : Option A) → IfSome o P
    → IfSome o Q
if-some P Q weaker None h = h
if-some P Q weaker (Some x) h = weaker x h

-- ---- a seat that learns

module _ (attributes : List Attribute) (script : Script) (tree : Tree)
    (old new : RowSeat NodeSort) (more : KnowsMore (view old) (view new)) where
  path-later : (node : NodeId) (path : List Entry)
      → IsPathShown attributes script tree old node path
      → IsPathShown attributes script tree new node path
  path-later node path h = record {
    opened = h.opened;
    is_node = record {
      below = h.is_node.below;
      has_path = leads_later (slots_of tree) (view old) (view new) 0 0 (map node_entry h.opened)
          node.0 more h.is_node.has_path;
    };
    known = h.known;
    entries = h.entries;
  }

  means-later : (nodes : List NodeId) (entries : List NumberedEntry) (rec : Rec)
      → Means attributes script tree old nodes entries rec
      → Means attributes script tree new nodes entries rec
  means-later nodes entries rec h = record {
    paths = AllZip-weaken (IsPathShown attributes script tree old)
        (IsPathShown attributes script tree new) path-later nodes rec.paths h.paths;
    within = h.within;
    imms = h.imms;
  }

  trace-later : (taken : List Rec) (snaps : List ShownSnap)
      → AllZip (IsTraced attributes script tree old) snaps taken
      → AllZip (IsTraced attributes script tree new) snaps taken
  trace-later taken snaps h = AllZip-weaken (IsTraced attributes script tree old)
      (IsTraced attributes script tree new)
      (λ snap rec. means-later snap.nodes (map (numbered_entry script.values) snap.entries) rec)
      snaps taken h

  pub counts-later : (recs : List Rec) (table : TableValue)
      → Counts attributes script tree old table recs
      → Counts attributes script tree new table recs
  counts-later recs table h = record {
    snaps = h.snaps;
    means = AllZip-weaken (IsCounted attributes script tree old)
        (IsCounted attributes script tree new)
        (λ snap rec. means-later snap.refs.items snap.imms.items rec) h.snaps recs h.means;
    stands = h.stands;
  }

  pub taken-later : (c : ChannelValue) (taken unflushed : List Rec)
      → HasTaken attributes script tree old c taken unflushed
      → HasTaken attributes script tree new c taken unflushed
  taken-later c taken unflushed h = record {
    trace = if-some (λ snaps. AllZip (IsTraced attributes script tree old) snaps taken)
        (λ snaps. AllZip (IsTraced attributes script tree new) snaps taken)
        (trace-later taken) c.trace h.trace;
    table = if-some (λ table. Counts attributes script tree old table unflushed)
        (λ table. Counts attributes script tree new table unflushed)
        (counts-later unflushed) c.table h.table;
  }

-- ---- parts

module _ (attributes : List Attribute) (script : Script) (tree : Tree)
    (seat : RowSeat NodeSort) where
  nothing-counted : (shape : TableShape)
      → Counts attributes script tree seat (empty_table shape) []
  nothing-counted shape = record {
    snaps = [];
    means = tt;
    stands = Same-refl (empty_table shape);
  }

  pub nothing-taken : (has_trace : Bool) (shape : Option TableShape)
      → HasTaken attributes script tree seat (new_channel has_trace shape) [] []
  nothing-taken has_trace shape =
      record { trace = traced has_trace; table = counted shape }
    where
      traced : (t : Bool) → IfSome (if t then Some [] else None)
          (λ (snaps : List ShownSnap). AllZip (IsTraced attributes script tree seat) snaps [])
      traced true = tt
      traced false = tt

      counted : (o : Option TableShape) → IfSome (option_map empty_table o)
          (λ table. Counts attributes script tree seat table [])
      counted None = tt
      counted (Some shape) = nothing-counted shape

  pub started-taken : (c : ChannelValue) (reading : ℕ) (taken unflushed : List Rec)
      → HasTaken attributes script tree seat c taken unflushed
      → HasTaken attributes script tree seat (started_at c reading) taken unflushed
  started-taken c reading taken unflushed h = record { trace = h.trace; table = h.table }

  pub part-counts : (c : ChannelValue) (part : TableValue) (taken unflushed : List Rec)
      → c.table ≡ Some part → HasTaken attributes script tree seat c taken unflushed
      → Counts attributes script tree seat part unflushed
  part-counts c part taken unflushed is h = subst
      (λ (o : Option TableValue). IfSome o
      (λ table. Counts attributes script tree seat table unflushed)) is h.table

  pub part-back : (c : ChannelValue) (part : TableValue) (taken unflushed recs : List Rec)
      → HasTaken attributes script tree seat c taken unflushed
      → Counts attributes script tree seat part recs
      → HasTaken attributes script tree seat (with_table c part) taken recs
  part-back c part taken unflushed recs h counts = record { trace = h.trace; table = counts }

  pub part-left : (c : ChannelValue) (shape : TableShape) (taken unflushed : List Rec)
      → HasTaken attributes script tree seat c taken unflushed
      → HasTaken attributes script tree seat (with_table c (empty_table shape)) taken []
  part-left c shape taken unflushed h =
      part-back c (empty_table shape) taken unflushed [] h (nothing-counted shape)

  -- a table stands for as many snapshots as there are records
  pub few-snapshots : (c : ChannelValue) (taken unflushed : List Rec)
      → HasTaken attributes script tree seat c taken unflushed → length unflushed < 2 ^ 20
      → HasRoom c
  few-snapshots c taken unflushed h few = if-some
      (λ table. Counts attributes script tree seat table unflushed)
      (λ table. table.snapshots < 2 ^ 20)
      (λ table counts.
      let long = AllZip-long (IsCounted attributes script tree seat) counts.snaps unflushed
      counts.means in
      let same = counts.stands.snapshots in
      omega (arith, few, long, same)) c.table h.table
