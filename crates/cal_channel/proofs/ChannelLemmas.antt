-- What is added to a channel's trace and table means a record more.
use Rattle.std.proofs.Common.{◌≡◌, ◌+◌, ◌≤◌, Bool, true, List, [], ◌∷◌, ◌++◌, map, ap, arith}
use Rattle.std.proofs.Common.{subst, sym, refl, ◌∙◌}
use Rattle.std.specs.Prelude.{Option, None, Some, IfSome, All, is_some}
use Rattle.std.specs.List.{AllZip}
use Rattle.std.specs.Option.{option_map}
use Rattle.cal_board.proofs.StandingLemmas.{AllZip-append}
use Rattle.cal_board.specs.declared.opened.Opened.{Opened}
use Rattle.cal_channel.specs.Channels.{Counts, IsCounted, IsPathShown, IsTraced, Means}
use Rattle.cal_channel.specs.Channels.{TakesMore}
use Rattle.cal_channel.specs.Shown.{numbered_entry}
use Rattle.cal_channel.specs.Traces.{ShownSnap}
use Rattle.cal_channel.specs.Values.{ChannelValue, Counted, KeepsServices, unflushed_of}
use Rattle.cal_once.specs.declared.seat.RowSeat.{RowSeat}
use Rattle.cal_run.specs.Held.{Shows}
use Rattle.cal_run.specs.Snapshots.{Sight}
use Rattle.cal_run.specs.declared.moment.Moment.{Moment}
use Rattle.cal_script.specs.declared.script.Script.{Script}
use Rattle.cal_snap.specs.Numbered.{IsKnown, entry_of}
use Rattle.cal_snap.specs.declared.numbered.NumberedEntry.{NumberedEntry}
use Rattle.cal_table.proofs.Standing.{StandsFor-merged}
use Rattle.cal_table.specs.TableLaws.{Same-refl}
use Rattle.cal_table.specs.Snapshots.{table_of}
use Rattle.cal_table.specs.Tables.{TableValue}
use Rattle.cal_tree.specs.declared.tree.Tree.{Tree}
use Rattle.cal_value.specs.declared.attribute.Attribute.{Attribute}
use Rattle.cal_value.specs.declared.record.Rec.{Rec}
use Rattle.cal_value.specs.declared.variant.Variant.{Variant}
use Rattle.cal_words.specs.declared.node.NodeId.{NodeId}
use Rattle.cal_words.specs.declared.sort.NodeSort.{NodeSort}

module _ (attributes : List Attribute) (script : Script) (tree : Tree) (seat : RowSeat NodeSort)
    (rec : Rec) where
  -- a trace
  trace-more : (old : Option (List ShownSnap)) (snap : ShownSnap) (recs : List Rec)
      → IsTraced attributes script tree seat snap rec
      → IfSome old (λ snaps. AllZip (IsTraced attributes script tree seat) snaps recs)
      → IfSome (option_map (λ (snaps : List ShownSnap). snaps ++ snap ∷ []) old)
      (λ snaps. AllZip (IsTraced attributes script tree seat) snaps (recs ++ rec ∷ []))
  trace-more None snap recs means had = had
  trace-more (Some snaps) snap recs means had =
      AllZip-append (IsTraced attributes script tree seat) snaps (snap ∷ []) recs (rec ∷ []) had
      (means, tt)

  -- a table
  table-more : (old new : Option TableValue) (nodes : List NodeId) (entries : List NumberedEntry)
      (recs : List Rec) → Counted nodes entries old new
      → Means attributes script tree seat nodes entries rec
      → IfSome old (λ table. Counts attributes script tree seat table recs)
      → IfSome new (λ table. Counts attributes script tree seat table (recs ++ rec ∷ []))
  table-more None new nodes entries recs counted means had =
      subst (λ (o : Option TableValue). IfSome o
      (λ table. Counts attributes script tree seat table (recs ++ rec ∷ []))) (sym counted) had
  table-more (Some old) new nodes entries recs counted means had =
      let adds = counted.2 in
      let one : IsCounted attributes script tree seat adds.snap rec = record {
        paths = subst (λ (ns : List NodeId).
            AllZip (IsPathShown attributes script tree seat) ns rec.paths)
            (sym adds.refs) means.paths;
        within = subst (All (IsKnown attributes)) (sym adds.imms) means.within;
        imms = ap (map (entry_of attributes)) adds.imms ∙ means.imms;
      } in
      subst (λ (o : Option TableValue). IfSome o
      (λ table. Counts attributes script tree seat table (recs ++ rec ∷ []))) (sym counted.1)
      (record {
        snaps = had.snaps ++ adds.snap ∷ [];
        means = AllZip-append (IsCounted attributes script tree seat) had.snaps (adds.snap ∷ [])
            recs (rec ∷ []) had.means (one, tt);
        stands = StandsFor-merged had.snaps (adds.snap ∷ []) old
            (table_of old.shape (adds.snap ∷ [])) counted.0 had.stands
            (Same-refl (table_of old.shape (adds.snap ∷ []))) refl adds.added;
      })

  -- both
  pub takes-one : (old new : ChannelValue) (snap : ShownSnap)
      → new.trace ≡ option_map (λ (snaps : List ShownSnap). snaps ++ snap ∷ []) old.trace
      → Counted snap.nodes (map (numbered_entry script.values) snap.entries) old.table new.table
      → IsTraced attributes script tree seat snap rec
      → TakesMore attributes script tree seat old new (rec ∷ [])
  takes-one old new snap traced counted means taken unflushed had = record {
    trace = subst (λ (o : Option (List ShownSnap)). IfSome o
        (λ snaps. AllZip (IsTraced attributes script tree seat) snaps (taken ++ rec ∷ [])))
        (sym traced) (trace-more old.trace snap taken means had.trace);
    table = table-more old.table new.table snap.nodes
        (map (numbered_entry script.values) snap.entries) unflushed counted means had.table;
  }

-- ---- services

is_some-mapped : {A B : Type 0} (f : A → B) (o : Option A) → is_some (option_map f o) ≡ is_some o
is_some-mapped f None = refl
is_some-mapped f (Some x) = refl

shape-kept : (old new : Option TableValue) (nodes : List NodeId) (entries : List NumberedEntry)
    → Counted nodes entries old new → option_map (λ (t : TableValue). t.shape) new
    ≡ option_map (λ (t : TableValue). t.shape) old
shape-kept None new nodes entries counted = ap (option_map (λ (t : TableValue). t.shape)) counted
shape-kept (Some old) new nodes entries counted =
    ap (option_map (λ (t : TableValue). t.shape)) counted.1 ∙ ap Some counted.2.added.shape

few-more : (old new : Option TableValue) (nodes : List NodeId) (entries : List NumberedEntry)
    → Counted nodes entries old new → unflushed_of new ≤ unflushed_of old + 1
few-more None new nodes entries counted =
    let none : unflushed_of new ≡ 0 = ap unflushed_of counted in omega (arith, none)
few-more (Some old) new nodes entries counted =
    let is : unflushed_of new ≡ counted.0.snapshots = ap unflushed_of counted.1 in
    let one : counted.0.snapshots ≡ old.snapshots + 1 = counted.2.added.snapshots in
    omega (arith, is, one)

pub services-kept : (old new : ChannelValue) (snap : ShownSnap) (entries : List NumberedEntry)
    → new.trace ≡ option_map (λ (snaps : List ShownSnap). snaps ++ snap ∷ []) old.trace
    → Counted snap.nodes entries old.table new.table → KeepsServices old new
services-kept old new snap entries traced counted = record {
  trace = ap is_some traced
      ∙ is_some-mapped (λ (snaps : List ShownSnap). snaps ++ snap ∷ []) old.trace;
  shape = shape-kept old.table new.table snap.nodes entries counted;
  few = few-more old.table new.table snap.nodes entries counted;
}

-- ---- what a moment shows

-- a channel without the timer needs no readings
pub shows-timed : {N : Type 0} (is_node : N → List (Opened Variant) → Type 0) (script : Script)
    (m : Moment N) (s : Sight) (timed : Bool) → (timed ≡ true → m.timed ≡ true)
    → Shows is_node script m s → Shows is_node script (record {
      board = m.board;
      readings = m.readings;
      process = m.process;
      reading = m.reading;
      previous = m.previous;
      timed = timed;
    }) s
shows-timed is_node script m s timed both h = record {
  mine = h.mine;
  process = h.process;
  readings = λ is. h.readings (both is);
  reading = h.reading;
  previous = h.previous;
}
