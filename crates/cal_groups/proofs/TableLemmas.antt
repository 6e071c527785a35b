-- Tables one behind another: the rows of each mean keyed ones.
use Rattle.std.proofs.Common.{◌≡◌, ℕ, ◌+◌, ◌<◌, ◌≤◌, List, [], length, map, take, get_or}
use Rattle.std.proofs.Common.{Option, subst, sym, arith}
use Rattle.std.specs.List.{All, AllZip}
use Rattle.std.proofs.lemmas.List.{take_all}
use Rattle.std.proofs.lemmas.List.Elements.{All-weaker}
use Rattle.cal_context.specs.Taking.{TakesMore}
use Rattle.cal_context.specs.Tree.{Grows, Tree}
use Rattle.cal_context.specs.declared.numbers.NodeNumber.{NodeNumber}
use Rattle.cal_filter.proofs.Zips.{get_or-inside, zip_at, zip_length, zip_weaker}
use Rattle.cal_groups.proofs.RowLemmas.{may_take-Grows, rows-Grows}
use Rattle.cal_groups.specs.ContextRows.{MayTakeTable, TableMeans, records_of}
use Rattle.cal_profile.specs.TableRows.{KeyedRow, row_record}
use Rattle.cal_records.proofs.TakingLemmas.{taken-more}
use Rattle.cal_script.specs.declared.script.ChannelQuery.{ChannelQuery}
use Rattle.cal_table.specs.Tables.{TableValue}
use Rattle.cal_value.specs.declared.record.Rec.{Rec}

-- tables mean the same while the context grows
module _ {old new : Tree} (grows : Grows old new) (nodes : List (Option NodeNumber))
    (tables : List TableValue) where
  pub tables-Grows : (keyed : List (List KeyedRow)) → AllZip (TableMeans nodes old) tables keyed
      → AllZip (TableMeans nodes new) tables keyed
  tables-Grows keyed h = zip_weaker (TableMeans nodes old) (TableMeans nodes new)
      (λ (table : TableValue) (rows : List KeyedRow). rows-Grows grows nodes table.rows rows)
      tables keyed h

  pub may_take_tables-Grows : All (MayTakeTable nodes old) tables
      → All (MayTakeTable nodes new) tables
  may_take_tables-Grows h = All-weaker (MayTakeTable nodes old) (MayTakeTable nodes new)
      (λ (table : TableValue). may_take-Grows grows nodes table.rows) tables h

module _ (nodes : List (Option NodeNumber)) (t : Tree) (channel : ChannelQuery)
    (tables : List TableValue) (keyed : List (List KeyedRow))
    (means : AllZip (TableMeans nodes t) tables keyed) where
  -- the records in place of the rows so far were taken, and so were those of the next table
  pub table_taken : (had then has : List Rec → Type 0) (i : ℕ) (table : TableValue)
      → i < length tables → table ≡ get_or tables i table
      → TakesMore had then (records_of channel (take i keyed))
      → ((rows : List KeyedRow) → TableMeans nodes t table rows
      → TakesMore then has (map (row_record channel) rows))
      → TakesMore had has (records_of channel (take (i + 1) keyed))
  table_taken had then has i table less is so_far next =
      let long = zip_length (TableMeans nodes t) tables keyed means in
      let short : i < length keyed = omega (arith, long, less) in
      let rows = get_or keyed i [] in
      let here = subst (λ (x : TableValue). TableMeans nodes t x rows) (sym is)
      (zip_at (TableMeans nodes t) tables keyed i table [] means short) in
      taken-more (λ (rs : List KeyedRow). map (row_record channel) rs) had then has keyed i rows
      short (get_or-inside keyed i [] rows short) so_far (next rows here)

  -- behind the last table these are all
  pub all_taken : (had has : List Rec → Type 0) (i : ℕ) → length tables ≤ i
      → TakesMore had has (records_of channel (take i keyed))
      → TakesMore had has (records_of channel keyed)
  all_taken had has i all taken =
      let long = zip_length (TableMeans nodes t) tables keyed means in
      subst (λ (k : List (List KeyedRow)). TakesMore had has (records_of channel k))
      (take_all i keyed (omega (arith, long, all))) taken
