-- The rows of an aggregating channel's tables in a context, and the groups that they come to.
use Rattle.std.proofs.Common.{◌≡◌, ◌<◌, ◌≤◌, ◌^◌, ℕ, true, List, [], ◌∷◌, ◌++◌, length, map, get_or}
use Rattle.std.proofs.Common.{Option, sym, subst, arith}
use Rattle.std.specs.List.{All, AllZip, flat_map}
use Rattle.std.specs.List.Sorted.{IsPermutation}
use Rattle.std.proofs.lemmas.List.Sorted.{All-permutation, IsPermutation-sym, length_permutation}
use Rattle.cal_agg.specs.declared.row.AggRow.{AggRow}
use Rattle.cal_channel.specs.Channels.{Counts}
use Rattle.cal_channel.specs.Values.{ChannelValue}
use Rattle.cal_context.proofs.ListLemmas.{IsFront-trans}
use Rattle.cal_context.specs.Lists.{IsFront}
use Rattle.cal_context.specs.Taking.{TakesMore}
use Rattle.cal_context.specs.Tree as contexts
use Rattle.cal_context.specs.declared.numbers.NodeNumber.{NodeNumber}
use Rattle.cal_delivery.proofs.KeyNumbers.{each_list, list_within}
use Rattle.cal_delivery.proofs.KeyedRows.{keys_can, rows_mean}
use Rattle.cal_delivery.proofs.OneChannel.{script_named}
use Rattle.cal_delivery.proofs.Rooms.{rows_room}
use Rattle.cal_delivery.specs.KeyNodes.{CanNumberTable, IsTableNumbered}
use Rattle.cal_delivery.specs.OneChannel.{IsTakenIn}
use Rattle.cal_delivery.specs.Taken.{HasTables}
use Rattle.cal_filter.proofs.Zips.{zip_at, zip_from, zip_length}
use Rattle.cal_filter.specs.Named.{HasSmallNumbers}
use Rattle.cal_groups.specs.ContextRows as context_rows
use Rattle.cal_groups.specs.ContextRows.{HasRoom, MayTakeTable, TableMeans, records_of}
use Rattle.cal_nodes.specs.Numbers.{AreNumbered}
use Rattle.cal_once.specs.Seats.{view}
use Rattle.cal_once.specs.Views.{KnowsMore}
use Rattle.cal_once.specs.declared.seat.RowSeat.{RowSeat}
use Rattle.cal_profile.specs.Declared.{IsTrace}
use Rattle.cal_profile.specs.Groups.{channel_query, group_records}
use Rattle.cal_profile.specs.TableRows.{AreRowsOf, KeyedRow}
use Rattle.cal_script.specs.declared.script.Channel.{Channel}
use Rattle.cal_script.specs.declared.script.ChannelQuery.{ChannelQuery}
use Rattle.cal_script.specs.declared.script.Script.{Script}
use Rattle.cal_table.specs.Rows.{Row, rows_of}
use Rattle.cal_table.specs.Shapes.{shape_of}
use Rattle.cal_table.specs.Tables.{TableValue}
use Rattle.cal_table.specs.declared.key.TableKey.{TableKey}
use Rattle.cal_table_rows.proofs.MeantRows.{counted_rows}
use Rattle.cal_table_rows.specs.Meanings.{HasRows, MeanRowsOf, RowMeans}
use Rattle.cal_table_rows.specs.PartSums.{HasPartSums}
use Rattle.cal_tree.specs.Seats.{IsTreeSeat}
use Rattle.cal_tree.specs.declared.tree.Tree.{Tree}
use Rattle.cal_value.specs.declared.attribute.Attribute.{Attribute}
use Rattle.cal_value.specs.declared.record.Rec.{Rec}
use Rattle.cal_words.specs.declared.sort.NodeSort.{NodeSort}

-- the law of tables that count records together
abbrev pub HaveTheGroups : Type 0
HaveTheGroups = (attributes : List Attribute) (channel : ChannelQuery) (trace : List Rec)
    (parts : List (List Rec)) (keyed : List (List KeyedRow))
    → IsTrace attributes channel trace → HasPartSums channel trace
    → IsPermutation (flat_map (λ (part : List Rec). part) parts) trace
    → AllZip (AreRowsOf channel) parts keyed
    → group_records (channel_query channel) (records_of channel keyed)
    ≡ group_records (channel_query channel) trace

-- items that go with those of two lists
record Between {A B C : Type 0} (R : A → C → Type 0) (S : B → C → Type 0) (xs : List A)
    (ys : List B) : Type 0 where
  pub items : List C
  pub left : AllZip R xs items
  pub right : AllZip S ys items

-- there are such where there is one for each pair
between : {A B C : Type 0} (T : A → B → Type 0) (R : A → C → Type 0) (S : B → C → Type 0)
    → ((x : A) (y : B) → T x y → (z : C) × R x z × S y z) → (xs : List A) (ys : List B)
    → AllZip T xs ys → Between R S xs ys
between T R S one [] [] h = record { items = []; left = tt; right = tt }
between T R S one [] (y ∷ ys) h = absurd h
between T R S one (x ∷ xs) [] h = absurd h
between T R S one (x ∷ xs) (y ∷ ys) h =
    let this = one x y h.0 in
    let rest = between T R S one xs ys h.1 in
    record {
      items = this.0 ∷ rest.items;
      left = (this.1, rest.left);
      right = (this.2, rest.right);
    }

module _ (context : contexts.Tree) (script : Script) (tree : Tree) (seat : RowSeat NodeSort)
    (sound : IsTreeSeat tree seat) (channel : Channel) (kept : List ChannelValue)
    (tables : List TableValue) (recs : List Rec)
    (h : IsTakenIn context script tree seat channel kept tables recs)
    (on : channel.aggregate ≡ true) where
  counted : HasTables h.attributes script tree seat channel tables recs
  counted = h.taken.counted on

  -- a table has the channel's shape, and counts a part of the records, which is within their limits
  record CountsPart (table : TableValue) (part : List Rec) : Type 0 where
    shape : table.shape
        ≡ shape_of counted.hashers channel.query.keys channel.query.values h.attributes
    counts : Counts h.attributes script tree seat table part
    few : length part ≤ 2 ^ 20
    small : All HasSmallNumbers part

  parts_small : All (λ (part : List Rec). All HasSmallNumbers part) counted.counts.parts
  parts_small =
      let parts = counted.counts.parts in
      let all = flat_map (λ (part : List Rec). part) parts in
      each_list (λ (part : List Rec). part) HasSmallNumbers parts
      (All-permutation HasSmallNumbers recs all
      (IsPermutation-sym all recs counted.counts.whole) h.taken.small)

  -- each of them does
  each_part : AllZip CountsPart tables counted.counts.parts
  each_part =
      let parts = counted.counts.parts in
      let counts = Counts h.attributes script tree seat in
      let zip = counted.counts.each in
      let long = zip_length counts tables parts zip in
      zip_from CountsPart tables parts long (λ i d e less.
      let all = flat_map (λ (part : List Rec). part) parts in
      let within : length (get_or parts i e) ≤ length all =
      list_within (λ (part : List Rec). part) parts i e less in
      let same = length_permutation all recs counted.counts.whole in
      let few = h.taken.few in
      record {
        shape = counted.shape i d (omega (arith, long, less));
        counts = zip_at counts tables parts i d e zip less;
        few = omega (arith, within, same, few);
        small = parts_small i e less;
      })

  -- so a table's rows mean those of the channel's table of its part
  module _ (table : TableValue) (part : List Rec) (of : CountsPart table part)
      (keys : List TableKey) (helds : List AggRow) (rows : HasRows table keys helds) where
    meant : MeanRowsOf h.attributes script tree seat channel.query part table.rows
    meant = counted_rows h.attributes script tree seat channel.query counted.hashers table keys
        helds part sound h.apart of.shape rows of.counts

    keyed_rows : AllZip (RowMeans h.attributes script tree seat) (rows_of keys helds) meant.keyed
    keyed_rows = subst
        (λ (rs : List Row). AllZip (RowMeans h.attributes script tree seat) rs meant.keyed)
        (sym rows.rows) meant.mean

  named : IsFront script.attributes context.attributes
  named = script_named context script tree seat channel kept tables recs h

  -- and the nodes of the keys can be numbered
  pub groups_can : All (CanNumberTable tree seat context) tables
  groups_can = λ i table less keys helds rows.
      let parts = counted.counts.parts in
      let long = zip_length CountsPart tables parts each_part in
      let own = get_or tables i table in
      let part = get_or parts i [] in
      let of = zip_at CountsPart tables parts i table [] each_part (omega (arith, long, less)) in
      keys_can h.attributes script tree seat context named keys helds
      (meant own part of keys helds rows).keyed rows.long (keyed_rows own part of keys helds rows)

  -- and with their numbers
  module _ (new : contexts.Tree) (front : IsFront context.attributes new.attributes)
      (now : RowSeat NodeSort) (more : KnowsMore (view seat) (view now))
      (sound_now : IsTreeSeat tree now) (numbers : List (Option NodeNumber))
      (all : AreNumbered tree now new numbers)
      (numbered : All (IsTableNumbered numbers) tables) where
    record IsReady (table : TableValue) (part : List Rec) : Type 0 where
      of : CountsPart table part
      is : IsTableNumbered numbers table

    ready : AllZip IsReady tables counted.counts.parts
    ready =
        let parts = counted.counts.parts in
        let long = zip_length CountsPart tables parts each_part in
        zip_from IsReady tables parts long (λ i d e less. record {
          of = zip_at CountsPart tables parts i d e each_part less;
          is = numbered i d (omega (arith, long, less));
        })

    -- the rows mean these in the context
    record InContext (table : TableValue) (part : List Rec) : Type 0 where
      keyed : List KeyedRow
      means : TableMeans numbers new table keyed
      are : AreRowsOf channel.query part keyed
      room : All HasRoom keyed

    in_context : (table : TableValue) (part : List Rec) → IsReady table part
        → InContext table part
    in_context table part r =
        let keys = r.is.keys in
        let helds = r.is.held in
        let rows = r.is.rows in
        let own = meant table part r.of keys helds rows in
        record {
          keyed = own.keyed;
          means = subst
              (λ (rs : List Row). AllZip (context_rows.RowMeans numbers new) rs own.keyed)
              rows.rows
              (rows_mean h.attributes script tree seat new
              (IsFront-trans script.attributes context.attributes new.attributes named front)
              (IsFront-trans h.attributes context.attributes new.attributes h.numbered front) now
              more sound_now numbers all keys helds own.keyed r.is.numbered
              (keyed_rows table part r.of keys helds rows));
          are = own.are;
          room = rows_room channel.query part r.of.few r.of.small own.keyed own.are;
        }

    -- the rows may be handed over
    pub may_take : All (MayTakeTable numbers new) tables
    may_take = λ i table less.
        let parts = counted.counts.parts in
        let long = zip_length IsReady tables parts ready in
        let own = in_context (get_or tables i table) (get_or parts i [])
        (zip_at IsReady tables parts i table [] ready (omega (arith, long, less))) in
        record { keyed = own.keyed; means = own.means; room = own.room }

    keyed : Between (TableMeans numbers new) (AreRowsOf channel.query) tables
        counted.counts.parts
    keyed = between IsReady (TableMeans numbers new) (AreRowsOf channel.query)
        (λ (table : TableValue) (part : List Rec) (r : IsReady table part).
        let own = in_context table part r in (own.keyed, own.means, own.are)) tables
        counted.counts.parts ready

    -- and whoever took their groups has taken those of the records
    pub groups_taken : HaveTheGroups → (had then has : List Rec → Type 0)
        → ((rs : List Rec) → had rs → then rs)
        → ((rows : List (List KeyedRow)) → AllZip (TableMeans numbers new) tables rows
        → TakesMore then has (group_records (channel_query channel.query)
        (records_of channel.query rows)))
        → TakesMore had has (group_records (channel_query channel.query) recs)
    groups_taken law had then has stays taken rs is = subst
        (λ (gs : List Rec). has (rs ++ gs))
        (law h.taken.known channel.query recs counted.counts.parts keyed.items h.taken.trace
        h.taken.sums counted.counts.whole keyed.right)
        (taken keyed.items keyed.left rs (stays rs is))
