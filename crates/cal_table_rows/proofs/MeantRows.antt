-- The rows of a table whose snapshots mean records mean the rows of a channel's table of these.
use Rattle.std.proofs.Common.{◌≡◌, ◌<◌, ◌||◌, Bool, true, false, List, [], ◌∷◌, length, map, refl}
use Rattle.std.proofs.Common.{sym, ap, ◌∙◌, subst, arith, Contains, filter}
use Rattle.std.specs.List.{AllByRecursion, AllZip, IsDistinct, list_any}
use Rattle.std.proofs.lemmas.Slice.Zip.{AllZip-long}
use Rattle.std.specs.declared.random_state.RandomState.{RandomState}
use Rattle.cal_agg.specs.declared.row.AggRow.{AggRow}
use Rattle.cal_channel.specs.Channels.{Counts}
use Rattle.cal_keys.specs.Groups.{is_group}
use Rattle.cal_once.specs.declared.seat.RowSeat.{RowSeat}
use Rattle.cal_profile.specs.TableRows.{IsRowOf, KeyedRow, table_key, with_key}
use Rattle.cal_script.specs.declared.script.ChannelQuery.{ChannelQuery}
use Rattle.cal_script.specs.declared.script.Script.{Script}
use Rattle.cal_snap.specs.declared.numbered.NumberedSnap.{NumberedSnap}
use Rattle.cal_table.proofs.Standing.{StandsFor-tally}
use Rattle.cal_table.specs.Rows.{Row, tally}
use Rattle.cal_table.specs.Snapshots.{StandsFor, held_of_keys, held_over, key_of, some_held}
use Rattle.cal_table.specs.Tables.{TableValue}
use Rattle.cal_table.specs.declared.key.TableKey.{TableKey}
use Rattle.cal_table_rows.proofs.Counted.{IsOf, held_alike, key_alike, shape}
use Rattle.cal_table_rows.proofs.Holding.{come_to, found_row, keys_apart, keys_back, keys_of}
use Rattle.cal_table_rows.proofs.Holding.{own_row, some_come}
use Rattle.cal_table_rows.proofs.Keys.{same_key, same_key-decides}
use Rattle.cal_table_rows.proofs.OneMeaning.{KeyMeans, one_record, tested_alike}
use Rattle.cal_table_rows.proofs.Zips.{AllZip-filter, chosen, each_right, first_passing, kept_some}
use Rattle.cal_table_rows.specs.Meanings.{HasRows, MeanRowsOf, NamesAreApart, RowMeans}
use Rattle.cal_tree.specs.Seats.{IsTreeSeat}
use Rattle.cal_tree.specs.declared.tree.Tree.{Tree}
use Rattle.cal_value.specs.declared.attribute.Attribute.{Attribute}
use Rattle.cal_value.specs.declared.record.Rec.{Rec}
use Rattle.cal_words.specs.declared.sort.NodeSort.{NodeSort}

abbrev pub records_of : List KeyedRow → List Rec
records_of keyed = map (λ (row : KeyedRow). row.key) keyed

module _ (attributes : List Attribute) (script : Script) (tree : Tree) (seat : RowSeat NodeSort)
    (sound : IsTreeSeat tree seat) (apart : NamesAreApart attributes script) where
  abbrev Mean : Row → KeyedRow → Type 0
  Mean = RowMeans attributes script tree seat

  abbrev IsMeant : TableKey → Rec → Type 0
  IsMeant = KeyMeans attributes script tree seat

  -- ---- rows and what they mean

  -- a row means one row
  one_row : (row : Row) (a b : KeyedRow) → Mean row a → Mean row b → a ≡ b
  one_row row a b one other =
      let key = one_record attributes script tree seat sound apart row.key a.key b.key one.key
      other.key in
      let held = one.held ∙ sym other.held in
      λ i. record { key = key i; held = held i }

  -- and so do rows
  pub one_meaning : (rows : List Row) (ones others : List KeyedRow) → AllZip Mean rows ones
      → AllZip Mean rows others → ones ≡ others
  one_meaning [] [] [] one other = refl
  one_meaning [] [] (b ∷ bs) one other = absurd other
  one_meaning [] (a ∷ ls) bs one other = absurd one
  one_meaning (row ∷ rows) [] bs one other = absurd one
  one_meaning (row ∷ rows) (a ∷ ls) [] one other = absurd other
  one_meaning (row ∷ rows) (a ∷ ls) (b ∷ bs) one other =
      let first = one_row row a b one.0 other.0 in
      let rest = one_meaning rows ls bs one.1 other.1 in
      λ i. first i ∷ rest i

  module _ (k : TableKey) (r : Rec) (means : IsMeant k r) where
    -- a key is among those of rows where its record is among theirs
    any_alike : (rows : List Row) (keyed : List KeyedRow) → AllZip Mean rows keyed
        → list_any (same_key k) (keys_of rows) ≡ list_any (is_group r) (records_of keyed)
    any_alike [] [] all = refl
    any_alike [] (m ∷ keyed) all = absurd all
    any_alike (row ∷ rows) [] all = absurd all
    any_alike (row ∷ rows) (m ∷ keyed) all =
        let first = tested_alike attributes script tree seat sound apart k row.key r m.key means
        all.0.key in
        let rest = any_alike rows keyed all.1 in
        λ i. first i || rest i

    none_alike : (rows : List Row) (keyed : List KeyedRow) → AllZip Mean rows keyed
        → AllByRecursion (λ l. same_key k l ≡ false) (keys_of rows)
        → AllByRecursion (λ s. is_group r s ≡ false) (records_of keyed)
    none_alike [] [] all none = tt
    none_alike [] (m ∷ keyed) all none = absurd all
    none_alike (row ∷ rows) [] all none = absurd all
    none_alike (row ∷ rows) (m ∷ keyed) all none = (
      sym (tested_alike attributes script tree seat sound apart k row.key r m.key means all.0.key)
          ∙ none.0,
      none_alike rows keyed all.1 none.1,
    )

  -- keys that are apart mean records that are apart
  records_apart : (rows : List Row) (keyed : List KeyedRow) → AllZip Mean rows keyed
      → IsDistinct same_key (keys_of rows) → IsDistinct is_group (records_of keyed)
  unfolding IsDistinct
  records_apart [] [] all once = tt
  records_apart [] (m ∷ keyed) all once = absurd all
  records_apart (row ∷ rows) [] all once = absurd all
  records_apart (row ∷ rows) (m ∷ keyed) all once = (
    none_alike row.key m.key all.0.key rows keyed all.1 once.0,
    records_apart rows keyed all.1 once.1,
  )

  -- ---- rows of a table that stands for snapshots

  module _ (channel : ChannelQuery) (hashers : RandomState) (snaps : List NumberedSnap)
      (recs : List Rec)
      (all : AllZip (IsOf attributes script tree seat channel hashers) snaps recs)
      (table : TableValue)
      (shaped : table.shape ≡ shape attributes script tree seat channel hashers)
      (stands : StandsFor snaps table) (once : IsDistinct same_key (keys_of table.rows)) where
    abbrev IsSnap : NumberedSnap → Rec → Type 0
    IsSnap = IsOf attributes script tree seat channel hashers

    abbrev snap_key : NumberedSnap → TableKey
    snap_key snap = key_of (shape attributes script tree seat channel hashers) snap

    abbrev come : List NumberedSnap → AggRow
    come ss = held_over (shape attributes script tree seat channel hashers) ss

    -- what the rows hold whose keys are asked for
    holds : (asked : TableKey → Bool) → tally asked table.rows
        ≡ some_held (shape attributes script tree seat channel hashers)
        (filter (λ s. asked (snap_key s)) snaps)
    holds asked = StandsFor-tally snaps table stands asked
        ∙ ap (λ s. held_of_keys s asked snaps) shaped

    key_means : (s : NumberedSnap) (m : Rec) → IsSnap s m
        → IsMeant (snap_key s) (table_key channel m)
    key_means = key_alike attributes script tree seat channel hashers

    -- the snapshots with the key of a row
    abbrev with_row : Row → NumberedSnap → Bool
    with_row row s = same_key (snap_key s) row.key

    -- a row holds what they come to
    record Holds (row : Row) : Type 0 where
      some : 0 < length (filter (with_row row) snaps)
      held : row.held ≡ come (filter (with_row row) snaps)

    row_holds : (row : Row) → Contains table.rows row → Holds row
    row_holds row there =
        let h = come_to (shape attributes script tree seat channel hashers)
        (filter (with_row row) snaps) row.held
        (sym (holds (λ k. same_key k row.key)) ∙ own_row table.rows once row there) in
        record { some = h.some; held = h.all }

    -- so it means a row
    row_meant : (row : Row) → Contains table.rows row → (keyed : KeyedRow) × Mean row keyed
    row_meant row there =
        let h = first_passing IsSnap (with_row row) snaps recs all (row_holds row there).some in
        let same = (same_key-decides (snap_key h.left) row.key).0 h.passes in (
          record { key = table_key channel h.right; held = row.held },
          record {
            key = subst (λ k. IsMeant k (table_key channel h.right)) same
                (key_means h.left h.right h.goes);
            held = refl;
          },
        )

    -- which is a row of the records
    row_of_records : (row : Row) (keyed : KeyedRow) → Contains table.rows row → Mean row keyed
        → IsRowOf channel recs keyed
    row_of_records row keyed there means =
        let h = row_holds row there in
        let some = h.some in
        let zip = AllZip-filter IsSnap (with_row row)
        (λ m. is_group (table_key channel m) keyed.key)
        (λ s m goes. tested_alike attributes script tree seat sound apart (snap_key s) row.key
        (table_key channel m) keyed.key (key_means s m goes) means.key) snaps recs all in
        let long = AllZip-long IsSnap (filter (with_row row) snaps)
        (with_key channel keyed.key recs) zip in
        record {
          some = omega (arith, some, long);
          held = means.held ∙ h.held ∙ held_alike attributes script tree seat channel hashers
              (filter (with_row row) snaps) (with_key channel keyed.key recs) zip;
        }

    -- a snapshot's key is among those of the rows
    snap_there : (s : NumberedSnap) → Contains snaps s
        → list_any (same_key (snap_key s)) (keys_of table.rows) ≡ true
    snap_there s there = found_row (same_key (snap_key s)) table.rows
        (come (filter (λ t. same_key (snap_key s) (snap_key t)) snaps))
        (holds (same_key (snap_key s))
        ∙ some_come (shape attributes script tree seat channel hashers)
        (filter (λ t. same_key (snap_key s) (snap_key t)) snaps)
        (kept_some (λ t. same_key (snap_key s) (snap_key t)) snaps s there
        ((same_key-decides (snap_key s) (snap_key s)).1 refl)))

    pub rows_meant : MeanRowsOf attributes script tree seat channel recs table.rows
    rows_meant =
        let keyed = chosen Mean table.rows row_meant in
        record {
          keyed = keyed.items;
          mean = keyed.zip;
          are = record {
            once = records_apart table.rows keyed.items keyed.zip once;
            all = each_right IsSnap
                (λ m. list_any (is_group (table_key channel m)) (records_of keyed.items) ≡ true)
                snaps recs all (λ s m there goes.
                sym (any_alike (snap_key s) (table_key channel m) (key_means s m goes) table.rows
                keyed.items keyed.zip)
                ∙ snap_there s there);
            each = each_right Mean (IsRowOf channel recs) table.rows keyed.items keyed.zip
                row_of_records;
          };
        }

-- The rows of a table mean those of the channel's table of the records that it counts.
pub counted_rows : (attributes : List Attribute) (script : Script) (tree : Tree)
    (seat : RowSeat NodeSort) (channel : ChannelQuery) (hashers : RandomState) (table : TableValue)
    (keys : List TableKey) (held : List AggRow) (recs : List Rec)
    → IsTreeSeat tree seat → NamesAreApart attributes script
    → table.shape ≡ shape attributes script tree seat channel hashers
    → HasRows table keys held → Counts attributes script tree seat table recs
    → MeanRowsOf attributes script tree seat channel recs table.rows
counted_rows attributes script tree seat channel hashers table keys held recs sound apart shaped has
    counts = rows_meant attributes script tree seat sound apart channel hashers counts.snaps recs
    counts.means table shaped counts.stands
    (subst (IsDistinct same_key)
    (sym (keys_back keys held has.long) ∙ ap keys_of has.rows) (keys_apart keys has.once))
