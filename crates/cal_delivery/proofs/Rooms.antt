-- The rows of a channel's table are within the limits of numbers.
use Rattle.std.proofs.Common.{◌≤◌, ◌^◌, Bool, List, [], ◌∷◌, ◌++◌, length, filter, get_or, sym}
use Rattle.std.proofs.Common.{subst, arith}
use Rattle.std.specs.List.{All, AllByRecursion, list_any}
use Rattle.std.proofs.lemmas.List.Elements.{All-filter, All-from_recursion, filter_passes}
use Rattle.std.proofs.lemmas.List.Elements.{recursion_from_All}
use Rattle.std.proofs.lemmas.List.Sums.{count_by-le-length, length-filter}
use Rattle.cal_agg.specs.Numbers.{IsWithin}
use Rattle.cal_agg.specs.declared.row.AggRow.{AggRow}
use Rattle.cal_keys.specs.Groups.{is_group}
use Rattle.cal_filter.specs.Named.{HasSmallNumbers}
use Rattle.cal_groups.specs.ContextRows.{HasRoom}
use Rattle.cal_profile.proofs.Lists.{all-filter, all_weaker}
use Rattle.cal_profile.specs.TableRows.{AreRowsOf, IsRowOf, KeyedRow, table_key}
use Rattle.cal_rowset.specs.Texts.{is_same}
use Rattle.cal_script.specs.declared.script.ChannelQuery.{ChannelQuery}
use Rattle.cal_value.specs.ExactOrder.{exact_decides}
use Rattle.cal_value.specs.Flat.{flat, joined}
use Rattle.cal_value.specs.OrderLaws.{group_exact}
use Rattle.cal_value.specs.Reading.{IsSmall}
use Rattle.cal_value.specs.declared.attribute.Entry.{Entry}
use Rattle.cal_value.specs.declared.record.Rec.{Rec}

-- a list and one that keeps some of its items, behind the same front
all-behind : {A : Type 0} (P : A → Type 0) (test : A → Bool) (front xs : List A)
    → AllByRecursion P (front ++ xs) → AllByRecursion P (front ++ filter test xs)
all-behind P test [] xs all = all-filter P test xs all
all-behind P test (x ∷ front) xs all = (all.0, all-behind P test front xs all.1)

module _ (channel : ChannelQuery) where
  -- the numbers of a record's key are some of its numbers
  key_small : (m : Rec) → HasSmallNumbers m → HasSmallNumbers (table_key channel m)
  key_small m small = All-from_recursion (λ (e : Entry). IsSmall e.value)
      (flat (table_key channel m))
      (all-behind (λ (e : Entry). IsSmall e.value)
      (λ (e : Entry). list_any (is_same e.attr.name) channel.keys) (joined m.paths) m.imms
      (recursion_from_All (λ (e : Entry). IsSmall e.value) (flat m) small))

  module _ (recs : List Rec) (few : length recs ≤ 2 ^ 20) (small : All HasSmallNumbers recs) where
    row_room : (row : KeyedRow) → IsRowOf channel recs row → HasRoom row
    row_room row is =
        let has_key : Rec → Bool = λ m. is_group (table_key channel m) row.key in
        let one : Rec = get_or (filter has_key recs) 0 row.key in
        let same = (exact_decides group_exact (table_key channel one) row.key).0
        (filter_passes has_key recs 0 row.key is.some) in
        let many = length-filter has_key recs in
        let less = count_by-le-length has_key recs in
        record {
          count = subst (λ (held : AggRow). IsWithin 40 held.count) (sym is.held)
              (omega (arith, many, less, few));
          numbers = subst HasSmallNumbers same
              (key_small one (All-filter has_key HasSmallNumbers recs small 0 row.key is.some));
        }

    pub rows_room : (keyed : List KeyedRow) → AreRowsOf channel recs keyed → All HasRoom keyed
    rows_room keyed are = All-from_recursion HasRoom keyed
        (all_weaker (IsRowOf channel recs) HasRoom row_room keyed are.each)
