-- The row of one group.
use Rattle.std.proofs.Common.{◌≡◌, ℕ, ◌<◌, true, if◌then◌else◌, List, [], length, map, get_or, sym, ap, ◌∙◌, arith}
use Rattle.std.specs.List.{filter_map}
use Rattle.std.proofs.lemmas.List.{get_or-map, length-map}
use Rattle.cal_context.specs.Tree.{Tree, Grows}
use Rattle.cal_filter.specs.Kept.{kept}
use Rattle.cal_ql.specs.declared.query.Agg.{Agg}
use Rattle.cal_ql.specs.declared.query.Query.{Query}
use Rattle.cal_rowset.specs.Answers.{nth_row}
use Rattle.cal_value.specs.declared.record.Rec.{Rec}
use Rattle.cal_engine.specs.Answers.{answer_of}
use Rattle.cal_engine.specs.Finishing.{AreGroupParts, AreKept, GroupLists, entries_of_results, lists_at, row_with, rows_by}
use Rattle.cal_engine.specs.FoldGrows.{grouped_in-Grows}
use Rattle.cal_keys.specs.KeysGrow.{keys-Grows}
use Rattle.cal_keys.specs.Groups.{groups_of}
use Rattle.cal_keys.specs.Keys.{key_in}
use Rattle.cal_engine.specs.Making.{MakesRows, group_count, key_at, room_in}
use Rattle.cal_engine.specs.Numbered.{AreGroups, Numbered}
use Rattle.cal_parts.specs.Parts.{Gathered, parts_over}
use Rattle.cal_engine.specs.Rows.{is_aggregated, row_of, rows_of}
use Rattle.cal_engine.specs.Sorting.{sorted_rows}
use Rattle.cal_engine.specs.declared.grouped_rows.GroupedRows.{GroupedRows}
use Rattle.cal_engine.proofs.Ranking.{sorted_without_keys}

-- groups stay those of their records while their tree grows
pub groups-Grows : {old new : Tree} → Grows old new → (q : Query) (rs : List Rec) (g : Numbered)
    → AreGroups old q rs g → AreGroups new q rs g
groups-Grows grows q rs g h = record {
  keys = keys-Grows grows g.keys h.keys;
  groups = grouped_in-Grows grows g h.keys ∙ h.groups;
}

-- what is kept for the group of a number
pub kept_there : (aggs : List Agg) (g : GroupLists) (keys : List Rec) (parts : List (List Gathered))
    (all : List Gathered) (below : List (List Gathered)) (n : ℕ) (key : Rec)
    → AreGroupParts aggs g keys parts all below → n < length keys → key ≡ get_or keys n key
    → AreKept aggs (lists_at g key) (get_or parts n []) all (get_or below n [])
kept_there aggs g keys parts all below n key are l e = record {
  own = ap (λ ps. get_or ps n []) are.own
      ∙ get_or-map (λ k. parts_over aggs (g.own k)) keys n key [] l
      ∙ ap (λ k. parts_over aggs (g.own k)) (sym e);
  all = are.all;
  below = ap (λ ps. get_or ps n []) are.below
      ∙ get_or-map (λ k. parts_over aggs (g.below k)) keys n key [] l
      ∙ ap (λ k. parts_over aggs (g.below k)) (sym e);
}

-- its row is that of its number
pub row_there : (aggs : List Agg) (g : GroupLists) (keys rows : List Rec) (n : ℕ) (key : Rec)
    → rows ≡ rows_by aggs g keys → n < length keys → key ≡ get_or keys n key
    → row_with key (entries_of_results aggs (lists_at g key)) ≡ nth_row rows n
row_there aggs g keys rows n key are l e =
    ap (λ k. row_with k (entries_of_results aggs (lists_at g k))) e
    ∙ sym (ap (λ rs. nth_row rs n) are
    ∙ get_or-map (λ k. row_with k (entries_of_results aggs (lists_at g k))) keys n key _ l)

-- the rows of groups that aren't ordered are those of the answer
pub unordered_rows : (q : Query) (rs : List Rec) → is_aggregated q ≡ true → q.order ≡ []
    → map (row_of q (filter_map (kept q) rs)) (groups_of q.group (filter_map (kept q) rs)) ≡ (answer_of q rs).rows.rows
unordered_rows q rs agg none =
    let ks = filter_map (kept q) rs in
    sym (ap (λ b. if b then map (row_of q ks) (groups_of q.group ks) else ks) agg)
    ∙ sorted_without_keys (rows_of q ks)
    ∙ ap (λ keys. sorted_rows keys (rows_of q ks)) (sym none)

-- there are as many rows as groups
pub made-counted : (t : Tree) (aggs : List Agg) (g : GroupedRows) (rows : List Rec)
    → MakesRows t aggs g rows → group_count g ≡ length rows
made-counted t aggs g rows h =
    sym (ap length h.are
    ∙ length-map (map (key_in (room_in t g)) g.groups.keys)
    (λ k. row_with k (entries_of_results aggs (lists_at h.lists k)))
    ∙ length-map g.groups.keys (key_in (room_in t g)))

-- the row of a number is that of its key
pub made-row : (t : Tree) (aggs : List Agg) (g : GroupedRows) (rows : List Rec)
    (h : MakesRows t aggs g rows) (n : ℕ) → n < length rows
    → nth_row rows n ≡ row_with (key_in (room_in t g) (key_at g n))
    (entries_of_results aggs (lists_at h.lists (key_in (room_in t g) (key_at g n))))
made-row t aggs g rows h n within =
    let f = key_in (room_in t g) in
    let keys = g.groups.keys in
    let row = λ (k : Rec). row_with k (entries_of_results aggs (lists_at h.lists k)) in
    let counted = made-counted t aggs g rows h in
    let below : n < length keys = omega (arith, within, counted) in
    let there : n < length (map f keys) = omega (arith, below, length-map keys f) in
    ap (λ rs. nth_row rs n) h.are
    ∙ get_or-map row (map f keys) n (f (key_at g n)) _ there
    ∙ ap row (get_or-map f keys n _ (f (key_at g n)) below)
