-- A query without a clause answers the rows themselves.
use Rattle.std.proofs.Common.{◌≡◌, ℕ, true, List, [], ◌∷◌, Option, Some, None, refl, sym, ap, ◌∙◌}
use Rattle.std.specs.List.{filter_map}
use Rattle.cal_engine.specs.Sorting.{put_in, row_cmp, sorted_rows}
use Rattle.cal_ql.specs.declared.names.Format as formats
use Rattle.cal_ql.specs.declared.names.Format.TheVariants as format
use Rattle.cal_ql.specs.declared.query.Agg.{Agg}
use Rattle.cal_ql.specs.declared.query.Cond.{Cond}
use Rattle.cal_ql.specs.declared.query.Item.{Item}
use Rattle.cal_ql.specs.declared.query.Let.{Let}
use Rattle.cal_ql.specs.declared.query.OrderKey.{OrderKey}
use Rattle.cal_ql.specs.declared.query.Query.{Query}
use Rattle.cal_tabfmt.specs.Expand.{expand_lines}
use Rattle.cal_value.specs.declared.record.Rec.{Rec}
use Rattle.cal_query.specs.Layout.{answer_text}
use Rattle.cal_query.specs.Plain.{is_plain}

-- without a condition each row is kept
all_kept : (rows : List Rec) → filter_map (λ r. Some r) rows ≡ rows
all_kept [] = refl
all_kept (r ∷ rows) = ap (λ (rs : List Rec). r ∷ rs) (all_kept rows)

-- without a key rows stay in their order
put_first : (r : Rec) (rows : List Rec) → put_in (row_cmp []) r rows ≡ r ∷ rows
put_first r [] = refl
put_first r (row ∷ rows) = refl

unordered : (rows : List Rec) → sorted_rows [] rows ≡ rows
unordered [] = refl
unordered (r ∷ rows) = ap (put_in (row_cmp []) r) (unordered rows) ∙ put_first r rows

abbrev query : List Let → Option (List Item) → List Agg → List Cond → Option (List (List ℕ))
    → List OrderKey → formats.Format → Query
query ls select aggs cs group keys f = record {
  lets = ls;
  select = select;
  aggs = aggs;
  conds = cs;
  group = group;
  order = keys;
  format = f;
}

pub plain_answer : (q : Query) (rows : List Rec) → is_plain q ≡ true
    → expand_lines None rows ≡ answer_text q rows
plain_answer q rows plain =
    by q.lets q.select q.aggs q.conds q.group q.order q.format plain
  where
    by : (ls : List Let) (select : Option (List Item)) (aggs : List Agg) (cs : List Cond)
        (group : Option (List (List ℕ))) (keys : List OrderKey) (f : formats.Format)
        → is_plain (query ls select aggs cs group keys f) ≡ true
        → expand_lines None rows ≡ answer_text (query ls select aggs cs group keys f) rows
    by [] None [] [] None [] format.Expand e =
        ap (expand_lines None) (sym (ap (sorted_rows []) (all_kept rows) ∙ unordered rows))
    by (l ∷ ls) select aggs cs group keys f e = absurd cc
    by [] (Some items) aggs cs group keys f e = absurd cc
    by [] None (agg ∷ aggs) cs group keys f e = absurd cc
    by [] None [] (c ∷ cs) group keys f e = absurd cc
    by [] None [] [] (Some names) keys f e = absurd cc
    by [] None [] [] None (key ∷ keys) f e = absurd cc
    by [] None [] [] None [] format.Table e = absurd cc
    by [] None [] [] None [] format.Tree e = absurd cc
    by [] None [] [] None [] format.Json e = absurd cc
