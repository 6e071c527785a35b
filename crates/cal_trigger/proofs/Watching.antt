-- Conditions in front of those of WHERE keep what a trigger lets through.
use Rattle.std.proofs.Common.{◌≡◌, ℕ, Bool, true, false, ◌&&◌, if◌then◌else◌, List, [], ◌∷◌, ◌++◌}
use Rattle.std.proofs.Common.{Option, None, Some, refl, ap, sym, ◌∙◌}
use Rattle.std.specs.List.{cons_option, filter_map}
use Rattle.std.proofs.lemmas.List.Folds.{list_all-append}
use Rattle.cal_filter.specs.Conditions.{cond_holds, where_holds}
use Rattle.cal_filter.specs.Kept.{kept, with_lets}
use Rattle.cal_ql.specs.declared.query.Cond.{Cond}
use Rattle.cal_ql.specs.declared.query.Item.{Item}
use Rattle.cal_ql.specs.declared.query.Query.{Query}
use Rattle.cal_value.specs.declared.record.Rec.{Rec}
use Rattle.cal_engine.specs.Answers.{answer_of, answer_over, columns_of, columns_without_list}
use Rattle.cal_engine.specs.Rows.{rows_of}
use Rattle.cal_engine.specs.Sorting.{sorted_rows}
use Rattle.cal_trigger.specs.Watching.{let_through, with_conditions}

module _ (cs : List Cond) (q : Query) where
  -- conditions change no column
  columns_unlisted : (names : Option (List (List ℕ))) (rows : List Rec)
      → columns_without_list q names rows
      ≡ columns_without_list (with_conditions cs q) names rows
  columns_unlisted (Some names) rows = refl
  columns_unlisted None rows = refl

  columns_same : (items : Option (List Item)) (rows : List Rec)
      → columns_of q items rows ≡ columns_of (with_conditions cs q) items rows
  columns_same (Some items) rows = refl
  columns_same None rows = columns_unlisted q.group rows

  -- nor anything else of the answer over the same kept records
  over_same : (ks : List Rec) → answer_over q ks ≡ answer_over (with_conditions cs q) ks
  over_same ks = λ i. record {
    rows = (answer_over q ks).rows;
    columns = columns_same q.select (sorted_rows q.order (rows_of q ks)) i;
    all = (answer_over q ks).all;
  }

  module _ (bare : q.lets ≡ []) where
    kept_bare : (conds : List Cond) (r : Rec)
        → (if where_holds conds (with_lets q.lets r) then Some (with_lets q.lets r) else None)
        ≡ (if where_holds conds r then Some r else None)
    kept_bare conds r =
        ap (λ ls. if where_holds conds (with_lets ls r) then Some (with_lets ls r) else None) bare

    both : (b c : Bool) (r : Rec) → (if b && c then Some r else None)
        ≡ (if b then (if c then Some r else None) else None)
    both true c r = refl
    both false c r = refl

    -- without LET a record is kept where the trigger lets it through and the query keeps it
    kept_both : (r : Rec)
        → kept (with_conditions cs q) r ≡ (if where_holds cs r then kept q r else None)
    kept_both r =
        kept_bare (cs ++ q.conds) r
        ∙ ap (λ b. if b then Some r else None) (list_all-append (λ c. cond_holds c r) cs q.conds)
        ∙ both (where_holds cs r) (where_holds q.conds r) r
        ∙ ap (λ k. if where_holds cs r then k else None) (sym (kept_bare q.conds r))

    one_more : (r : Rec) (rest kept_rest : List Rec) (b : Bool)
        → filter_map (kept q) rest ≡ kept_rest
        → filter_map (kept q) (if b then r ∷ rest else rest)
        ≡ cons_option (if b then kept q r else None) kept_rest
    one_more r rest kept_rest true is = ap (cons_option (kept q r)) is
    one_more r rest kept_rest false is = is

    kept_through : (rows : List Rec) → filter_map (kept q) (let_through cs rows)
        ≡ filter_map (kept (with_conditions cs q)) rows
    kept_through [] = refl
    kept_through (r ∷ rows) =
        one_more r (let_through cs rows) _ (where_holds cs r) (kept_through rows)
        ∙ ap (λ k. cons_option k (filter_map (kept (with_conditions cs q)) rows))
        (sym (kept_both r))

    pub answers_through : (rows : List Rec)
        → answer_of q (let_through cs rows) ≡ answer_of (with_conditions cs q) rows
    answers_through rows =
        ap (answer_over q) (kept_through rows)
        ∙ over_same (filter_map (kept (with_conditions cs q)) rows)
