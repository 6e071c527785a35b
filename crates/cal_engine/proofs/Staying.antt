-- What a fold over snapshots has taken stays while the context grows.
use Rattle.std.proofs.Common.{◌≡◌, List, [], ◌∷◌, ◌++◌, Some, None, true, false, Bool, length, refl, sym, ◌∙◌, ap, subst, arith, append-nil, if◌then◌else◌}
use Rattle.std.specs.List.{filter_map}
use Rattle.cal_context.specs.Tree.{Tree}
use Rattle.cal_filter.specs.Filtered.{IsFiltered}
use Rattle.cal_filter.specs.Kept.{kept, with_lets}
use Rattle.cal_filter.specs.Conditions.{where_holds}
use Rattle.cal_ql.specs.declared.query.Let.{Let}
use Rattle.cal_ql.specs.declared.query.Query.{Query}
use Rattle.cal_rowset.specs.NumberedRows.{NumberedRow}
use Rattle.cal_value.specs.declared.record.Rec.{Rec}
use Rattle.cal_engine.specs.Tallies.{Holds}
use Rattle.cal_engine.specs.declared.tally.Tally.{Tally}
use Rattle.cal_engine.proofs.Folds.{kept_more}

-- a record that LET and WHERE make
pub kept_filtered : (q : Query) (r full : Rec) (keeps : Bool) → IsFiltered q r full keeps → keeps ≡ true → Some full ≡ kept q r
kept_filtered q r full keeps h is =
    ap Some h.lets
    ∙ sym (ap (λ b. if b then Some (with_lets q.lets r) else None) (ap (where_holds q.conds) (sym h.lets) ∙ sym h.kept ∙ is))

pub dropped_filtered : (q : Query) (r full : Rec) (keeps : Bool) → IsFiltered q r full keeps → keeps ≡ false → None ≡ kept q r
dropped_filtered q r full keeps h isnt =
    sym (ap (λ b. if b then Some (with_lets q.lets r) else None) (ap (where_holds q.conds) (sym h.lets) ∙ sym h.kept ∙ isnt))

-- without LET a record is as it is
pub filtered_plain : (q : Query) (r : Rec) (keeps : Bool) → length q.lets ≡ 0 → keeps ≡ where_holds q.conds r → IsFiltered q r r keeps
filtered_plain q r keeps none is = record { lets = by q.lets none; kept = is }
  where
    by : (ls : List Let) → length ls ≡ 0 → r ≡ with_lets ls r
    by [] e = refl
    by (l ∷ ls) e = absurd (omega (arith, e))

-- a record more is held where it is kept
pub stands_kept : (t : Tree) (q : Query) (rs : List Rec) (r full : Rec) (y : Tally) (rows : List NumberedRow) → Some full ≡ kept q r
    → Holds t q (filter_map (kept q) rs ++ full ∷ []) y rows → Holds t q (filter_map (kept q) (rs ++ r ∷ [])) y rows
stands_kept t q rs r full y rows is h = subst (λ ks. Holds t q ks y rows) (sym (kept_more q rs r (Some full) is)) h

pub stands_dropped : (t : Tree) (q : Query) (rs : List Rec) (r : Rec) (y : Tally) (rows : List NumberedRow) → None ≡ kept q r
    → Holds t q (filter_map (kept q) rs) y rows → Holds t q (filter_map (kept q) (rs ++ r ∷ [])) y rows
stands_dropped t q rs r y rows is h =
    subst (λ ks. Holds t q ks y rows) (sym (kept_more q rs r None is ∙ append-nil (filter_map (kept q) rs))) h
