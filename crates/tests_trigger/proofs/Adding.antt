-- What is let through of one row more.
use Rattle.std.proofs.Common.{◌≡◌, ◌<◌, ◌+◌, ℕ, List, [], ◌∷◌, ◌++◌, length, take, get_or}
use Rattle.std.proofs.Common.{sym, ap, subst, ◌∙◌}
use Rattle.std.proofs.lemmas.List.{take_more}
use Rattle.std.proofs.lemmas.List.Elements.{filter-append}
use Rattle.cal_engine.specs.Folding.{Folded, StandsFor}
use Rattle.cal_filter.specs.Conditions.{where_holds}
use Rattle.cal_ql.specs.declared.query.Cond.{Cond}
use Rattle.cal_ql.specs.declared.query.Query.{Query}
use Rattle.cal_trigger.specs.Watching.{let_through}
use Rattle.cal_value.specs.declared.record.Rec.{Rec}

through_more : (conds : List Cond) (rows : List Rec) (i : ℕ) (r : Rec) → i < length rows
    → r ≡ get_or rows i r → let_through conds (take i rows) ++ let_through conds (r ∷ [])
    ≡ let_through conds (take (i + 1) rows)
through_more conds rows i r short read =
    sym (filter-append (where_holds conds) (take i rows) (r ∷ []))
    ∙ ap (let_through conds)
    (sym (take_more rows i r short ∙ ap (λ y. take i rows ++ y ∷ []) (sym read)))

-- the fold of what was let through of the rows so far, with this one
pub stands_more : (q : Query) (conds : List Cond) (rows : List Rec) (i : ℕ) (r : Rec)
    (fold : Folded) → i < length rows → r ≡ get_or rows i r
    → StandsFor q (let_through conds (take i rows) ++ let_through conds (r ∷ [])) fold
    → StandsFor q (let_through conds (take (i + 1) rows)) fold
stands_more q conds rows i r fold short read stands =
    subst (λ (rs : List Rec). StandsFor q rs fold) (through_more conds rows i r short read) stands
