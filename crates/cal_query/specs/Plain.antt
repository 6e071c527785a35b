-- The query without a clause.
use Rattle.std.specs.Prelude.{Bool, true, false, List, [], ◌∷◌, Option, None, Some, ◌&&◌}
use Rattle.cal_ql.specs.declared.names.Format as formats
use Rattle.cal_ql.specs.declared.names.Format.TheVariants as format
use Rattle.cal_ql.specs.declared.query.Query.{Query}

abbrev pub is_nil : {X : Type 0} → List X → Bool
is_nil [] = true
is_nil (x ∷ xs) = false

abbrev pub is_none : {X : Type 0} → Option X → Bool
is_none None = true
is_none (Some x) = false

abbrev pub is_expand : formats.Format → Bool
is_expand format.Expand = true
is_expand _ = false

-- a query without clauses but FORMAT expand, whose answer is the rows themselves
abbrev pub is_plain : Query → Bool
is_plain query =
    is_nil query.lets && is_none query.select && is_nil query.aggs && is_nil query.conds
    && is_none query.group && is_nil query.order && is_expand query.format
