-- Which immediates of a record a query looks at: an aggregated one at those of the names that it
-- speaks of, and another one at all, since its rows are the records.
use Rattle.std.specs.Prelude.{◌≡◌, ℕ, Bool, false, ◌<◌, ◌≤◌, ◌||◌, not, List, ◌∷◌, ◌++◌, codes}
use Rattle.std.specs.Prelude.{filter, length, map, slice_index_or}
use Rattle.std.specs.List.{flat_map, list_any}
use Rattle.std.specs.Ordering.{eq_by_cmp}
use Rattle.cal_context.specs.Tree.{Tree, attribute_at}
use Rattle.cal_context.specs.declared.numbers.AttributeNumber.{AttributeNumber}
use Rattle.cal_ql.specs.declared.query.Cond.{Cond}
use Rattle.cal_ql.specs.declared.query.Let.{Let}
use Rattle.cal_ql.specs.declared.query.Query.{Query}
use Rattle.cal_rowset.specs.Texts.{first_seen, is_same}
use Rattle.cal_value.specs.Texts.{text_cmp}
use Rattle.cal_value.specs.declared.attribute.Attribute.{Attribute}
use Rattle.cal_value.specs.declared.record.Rec.{Rec}
use Rattle.cal_keys.specs.Keys.{names_in}
use Rattle.cal_parts.specs.Readings.{reading_of}
use Rattle.cal_engine.specs.Rows.{is_aggregated}
use Rattle.cal_engine.specs.declared.looked.Looked.{Looked}
use Rattle.cal_parts.specs.declared.reading.Reading.{Reading}

abbrev pub has_name : List ℕ → Attribute → Bool
has_name name a = eq_by_cmp text_cmp a.name name

abbrev pub has_some_name : List (List ℕ) → Attribute → Bool
has_some_name names a = list_any (λ name. has_name name a) names

-- whether LET defines or reads it
abbrev pub in_lets : List Let → Attribute → Bool
in_lets lets a = list_any (λ l. has_name l.name a || has_some_name l.args a) lets

-- whether WHERE asks of it
abbrev pub in_conds : List Cond → Attribute → Bool
in_conds conds a = list_any (λ c. has_name c.name a) conds

-- whether a kernel reads it by its name
abbrev pub is_read : List Reading → Attribute → Bool
is_read readings a = list_any (λ r. has_some_name r.names a) readings

-- the same, or as a record's weight, `count`
abbrev pub in_readings : List Reading → Attribute → Bool
in_readings readings a = is_read readings a || is_same a.name (codes "count")

-- whether a query speaks of it
abbrev pub speaks_of : Query → Attribute → Bool
speaks_of q a =
    (in_lets q.lets a || in_conds q.conds a)
    || (has_some_name (names_in q.group) a || in_readings (map reading_of q.aggs) a)

-- the names that a definition of LET defines and reads
abbrev pub let_names : Let → List (List ℕ)
let_names l = l.name ∷ l.args

-- all names that a query speaks of, `count` aside
abbrev pub spoken_names : Query → List (List ℕ)
spoken_names q =
    (flat_map let_names q.lets ++ map (λ c. c.name) q.conds)
    ++ (names_in q.group ++ flat_map (λ r. r.names) (map reading_of q.aggs))

abbrev pub looks_at : Query → Attribute → Bool
looks_at q a = not (is_aggregated q) || speaks_of q a

-- a record without the immediates that a query doesn't look at
abbrev pub looked_at : Query → Rec → Rec
looked_at q r = record { paths = r.paths; imms = filter (λ e. looks_at q e.attr) r.imms }

-- what is kept for an attribute: whether its immediates are looked at
abbrev pub is_looked : Looked → AttributeNumber → Bool
is_looked k a = slice_index_or k.attributes a.0 false

pub record IsLookedAt (t : Tree) (q : Query) (k : Looked) (a : AttributeNumber) : Type 0 where
  pub within : a.0 < length t.attributes
  pub is : is_looked k a ≡ looks_at q (attribute_at t a)

-- what is kept is right, as far as it goes
pub record IsLooked (t : Tree) (q : Query) (k : Looked) : Type 0 where
  pub names : k.names.keys ≡ first_seen (spoken_names q)
  pub attributes : (a : AttributeNumber) → a.0 < length k.attributes → IsLookedAt t q k a

-- and it goes for the whole context
pub record LooksAll (t : Tree) (q : Query) (k : Looked) : Type 0 where
  pub is : IsLooked t q k
  pub attributes : length t.attributes ≤ length k.attributes
