-- query = any number of clauses, each kind at most once, in any order
use Rattle.std.specs.Prelude.{ℕ, zero, suc, Bool, false, List, [], ◌++◌, map, Option, Some, None, Result, Ok, Err, is_some, unwrap_or, if◌then◌else◌}
use Rattle.std.specs.Option.{option_map_or}
use Rattle.std.specs.List.{filter_map}
use Rattle.cal_ql.specs.declared.kind.QueryKind.TheVariants.{ExpectedClause, DuplicateClause, ExpectedBy}
use Rattle.cal_ql.specs.declared.token.Sign.TheVariants as signed
use Rattle.cal_ql.specs.declared.token.Keyword as keywords
use Rattle.cal_ql.specs.declared.token.Keyword.TheVariants as keyword
use Rattle.cal_ql.specs.declared.names.Format.TheVariants as format
use Rattle.cal_ql.specs.declared.query.Agg.{Agg}
use Rattle.cal_ql.specs.declared.query.Item.{Item}
use Rattle.cal_ql.specs.declared.query.Query.{Query}
use Rattle.cal_ql.specs.declared.select.Picked as picks
use Rattle.cal_ql.specs.declared.select.Selection.{Selection}
use Rattle.cal_ql.specs.declared.clauses.Clauses.{Clauses}
use Rattle.cal_ql.specs.Tokens.{Token, key, Fault, Tokens, end, tokens_of}
use Rattle.cal_ql.specs.Reading.{Read, ◌>>=◌, or_fault, count, refused, first_of, behind_sign, behind_key, separated}
use Rattle.cal_ql.specs.Lets.{let_at}
use Rattle.cal_ql.specs.Kernels.{any_name_at, agg_at, item_at, item_of, kernel_of, first_of_each}
use Rattle.cal_ql.specs.Conds.{cond_at, order_key_at, format_at}

-- the clauses before the first one
abbrev pub no_clauses : Clauses
no_clauses = record {
  lets = None;
  select = None;
  aggs = None;
  conds = None;
  group = None;
  order = None;
  format = None;
}

-- whether a clause of this keyword is among them
abbrev pub has_clause : Clauses → keywords.Keyword → Bool
has_clause clauses keyword.Let = is_some clauses.lets
has_clause clauses keyword.Select = is_some clauses.select
has_clause clauses keyword.Aggregate = is_some clauses.aggs
has_clause clauses keyword.Where = is_some clauses.conds
has_clause clauses keyword.Group = is_some clauses.group
has_clause clauses keyword.Order = is_some clauses.order
has_clause clauses keyword.Format = is_some clauses.format
has_clause clauses _ = false

-- what SELECT lists, and its kernels
abbrev pub selection_of : List picks.Picked → Selection
selection_of picked =
    record { items = Some (map item_of picked); aggs = filter_map kernel_of picked }

abbrev pub selected_all : Selection
selected_all = record { items = None; aggs = [] }

unfoldable pub listed_at : Tokens → Read Selection
listed_at ts = do
  picked ← separated (λ number. item_at) ts
  Ok (selection_of picked.0, picked.1)

-- SELECT * | SELECT item {, item}
unfoldable pub selection_at : Tokens → Read Selection
selection_at ts =
    option_map_or (λ rest. Ok (selected_all, rest)) (behind_sign signed.Star ts) (listed_at ts)

-- BY, behind GROUP or ORDER
unfoldable pub past_by : Tokens → Result Tokens Fault
past_by ts = or_fault (behind_key keyword.By ts) (refused ExpectedBy ts)

-- what stands behind a clause's keyword; here are the tokens from the keyword on
unfoldable pub clause_behind : Clauses → Tokens → keywords.Keyword → Tokens → Read Clauses
clause_behind clauses here keyword.Let ts = do
  lets ← separated (λ number. let_at) ts
  Ok (record clauses { lets = Some lets.0 }, lets.1)
clause_behind clauses here keyword.Select ts = do
  selection ← selection_at ts
  Ok (record clauses { select = Some selection.0 }, selection.1)
clause_behind clauses here keyword.Aggregate ts = do
  aggs ← separated (λ number. agg_at) ts
  Ok (record clauses { aggs = Some aggs.0 }, aggs.1)
clause_behind clauses here keyword.Where ts = do
  conds ← separated (λ number. cond_at) ts
  Ok (record clauses { conds = Some conds.0 }, conds.1)
clause_behind clauses here keyword.Group ts = do
  by ← past_by ts
  names ← separated any_name_at by
  Ok (record clauses { group = Some names.0 }, names.1)
clause_behind clauses here keyword.Order ts = do
  by ← past_by ts
  order ← separated (λ number. order_key_at) by
  Ok (record clauses { order = Some order.0 }, order.1)
clause_behind clauses here keyword.Format ts = do
  format ← format_at ts
  Ok (record clauses { format = Some format.0 }, format.1)
clause_behind clauses here _ ts = Err (refused ExpectedClause here)

abbrev pub clause_first : Clauses → Tokens → Option (Token × Tokens) → Read Clauses
clause_first clauses here (Some (key k, rest)) =
    if has_clause clauses k then Err (refused DuplicateClause here)
    else clause_behind clauses here k rest
clause_first clauses here _ = Err (refused ExpectedClause here)

-- the next clause, of a kind that didn't come before
unfoldable pub clause_at : Clauses → Tokens → Read Clauses
clause_at clauses ts = clause_first clauses ts (first_of ts)

-- the clauses up to the end, at most so many
abbrev pub clauses_within : ℕ → Clauses → Tokens → Result Clauses Fault
clauses_within most clauses (end place) = Ok clauses
clauses_within zero clauses ts = Err (refused ExpectedClause ts)
clauses_within (suc most) clauses ts = do
  next ← clause_at clauses ts
  clauses_within most next.0 next.1

-- all clauses, of which there are no more than tokens
unfoldable pub all_clauses : Tokens → Result Clauses Fault
all_clauses ts = clauses_within (count ts) no_clauses ts

-- what SELECT lists, and the kernels of SELECT
abbrev pub items_of : Option Selection → Option (List Item)
items_of None = None
items_of (Some selection) = selection.items

abbrev pub kernels_of : Option Selection → List Agg
kernels_of None = []
kernels_of (Some selection) = selection.aggs

-- The query of the clauses: the kernels of SELECT stand before those of AGGREGATE, each result name
-- once, the first kept. Without FORMAT it is expand.
abbrev pub query_of : Clauses → Query
query_of clauses = record {
  lets = unwrap_or clauses.lets [];
  select = items_of clauses.select;
  aggs = first_of_each (kernels_of clauses.select ++ unwrap_or clauses.aggs []);
  conds = unwrap_or clauses.conds [];
  group = clauses.group;
  order = unwrap_or clauses.order [];
  format = unwrap_or clauses.format format.Expand;
}

-- the query that a text means, or its first fault
abbrev pub reading : List ℕ → Result Query Fault
reading text = all_clauses (tokens_of text) >>= λ clauses. Ok (query_of clauses)
