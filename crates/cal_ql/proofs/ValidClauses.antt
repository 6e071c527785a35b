-- The query of clauses that are read is valid.
use Rattle.std.proofs.Common.{◌≡◌, ℕ, zero, suc, List, [], ◌++◌, Option, Some, None, Ok, subst, inl, inr}
use Rattle.std.specs.Prelude.{unwrap_or}
use Rattle.std.specs.List.{AllByRecursion}
use Rattle.cal_ql.specs.declared.clauses.Clauses.{Clauses}
use Rattle.cal_ql.specs.declared.token.Keyword as keywords
use Rattle.cal_ql.specs.declared.token.Keyword.TheVariants as keyword
use Rattle.cal_ql.specs.declared.query.Query.{Query}
use Rattle.cal_ql.specs.Tokens.{Token, Tokens, key, word, quoted, sign, end, broken, token, tokens_of}
use Rattle.cal_ql.specs.Reading.{Read, count, first_of, separated}
use Rattle.cal_ql.specs.Lets.{let_at}
use Rattle.cal_ql.specs.Kernels.{any_name_at, agg_at}
use Rattle.cal_ql.specs.Conds.{cond_at, order_key_at, format_at}
use Rattle.cal_ql.specs.Clauses.{all_clauses, clause_at, clause_behind, clause_first, clauses_within, has_clause, kernels_of, no_clauses, past_by, query_of, reading, selection_at}
use Rattle.cal_ql.specs.Valid.{IsLet, IsValidQuery}
use Rattle.cal_ql.proofs.Choices.{chosen}
use Rattle.cal_ql.proofs.Binds.{bind_ok, ok_is}
use Rattle.cal_ql.proofs.ReadLists.{all_separated}
use Rattle.cal_ql.proofs.ValidAggs.{first_of_each_distinct}
use Rattle.cal_ql.proofs.ValidLets.{let_at_valid}

abbrev HasLets : Clauses → Type 0
HasLets clauses = AllByRecursion IsLet (unwrap_or clauses.lets [])

-- clauses that stand behind a step have the definitions that it made
arrived : (made next : Clauses) (after rest : Tokens) → HasLets made → ◌≡◌ {A = Read Clauses} (Ok (made, after)) (Ok (next, rest)) → HasLets next
arrived made next after rest valid e = subst (λ (x : Clauses × Tokens). HasLets x.0) (ok_is (made, after) (next, rest) e) valid

behind_valid : (clauses next : Clauses) (here ts rest : Tokens) (k : keywords.Keyword) → HasLets clauses → clause_behind clauses here k ts ≡ Ok (next, rest) → HasLets next
unfolding clause_behind
behind_valid clauses next here ts rest keyword.Let valid e =
    let one = bind_ok (separated (λ number. let_at) ts) _ (next, rest) e in
    arrived _ next one.0.1 rest (all_separated IsLet (λ number. let_at) (λ n ts rest l. let_at_valid ts rest l) ts one.0.1 one.0.0 one.1) one.2
behind_valid clauses next here ts rest keyword.Select valid e =
    let one = bind_ok (selection_at ts) _ (next, rest) e in arrived _ next one.0.1 rest valid one.2
behind_valid clauses next here ts rest keyword.Aggregate valid e =
    let one = bind_ok (separated (λ number. agg_at) ts) _ (next, rest) e in arrived _ next one.0.1 rest valid one.2
behind_valid clauses next here ts rest keyword.Where valid e =
    let one = bind_ok (separated (λ number. cond_at) ts) _ (next, rest) e in arrived _ next one.0.1 rest valid one.2
behind_valid clauses next here ts rest keyword.Group valid e =
    let by = bind_ok (past_by ts) _ (next, rest) e in
    let one = bind_ok (separated any_name_at by.0) _ (next, rest) by.2 in arrived _ next one.0.1 rest valid one.2
behind_valid clauses next here ts rest keyword.Order valid e =
    let by = bind_ok (past_by ts) _ (next, rest) e in
    let one = bind_ok (separated (λ number. order_key_at) by.0) _ (next, rest) by.2 in arrived _ next one.0.1 rest valid one.2
behind_valid clauses next here ts rest keyword.Format valid e =
    let one = bind_ok (format_at ts) _ (next, rest) e in arrived _ next one.0.1 rest valid one.2
behind_valid clauses next here ts rest keyword.By valid e = absurd cc
behind_valid clauses next here ts rest keyword.As valid e = absurd cc
behind_valid clauses next here ts rest keyword.Not valid e = absurd cc
behind_valid clauses next here ts rest keyword.Asc valid e = absurd cc
behind_valid clauses next here ts rest keyword.Desc valid e = absurd cc

first_valid : (clauses next : Clauses) (here rest : Tokens) (found : Option (Token × Tokens)) → HasLets clauses → clause_first clauses here found ≡ Ok (next, rest) → HasLets next
first_valid clauses next here rest None valid e = absurd cc
first_valid clauses next here rest (Some (word text, behind)) valid e = absurd cc
first_valid clauses next here rest (Some (quoted text, behind)) valid e = absurd cc
first_valid clauses next here rest (Some (sign s, behind)) valid e = absurd cc
first_valid clauses next here rest (Some (key k, behind)) valid e =
    elim (chosen (has_clause clauses k) _ _ (Ok (next, rest)) e) [
      | inl twice ↦ absurd (let fault = twice.1 in cc)
      | inr once ↦ behind_valid clauses next here behind rest k valid once.1
    ]

clause_valid : (clauses next : Clauses) (ts rest : Tokens) → HasLets clauses → clause_at clauses ts ≡ Ok (next, rest) → HasLets next
unfolding clause_at
clause_valid clauses next ts rest valid e = first_valid clauses next ts rest (first_of ts) valid e

within_valid : (most : ℕ) (clauses all : Clauses) (ts : Tokens) → HasLets clauses → clauses_within most clauses ts ≡ Ok all → HasLets all
within_valid most clauses all (end place) valid e = subst HasLets (ok_is clauses all e) valid
within_valid zero clauses all (broken fault) valid e = absurd cc
within_valid zero clauses all (token place t rest) valid e = absurd cc
within_valid (suc most) clauses all (broken fault) valid e =
    let one = bind_ok (clause_at clauses (broken fault)) (λ next. clauses_within most next.0 next.1) all e in
    within_valid most one.0.0 all one.0.1 (clause_valid clauses one.0.0 (broken fault) one.0.1 valid one.1) one.2
within_valid (suc most) clauses all (token place t rest) valid e =
    let one = bind_ok (clause_at clauses (token place t rest)) (λ next. clauses_within most next.0 next.1) all e in
    within_valid most one.0.0 all one.0.1 (clause_valid clauses one.0.0 (token place t rest) one.0.1 valid one.1) one.2

all_valid : (ts : Tokens) (all : Clauses) → all_clauses ts ≡ Ok all → HasLets all
unfolding all_clauses
all_valid ts all e = within_valid (count ts) no_clauses all ts tt e

pub reading_valid : (text : List ℕ) (query : Query) → reading text ≡ Ok query → IsValidQuery query
reading_valid text query e =
    let clauses = bind_ok (all_clauses (tokens_of text)) (λ clauses. Ok (query_of clauses)) query e in
    subst IsValidQuery (ok_is (query_of clauses.0) query clauses.2) (record {
      lets = all_valid (tokens_of text) clauses.0 clauses.1;
      aggs = first_of_each_distinct (kernels_of clauses.0.select ++ unwrap_or clauses.0.aggs []);
    })
