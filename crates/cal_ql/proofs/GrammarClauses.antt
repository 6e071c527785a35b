-- What is read is of the grammar: the clauses, and the whole text.
use Rattle.std.proofs.Common.{◌≡◌, ℕ, Bool, true, false, zero, suc, List, [], ◌∷◌, Option, Some, None, Ok, refl, subst, inl, inr}
use Rattle.std.specs.Prelude.{is_some}
use Rattle.std.specs.Option.{option_map_or}
use Rattle.cal_ql.specs.declared.clauses.Clauses.{Clauses}
use Rattle.cal_ql.specs.declared.kind.QueryKind.TheVariants.{ExpectedBy}
use Rattle.cal_ql.specs.declared.token.Sign.TheVariants as signed
use Rattle.cal_ql.specs.declared.token.Keyword as keywords
use Rattle.cal_ql.specs.declared.token.Keyword.TheVariants as keyword
use Rattle.cal_ql.specs.declared.query.Query.{Query}
use Rattle.cal_ql.specs.declared.select.Selection.{Selection}
use Rattle.cal_ql.specs.Tokens.{Token, Tokens, key, word, quoted, sign, end, broken, token, tokens_of}
use Rattle.cal_ql.specs.Reading.{refused, count, first_of, behind_sign, behind_key, separated}
use Rattle.cal_ql.specs.Lets.{let_at}
use Rattle.cal_ql.specs.Kernels.{any_name_at, agg_at, item_at}
use Rattle.cal_ql.specs.Conds.{cond_at, order_key_at, format_at}
use Rattle.cal_ql.specs.Clauses.{all_clauses, clause_at, clause_behind, clause_first, clauses_within, has_clause, listed_at, no_clauses, past_by, query_of, reading, selected_all, selection_at, selection_of}
use Rattle.cal_ql.specs.Grammar as grammar
use Rattle.cal_ql.specs.Grammar.{The, ◌⨾◌, Name, Listed, LetPart, AggPart, ItemPart, CondPart, KeyPart, Clause, ClausePart, with_clause, if_new, AreClauses, Means}
use Rattle.cal_ql.proofs.Choices.{chosen}
use Rattle.cal_ql.proofs.Binds.{bind_ok, or_fault_ok, ok_is}
use Rattle.cal_ql.proofs.GrammarSound.{sign_found, key_found, listed_found}
use Rattle.cal_ql.proofs.GrammarRules.{let_found, agg_found, item_found, cond_found, order_key_found, format_found, any_name_found}

is_new : (there : Bool) (made : Clauses) → there ≡ false → if_new there made ≡ Some made
is_new true made absent = absurd cc
is_new false made absent = refl

-- a clause makes these clauses of those before, and ends here
abbrev IsMade : Clauses → Tokens → Clauses × Tokens → Type 0
IsMade before here x = (c : Clause) × (with_clause c before ≡ Some x.0) × ClausePart c here x.1

by_found : (ts rest : Tokens) → past_by ts ≡ Ok rest → The (key keyword.By) ts rest
unfolding past_by
by_found ts rest e = key_found keyword.By ts rest (or_fault_ok (behind_key keyword.By ts) (refused ExpectedBy ts) rest e)

select_choice : (before : Clauses) (here ts rest : Tokens) (selection : Selection) (o : Option Tokens) → The (key keyword.Select) here ts → is_some before.select ≡ false → behind_sign signed.Star ts ≡ o
    → option_map_or (λ rest. Ok (selected_all, rest)) o (listed_at ts) ≡ Ok (selection, rest) → IsMade before here (record before { select = Some selection }, rest)
unfolding listed_at
select_choice before here ts rest selection (Some behind) first absent is e =
    subst (λ (x : Selection × Tokens). IsMade before here (record before { select = Some x.0 }, x.1)) (ok_is (selected_all, behind) (selection, rest) e)
    (grammar.every, is_new _ _ absent, (ts, first, sign_found signed.Star ts behind is))
select_choice before here ts rest selection None first absent is e =
    let picked = bind_ok (separated (λ number. item_at) ts) (λ p. Ok (selection_of p.0, p.1)) (selection, rest) e in
    subst (λ (x : Selection × Tokens). IsMade before here (record before { select = Some x.0 }, x.1)) (ok_is (selection_of picked.0.0, picked.0.1) (selection, rest) picked.2)
    (grammar.select picked.0.0, is_new _ _ absent, (ts, first, listed_found (λ number. ItemPart) (λ number. item_at) (λ n. item_found) ts picked.0.1 picked.0.0 picked.1))

behind_found : (before next : Clauses) (here ts rest : Tokens) (k : keywords.Keyword) → The (key k) here ts → has_clause before k ≡ false → clause_behind before here k ts ≡ Ok (next, rest) → IsMade before here (next, rest)
unfolding clause_behind selection_at
behind_found before next here ts rest keyword.Let first absent e =
    let one = bind_ok (separated (λ number. let_at) ts) _ (next, rest) e in
    subst (IsMade before here) (ok_is (record before { lets = Some one.0.0 }, one.0.1) (next, rest) one.2)
    (grammar.lets one.0.0, is_new _ _ absent, (ts, first, listed_found (λ number. LetPart) (λ number. let_at) (λ n. let_found) ts one.0.1 one.0.0 one.1))
behind_found before next here ts rest keyword.Select first absent e =
    let one = bind_ok (selection_at ts) _ (next, rest) e in
    subst (IsMade before here) (ok_is (record before { select = Some one.0.0 }, one.0.1) (next, rest) one.2)
    (select_choice before here ts one.0.1 one.0.0 (behind_sign signed.Star ts) first absent refl one.1)
behind_found before next here ts rest keyword.Aggregate first absent e =
    let one = bind_ok (separated (λ number. agg_at) ts) _ (next, rest) e in
    subst (IsMade before here) (ok_is (record before { aggs = Some one.0.0 }, one.0.1) (next, rest) one.2)
    (grammar.aggregate one.0.0, is_new _ _ absent, (ts, first, listed_found (λ number. AggPart) (λ number. agg_at) (λ n. agg_found) ts one.0.1 one.0.0 one.1))
behind_found before next here ts rest keyword.Where first absent e =
    let one = bind_ok (separated (λ number. cond_at) ts) _ (next, rest) e in
    subst (IsMade before here) (ok_is (record before { conds = Some one.0.0 }, one.0.1) (next, rest) one.2)
    (grammar.conds one.0.0, is_new _ _ absent, (ts, first, listed_found (λ number. CondPart) (λ number. cond_at) (λ n. cond_found) ts one.0.1 one.0.0 one.1))
behind_found before next here ts rest keyword.Group first absent e =
    let by = bind_ok (past_by ts) _ (next, rest) e in
    let one = bind_ok (separated any_name_at by.0) _ (next, rest) by.2 in
    subst (IsMade before here) (ok_is (record before { group = Some one.0.0 }, one.0.1) (next, rest) one.2)
    (grammar.group one.0.0, is_new _ _ absent, (ts, first, (by.0, by_found ts by.0 by.1, listed_found (λ number. Name) any_name_at any_name_found by.0 one.0.1 one.0.0 one.1)))
behind_found before next here ts rest keyword.Order first absent e =
    let by = bind_ok (past_by ts) _ (next, rest) e in
    let one = bind_ok (separated (λ number. order_key_at) by.0) _ (next, rest) by.2 in
    subst (IsMade before here) (ok_is (record before { order = Some one.0.0 }, one.0.1) (next, rest) one.2)
    (grammar.order one.0.0, is_new _ _ absent, (ts, first, (by.0, by_found ts by.0 by.1, listed_found (λ number. KeyPart) (λ number. order_key_at) (λ n. order_key_found) by.0 one.0.1 one.0.0 one.1)))
behind_found before next here ts rest keyword.Format first absent e =
    let one = bind_ok (format_at ts) _ (next, rest) e in
    let there = format_found ts one.0.1 one.0.0 one.1 in
    subst (IsMade before here) (ok_is (record before { format = Some one.0.0 }, one.0.1) (next, rest) one.2)
    (grammar.format one.0.0, is_new _ _ absent, (there.0, there.1, (ts, first, there.2)))
behind_found before next here ts rest keyword.By first absent e = absurd cc
behind_found before next here ts rest keyword.As first absent e = absurd cc
behind_found before next here ts rest keyword.Not first absent e = absurd cc
behind_found before next here ts rest keyword.Asc first absent e = absurd cc
behind_found before next here ts rest keyword.Desc first absent e = absurd cc

clause_first_found : (before next : Clauses) (here rest : Tokens) (found : Option (Token × Tokens)) → first_of here ≡ found → clause_first before here found ≡ Ok (next, rest) → IsMade before here (next, rest)
clause_first_found before next here rest None is e = absurd cc
clause_first_found before next here rest (Some (word text, behind)) is e = absurd cc
clause_first_found before next here rest (Some (quoted text, behind)) is e = absurd cc
clause_first_found before next here rest (Some (sign s, behind)) is e = absurd cc
clause_first_found before next here rest (Some (key k, behind)) is e =
    elim (chosen (has_clause before k) _ _ (Ok (next, rest)) e) [
      | inl twice ↦ absurd (let fault = twice.1 in cc)
      | inr once ↦ behind_found before next here behind rest k is once.0 once.1
    ]

clause_found : (before next : Clauses) (ts rest : Tokens) → clause_at before ts ≡ Ok (next, rest) → IsMade before ts (next, rest)
unfolding clause_at
clause_found before next ts rest e = clause_first_found before next ts rest (first_of ts) refl e

within_found : (most : ℕ) (before all : Clauses) (ts : Tokens) → clauses_within most before ts ≡ Ok all → (cs : List Clause) × AreClauses cs before all ts
within_found most before all (end place) e = ([], (ok_is before all e, refl))
within_found zero before all (broken fault) e = absurd cc
within_found zero before all (token place t rest) e = absurd cc
within_found (suc most) before all (broken fault) e =
    let one = bind_ok (clause_at before (broken fault)) (λ next. clauses_within most next.0 next.1) all e in
    let made = clause_found before one.0.0 (broken fault) one.0.1 one.1 in
    let others = within_found most one.0.0 all one.0.1 one.2 in
    (made.0 ∷ others.0, (one.0.0, one.0.1, made.1, made.2, others.1))
within_found (suc most) before all (token place t rest) e =
    let one = bind_ok (clause_at before (token place t rest)) (λ next. clauses_within most next.0 next.1) all e in
    let made = clause_found before one.0.0 (token place t rest) one.0.1 one.1 in
    let others = within_found most one.0.0 all one.0.1 one.2 in
    (made.0 ∷ others.0, (one.0.0, one.0.1, made.1, made.2, others.1))

pub reading_means : (text : List ℕ) (query : Query) → reading text ≡ Ok query → Means text query
unfolding all_clauses
reading_means text query e =
    let all = bind_ok (all_clauses (tokens_of text)) (λ clauses. Ok (query_of clauses)) query e in
    let there = within_found (count (tokens_of text)) no_clauses all.0 (tokens_of text) all.1 in
    record { clauses = there.0; all = all.0; are = there.1; makes = ok_is (query_of all.0) query all.2 }
