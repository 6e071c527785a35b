-- What is of the grammar is read: the clauses, and the whole text.
use Rattle.std.proofs.Common.{◌≡◌, ℕ, zero, suc, ◌≤◌, Bool, true, false, List, [], ◌∷◌, Some, None, Ok, refl, ap, ◌∙◌, arith}
use Rattle.std.specs.Prelude.{is_some}
use Rattle.cal_ql.specs.declared.clauses.Clauses.{Clauses}
use Rattle.cal_ql.specs.declared.token.Sign.TheVariants as signed
use Rattle.cal_ql.specs.declared.token.Keyword as keywords
use Rattle.cal_ql.specs.declared.token.Keyword.TheVariants as keyword
use Rattle.cal_ql.specs.declared.query.Query.{Query}
use Rattle.cal_ql.specs.declared.select.Picked as picks
use Rattle.cal_ql.specs.declared.select.Picked.TheVariants as picked
use Rattle.cal_ql.specs.Tokens.{Token, Tokens, key, sign, end, broken, token, tokens_of}
use Rattle.cal_ql.specs.Reading.{count, first_of, behind_sign, is_end}
use Rattle.cal_ql.specs.Lets.{let_at}
use Rattle.cal_ql.specs.Kernels.{any_name_at, agg_at, item_at}
use Rattle.cal_ql.specs.Conds.{cond_at, order_key_at}
use Rattle.cal_ql.specs.Clauses.{all_clauses, clause_at, clause_behind, clauses_within, has_clause, listed_at, no_clauses, past_by, reading, selected_all, selection_at, selection_of}
use Rattle.cal_ql.specs.Grammar as grammar
use Rattle.cal_ql.specs.Grammar.{The, ◌⨾◌, Name, Listed, LetPart, AggPart, ItemPart, CondPart, KeyPart, Clause, ClausePart, with_clause, if_new, AreClauses, Means}
use Rattle.cal_ql.proofs.GrammarStops.{EndsList, key_is, listed_count, listed_is, name_count, name_no_sign, sign_is, stops_at, the_count, begins_clause}
use Rattle.cal_ql.proofs.GrammarAgain.{let_is, let_count, any_name_is, any_name_count, agg_is, agg_count, item_is, item_count, cond_is, cond_count, order_key_is, order_key_count, format_is}

-- where a kind is new, the clauses have it from then on
made_is : (there : Bool) (made next : Clauses) → if_new there made ≡ Some next → (there ≡ false) × (made ≡ next)
made_is true made next e = absurd cc
made_is false made next e = (refl, cc)

-- a clause is read by what stands behind its keyword
by_key : (before : Clauses) (k : keywords.Keyword) (ts behind rest : Tokens) (made next : Clauses) → The (key k) ts behind → has_clause before k ≡ false → clause_behind before ts k behind ≡ Ok (made, rest) → made ≡ next → clause_at before ts ≡ Ok (next, rest)
unfolding clause_at
by_key before k ts behind rest made next the new read same = rw (the, new) (read ∙ ap (λ (c : Clauses). Ok (c, rest)) same)

by_is : (ts rest : Tokens) → The (key keyword.By) ts rest → past_by ts ≡ Ok rest
unfolding past_by
by_is ts rest the = rw (key_is keyword.By ts rest the) refl

item_no_star : (item : picks.Picked) (ts rest : Tokens) → ItemPart item ts rest → behind_sign signed.Star ts ≡ None
item_no_star (picked.Column item) ts rest (middle, name, header) = name_no_sign signed.Star item.name ts middle name
item_no_star (picked.Kernel agg) ts rest (call, (r1, name, others)) = name_no_sign signed.Star call.kernel ts r1 name

items_no_star : (list : List picks.Picked) (ts rest : Tokens) → Listed (λ number. ItemPart) 0 list ts rest → behind_sign signed.Star ts ≡ None
items_no_star [] ts rest list = absurd list
items_no_star (item ∷ []) ts rest list = item_no_star item ts rest list
items_no_star (item ∷ next ∷ others) ts rest list = item_no_star item ts list.0 list.1

clause_is : (c : Clause) (before next : Clauses) (ts rest : Tokens) → EndsList rest → with_clause c before ≡ Some next → ClausePart c ts rest → clause_at before ts ≡ Ok (next, rest)
unfolding clause_behind selection_at listed_at
clause_is (grammar.lets list) before next ts rest ends made (r1, the, items) =
    let is = made_is (is_some before.lets) (record before { lets = Some list }) next made in
    by_key before keyword.Let ts r1 rest (record before { lets = Some list }) next the is.0 (rw (listed_is (λ number. LetPart) (λ number. let_at) (λ n. let_is n) let_count list r1 rest ends items) refl) is.1
clause_is grammar.every before next ts rest ends made (r1, the, star) =
    let is = made_is (is_some before.select) (record before { select = Some selected_all }) next made in
    by_key before keyword.Select ts r1 rest (record before { select = Some selected_all }) next the is.0 (rw (sign_is signed.Star r1 rest star) refl) is.1
clause_is (grammar.select list) before next ts rest ends made (r1, the, items) =
    let is = made_is (is_some before.select) (record before { select = Some (selection_of list) }) next made in
    by_key before keyword.Select ts r1 rest (record before { select = Some (selection_of list) }) next the is.0
    (rw (items_no_star list r1 rest items, listed_is (λ number. ItemPart) (λ number. item_at) (λ n. item_is n) item_count list r1 rest ends items) refl) is.1
clause_is (grammar.aggregate list) before next ts rest ends made (r1, the, items) =
    let is = made_is (is_some before.aggs) (record before { aggs = Some list }) next made in
    by_key before keyword.Aggregate ts r1 rest (record before { aggs = Some list }) next the is.0 (rw (listed_is (λ number. AggPart) (λ number. agg_at) (λ n. agg_is n) agg_count list r1 rest ends items) refl) is.1
clause_is (grammar.conds list) before next ts rest ends made (r1, the, items) =
    let is = made_is (is_some before.conds) (record before { conds = Some list }) next made in
    by_key before keyword.Where ts r1 rest (record before { conds = Some list }) next the is.0 (rw (listed_is (λ number. CondPart) (λ number. cond_at) (λ n. cond_is n) cond_count list r1 rest ends items) refl) is.1
clause_is (grammar.group list) before next ts rest ends made (r1, the, (r2, by, items)) =
    let is = made_is (is_some before.group) (record before { group = Some list }) next made in
    by_key before keyword.Group ts r1 rest (record before { group = Some list }) next the is.0 (rw (by_is r1 r2 by, listed_is (λ number. Name) any_name_at any_name_is any_name_count list r2 rest ends items) refl) is.1
clause_is (grammar.order list) before next ts rest ends made (r1, the, (r2, by, items)) =
    let is = made_is (is_some before.order) (record before { order = Some list }) next made in
    by_key before keyword.Order ts r1 rest (record before { order = Some list }) next the is.0 (rw (by_is r1 r2 by, listed_is (λ number. KeyPart) (λ number. order_key_at) (λ n. order_key_is n) order_key_count list r2 rest ends items) refl) is.1
clause_is (grammar.format f) before next ts rest ends made (name, named, (r1, the, there)) =
    let is = made_is (is_some before.format) (record before { format = Some f }) next made in
    by_key before keyword.Format ts r1 rest (record before { format = Some f }) next the is.0 (rw (format_is f name r1 rest named there) refl) is.1

-- ---- what a clause takes

abbrev clause_key : Clause → keywords.Keyword
clause_key (grammar.lets list) = keyword.Let
clause_key grammar.every = keyword.Select
clause_key (grammar.select list) = keyword.Select
clause_key (grammar.aggregate list) = keyword.Aggregate
clause_key (grammar.conds list) = keyword.Where
clause_key (grammar.group list) = keyword.Group
clause_key (grammar.order list) = keyword.Order
clause_key (grammar.format f) = keyword.Format

key_begins : (c : Clause) → begins_clause (clause_key c) ≡ true
key_begins (grammar.lets list) = refl
key_begins grammar.every = refl
key_begins (grammar.select list) = refl
key_begins (grammar.aggregate list) = refl
key_begins (grammar.conds list) = refl
key_begins (grammar.group list) = refl
key_begins (grammar.order list) = refl
key_begins (grammar.format f) = refl

-- a clause begins with its keyword, and takes it
record Begins (c : Clause) (ts rest : Tokens) : Type 0 where
  behind : Tokens
  the : The (key (clause_key c)) ts behind
  less : count rest ≤ count behind

clause_begins : (c : Clause) (ts rest : Tokens) → ClausePart c ts rest → Begins c ts rest
clause_begins (grammar.lets list) ts rest (r1, the, items) = record { behind = r1; the = the; less = listed_count (λ number. LetPart) (λ number. let_at) (λ n. let_is n) let_count list r1 rest items }
clause_begins grammar.every ts rest (r1, the, star) = record { behind = r1; the = the; less = omega (arith, the_count (sign signed.Star) r1 rest star) }
clause_begins (grammar.select list) ts rest (r1, the, items) = record { behind = r1; the = the; less = listed_count (λ number. ItemPart) (λ number. item_at) (λ n. item_is n) item_count list r1 rest items }
clause_begins (grammar.aggregate list) ts rest (r1, the, items) = record { behind = r1; the = the; less = listed_count (λ number. AggPart) (λ number. agg_at) (λ n. agg_is n) agg_count list r1 rest items }
clause_begins (grammar.conds list) ts rest (r1, the, items) = record { behind = r1; the = the; less = listed_count (λ number. CondPart) (λ number. cond_at) (λ n. cond_is n) cond_count list r1 rest items }
clause_begins (grammar.group list) ts rest (r1, the, (r2, by, items)) = record { behind = r1; the = the; less = omega (arith, the_count (key keyword.By) r1 r2 by, listed_count (λ number. Name) any_name_at any_name_is any_name_count list r2 rest items) }
clause_begins (grammar.order list) ts rest (r1, the, (r2, by, items)) = record { behind = r1; the = the; less = omega (arith, the_count (key keyword.By) r1 r2 by, listed_count (λ number. KeyPart) (λ number. order_key_at) (λ n. order_key_is n) order_key_count list r2 rest items) }
clause_begins (grammar.format f) ts rest (name, named, (r1, the, there)) = record { behind = r1; the = the; less = omega (arith, name_count name r1 rest there) }

-- ---- the whole text

ends_at_end : (ts : Tokens) → is_end ts ≡ true → EndsList ts
unfolding behind_sign first_of
ends_at_end (end place) e = record { stop = refl; last = refl }
ends_at_end (broken fault) e = absurd cc
ends_at_end (token place t rest) e = absurd cc

ends_at_clause : (c : Clause) (ts rest : Tokens) → Begins c ts rest → EndsList ts
unfolding behind_sign
ends_at_clause c ts rest begins = record { stop = stops_at (key (clause_key c)) ts begins.behind (key_begins c) begins.the; last = rw begins.the refl }

ends_before : (cs : List Clause) (before all : Clauses) (ts : Tokens) → AreClauses cs before all ts → EndsList ts
ends_before [] before all ts are = ends_at_end ts are.1
ends_before (c ∷ cs) before all ts (next, rest, made, part, others) = ends_at_clause c ts rest (clause_begins c ts rest part)

-- one clause is read, and then the others
within_next : (most : ℕ) (before next all : Clauses) (ts rest behind : Tokens) (t : Token) → The t ts behind → clause_at before ts ≡ Ok (next, rest) → clauses_within most next rest ≡ Ok all → clauses_within (suc most) before ts ≡ Ok all
unfolding first_of
within_next most before next all (end place) rest behind t the read others = absurd cc
within_next most before next all (broken fault) rest behind t the read others = absurd cc
within_next most before next all (token place t' rest') rest behind t the read others = rw (read, others) refl

within_is : (cs : List Clause) (most : ℕ) (before all : Clauses) (ts : Tokens) → count ts ≤ most → AreClauses cs before all ts → clauses_within most before ts ≡ Ok all
within_is [] most before all (end place) enough are = ap (λ (c : Clauses). Ok c) are.0
within_is [] most before all (broken fault) enough are = absurd (let no : false ≡ true = are.1 in cc)
within_is [] most before all (token place t rest) enough are = absurd (let no : false ≡ true = are.1 in cc)
within_is (c ∷ cs) zero before all ts enough (next, rest, made, part, others) =
    let begins = clause_begins c ts rest part in
    absurd (omega (arith, enough, the_count (key (clause_key c)) ts begins.behind begins.the))
within_is (c ∷ cs) (suc most) before all ts enough (next, rest, made, part, others) =
    let begins = clause_begins c ts rest part in
    within_next most before next all ts rest begins.behind (key (clause_key c)) begins.the
    (clause_is c before next ts rest (ends_before cs next all rest others) made part)
    (within_is cs most next all rest (omega (arith, enough, begins.less, the_count (key (clause_key c)) ts begins.behind begins.the)) others)

pub means_reading : (text : List ℕ) (query : Query) → Means text query → reading text ≡ Ok query
unfolding all_clauses
means_reading text query means =
    let all : clauses_within (count (tokens_of text)) no_clauses (tokens_of text) ≡ Ok means.all = within_is means.clauses (count (tokens_of text)) no_clauses means.all (tokens_of text) (omega arith) means.are in
    rw all (ap (λ (q : Query). Ok q) means.makes)
