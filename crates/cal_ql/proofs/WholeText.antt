-- The canonical text of a query means it.
use Rattle.std.proofs.Common.{◌≡◌, ℕ, suc, false, not, List, [], ◌∷◌, ◌++◌, length, Option, Some, None, refl, sym, ap, subst, inl}
use Rattle.std.specs.Prelude.{map, filter, nat_eq, unwrap_or}
use Rattle.std.specs.List.{AllByRecursion, IsDistinct, filter_map}
use Rattle.std.specs.Cmp.Lexicographic.{pointwise}
use Rattle.cal_ql.specs.declared.clauses.Clauses.{Clauses}
use Rattle.cal_ql.specs.declared.select.Selection.{Selection}
use Rattle.cal_ql.specs.declared.select.Picked as picks
use Rattle.cal_ql.specs.declared.select.Picked.TheVariants as picked
use Rattle.cal_ql.specs.declared.token.Keyword.TheVariants as keyword
use Rattle.cal_ql.specs.declared.names.Format as formats
use Rattle.cal_ql.specs.declared.query.Let.{Let}
use Rattle.cal_ql.specs.declared.query.Item.{Item}
use Rattle.cal_ql.specs.declared.query.Agg.{Agg}
use Rattle.cal_ql.specs.declared.query.Cond.{Cond}
use Rattle.cal_ql.specs.declared.query.OrderKey.{OrderKey}
use Rattle.cal_ql.specs.declared.query.Query.{Query}
use Rattle.cal_ql.specs.Names.{format_name}
use Rattle.cal_ql.specs.Tokens.{Token, key, word, sign, Tokens, end, tokens_of}
use Rattle.cal_ql.specs.declared.token.Sign.TheVariants as signed
use Rattle.cal_ql.specs.Kernels.{first_of_each, item_of, kernel_of}
use Rattle.cal_ql.specs.Clauses.{items_of, kernels_of, no_clauses, query_of, selection_of}
use Rattle.cal_ql.specs.Grammar as grammar
use Rattle.cal_ql.specs.Grammar.{AggPart, AreClauses, Clause, CondPart, ItemPart, KeyPart, LetPart, Listed, Means, Name}
use Rattle.cal_ql.specs.Valid.{IsLet, IsSaid, IsValidQuery, SaysAttribute, SaysItems, SaysNumber}
use Rattle.cal_ql.specs.Writing.{agg_tokens, clause_tokens, cond_tokens, item_tokens, key_tokens, let_tokens, listed, name_tokens, query_text, query_tokens, there_tokens}
use Rattle.cal_ql.proofs.Spelling.{Come, IsRead, format_read, key_read, name_read, text_comes}
use Rattle.cal_ql.proofs.ValidAggs.{turned}
use Rattle.cal_ql.proofs.Writings.{agg_come, agg_read, all_append, come_split, cond_come, cond_read, each_part, format_named-name, item_come, item_read, key_come, let_come, let_read, listed_come, listed_read, name_come, order_read, the_to}

-- ---- the clauses of the text

-- a list that has items
abbrev some_of : {X : Type 0} → List X → Option (List X)
some_of [] = None
some_of (x ∷ xs) = Some (x ∷ xs)

abbrev columns : List Item → List picks.Picked
columns items = map picked.Column items

abbrev selected : Option (List Item) → Option Selection
selected None = None
selected (Some items) = Some (selection_of (columns items))

-- a clause, where it has items
abbrev if_some : {X : Type 0} → (List X → Clause) → List X → List Clause
if_some clause [] = []
if_some clause (x ∷ xs) = clause (x ∷ xs) ∷ []

-- a clause, where it is there
abbrev if_there : {X : Type 0} → (List X → Clause) → Option (List X) → List Clause
if_there clause None = []
if_there clause (Some xs) = clause xs ∷ []

abbrev select_columns : List Item → Clause
select_columns items = grammar.select (columns items)

-- what a query's clauses are, from the first to the last
abbrev all_of : Query → Clauses
all_of q = record {
  lets = some_of q.lets;
  select = selected q.select;
  aggs = some_of q.aggs;
  conds = some_of q.conds;
  group = q.group;
  order = some_of q.order;
  format = Some q.format;
}

-- ---- the query of the clauses

kept_list : {X : Type 0} (xs : List X) → unwrap_or (some_of xs) [] ≡ xs
kept_list [] = refl
kept_list (x ∷ xs) = refl

kept_columns : (items : List Item) → map item_of (columns items) ≡ items
kept_columns [] = refl
kept_columns (item ∷ items) = ap (λ (others : List Item). item ∷ others) (kept_columns items)

no_kernels : (items : List Item) → filter_map kernel_of (columns items) ≡ []
no_kernels [] = refl
no_kernels (item ∷ items) = no_kernels items

kept_select : (select : Option (List Item)) → items_of (selected select) ≡ select
kept_select None = refl
kept_select (Some items) = ap (λ (xs : List Item). Some xs) (kept_columns items)

no_selected : (select : Option (List Item)) → kernels_of (selected select) ≡ []
no_selected None = refl
no_selected (Some items) = no_kernels items

-- a filter leaves kernels whose names are apart from this one
filter_apart : (agg : Agg) (aggs : List Agg)
    → AllByRecursion (λ name. pointwise nat_eq agg.name name ≡ false) (map (λ a. a.name) aggs)
    → filter (λ other. not (pointwise nat_eq other.name agg.name)) aggs ≡ aggs
filter_apart agg [] apart = refl
filter_apart agg (other ∷ aggs) apart =
    rw (turned other.name agg.name apart.0)
    (ap (λ (others : List Agg). other ∷ others) (filter_apart agg aggs apart.1))

once_already : (aggs : List Agg) → IsDistinct (pointwise nat_eq) (map (λ a. a.name) aggs)
    → first_of_each aggs ≡ aggs
unfolding IsDistinct
once_already [] apart = refl
once_already (agg ∷ aggs) apart =
    rw (once_already aggs apart.1)
    (ap (λ (others : List Agg). agg ∷ others) (filter_apart agg aggs apart.0))

kept_aggs : (select : Option (List Item)) (aggs : List Agg)
    → IsDistinct (pointwise nat_eq) (map (λ a. a.name) aggs)
    → first_of_each (kernels_of (selected select) ++ unwrap_or (some_of aggs) []) ≡ aggs
kept_aggs select aggs apart = rw (no_selected select, kept_list aggs) (once_already aggs apart)

kept_query : (q : Query) → IsValidQuery q → query_of (all_of q) ≡ q
kept_query q valid =
    let lets = kept_list q.lets in
    let select = kept_select q.select in
    let aggs = kept_aggs q.select q.aggs valid.aggs in
    let conds = kept_list q.conds in
    let order = kept_list q.order in
    λ i. record {
      lets = lets i;
      select = select i;
      aggs = aggs i;
      conds = conds i;
      group = q.group;
      order = order i;
      format = q.format;
    }

-- ---- each clause is a part

all_both : {X : Type 0} (P Q : X → Type 0) (xs : List X) → AllByRecursion P xs
    → AllByRecursion Q xs → AllByRecursion (λ x. P x × Q x) xs
all_both P Q [] all others = tt
all_both P Q (x ∷ xs) all others = ((all.0, others.0), all_both P Q xs all.1 others.1)

all_any : {X : Type 0} (P : X → Type 0) → ((x : X) → P x) → (xs : List X)
    → AllByRecursion P xs
all_any P is [] = tt
all_any P is (x ∷ xs) = (is x, all_any P is xs)

abbrev IsSaidLet : Let → Type 0
IsSaidLet l = IsLet l × SaysNumber l.op l.n

abbrev IsSaidAgg : Agg → Type 0
IsSaidAgg agg = SaysAttribute agg.kernel agg.attr

lets_step : (lets : List Let) (more : List Clause) (all : Clauses) (from middle : Tokens)
    → AllByRecursion IsSaidLet lets
    → Come (clause_tokens (key keyword.Let ∷ []) let_tokens lets) from middle
    → AreClauses more (record no_clauses { lets = some_of lets }) all middle
    → AreClauses (if_some grammar.lets lets ++ more) no_clauses all from
lets_step [] more all from middle said come are =
    subst (λ (r : Tokens). AreClauses more no_clauses all r) (sym come) are
lets_step (l ∷ lets) more all from middle said (r1, the, list) are =
    let parts =
    each_part LetPart let_tokens IsSaidLet (λ l is from to come. let_come l is.0 is.1 from to come)
    0 (l ∷ lets) said in (
      record no_clauses { lets = Some (l ∷ lets) },
      middle,
      refl,
      (r1, the, listed_come (λ number. LetPart) let_tokens 0 l lets r1 middle parts list),
      are,
    )

columns_come : (n : ℕ) (item : Item) (items : List Item) (from to : Tokens)
    → Come (listed item_tokens (item ∷ items)) from to
    → Listed (λ number. ItemPart) n (columns (item ∷ items)) from to
columns_come n item [] from to come = item_come item from to come
columns_come n item (next ∷ items) from to come =
    let both =
    come_split (item_tokens item) (sign signed.Comma ∷ listed item_tokens (next ∷ items)) from to
    come in
    let comma = both.2 in (
      both.0,
      item_come item from both.0 both.1,
      (
        comma.0,
        comma.1,
        columns_come (suc n) next items comma.0 to comma.2,
      ),
    )

-- the clauses up to each
abbrev up_to_select : Option (List Let) → Option (List Item) → Clauses
up_to_select lets select = record no_clauses { lets = lets; select = selected select }

abbrev up_to_group :
    Option (List Let) → Option Selection → Option (List Agg) → Option (List Cond)
    → Option (List (List ℕ)) → Clauses
up_to_group lets select aggs conds group = record no_clauses {
  lets = lets;
  select = select;
  aggs = aggs;
  conds = conds;
  group = group;
}

select_step : (lets : Option (List Let)) (select : Option (List Item)) (more : List Clause)
    (all : Clauses) (from middle : Tokens) → SaysItems select
    → Come (there_tokens (key keyword.Select ∷ []) item_tokens select) from middle
    → AreClauses more (record no_clauses { lets = lets; select = selected select }) all middle
    → AreClauses (if_there select_columns select ++ more) (record no_clauses { lets = lets }) all from
select_step lets None more all from middle says come are =
    subst (λ (r : Tokens). AreClauses more (record no_clauses { lets = lets }) all r) (sym come) are
select_step lets (Some []) more all from middle says come are = absurd says
select_step lets (Some (item ∷ items)) more all from middle says (r1, the, list) are = (
  record no_clauses { lets = lets; select = selected (Some (item ∷ items)) },
  middle,
  refl,
  (r1, the, columns_come 0 item items r1 middle list),
  are,
)

aggs_step : (lets : Option (List Let)) (select : Option Selection) (aggs : List Agg)
    (more : List Clause) (all : Clauses) (from middle : Tokens) → AllByRecursion IsSaidAgg aggs
    → Come (clause_tokens (key keyword.Aggregate ∷ []) agg_tokens aggs) from middle
    → AreClauses more (up_to_group lets select (some_of aggs) None None) all middle
    → AreClauses (if_some grammar.aggregate aggs ++ more) (up_to_group lets select None None None)
    all from
aggs_step lets select [] more all from middle said come are =
    subst (λ (r : Tokens). AreClauses more (up_to_group lets select None None None) all r)
    (sym come) are
aggs_step lets select (agg ∷ aggs) more all from middle said (r1, the, list) are =
    let parts = each_part AggPart agg_tokens IsSaidAgg agg_come 0 (agg ∷ aggs) said in (
      up_to_group lets select (Some (agg ∷ aggs)) None None,
      middle,
      refl,
      (r1, the, listed_come (λ number. AggPart) agg_tokens 0 agg aggs r1 middle parts list),
      are,
    )

conds_step : (lets : Option (List Let)) (select : Option Selection) (aggs : Option (List Agg))
    (conds : List Cond) (more : List Clause) (all : Clauses) (from middle : Tokens)
    → Come (clause_tokens (key keyword.Where ∷ []) cond_tokens conds) from middle
    → AreClauses more (up_to_group lets select aggs (some_of conds) None) all middle
    → AreClauses (if_some grammar.conds conds ++ more) (up_to_group lets select aggs None None) all
    from
conds_step lets select aggs [] more all from middle come are =
    subst (λ (r : Tokens). AreClauses more (up_to_group lets select aggs None None) all r)
    (sym come) are
conds_step lets select aggs (cond ∷ conds) more all from middle (r1, the, list) are =
    let parts =
    each_part CondPart cond_tokens (λ c. Unit {0}) (λ c any. cond_come c) 0 (cond ∷ conds)
    (all_any (λ c. Unit {0}) (λ c. tt) (cond ∷ conds)) in (
      up_to_group lets select aggs (Some (cond ∷ conds)) None,
      middle,
      refl,
      (r1, the, listed_come (λ number. CondPart) cond_tokens 0 cond conds r1 middle parts list),
      are,
    )

group_step : (lets : Option (List Let)) (select : Option Selection) (aggs : Option (List Agg))
    (conds : Option (List Cond)) (group : Option (List (List ℕ))) (more : List Clause)
    (all : Clauses) (from middle : Tokens) → SaysItems group
    → Come (there_tokens (key keyword.Group ∷ key keyword.By ∷ []) name_tokens group) from middle
    → AreClauses more (up_to_group lets select aggs conds group) all middle
    → AreClauses (if_there grammar.group group ++ more) (up_to_group lets select aggs conds None)
    all from
group_step lets select aggs conds None more all from middle says come are =
    subst (λ (r : Tokens). AreClauses more (up_to_group lets select aggs conds None) all r)
    (sym come) are
group_step lets select aggs conds (Some []) more all from middle says come are = absurd says
group_step lets select aggs conds (Some (name ∷ names)) more all from middle says
    (r1, the, (r2, by, list)) are =
    let parts =
    each_part Name name_tokens (λ n. Unit {0}) (λ n any. name_come n) 0 (name ∷ names)
    (all_any (λ n. Unit {0}) (λ n. tt) (name ∷ names)) in (
      up_to_group lets select aggs conds (Some (name ∷ names)),
      middle,
      refl,
      (r1, the, (r2, by, listed_come (λ number. Name) name_tokens 0 name names r2 middle parts list)),
      are,
    )

-- all clauses but the last
abbrev up_to_order :
    Option (List Let) → Option Selection → Option (List Agg) → Option (List Cond)
    → Option (List (List ℕ)) → Option (List OrderKey) → Clauses
up_to_order lets select aggs conds group order = record {
  lets = lets;
  select = select;
  aggs = aggs;
  conds = conds;
  group = group;
  order = order;
  format = None;
}

order_step : (lets : Option (List Let)) (select : Option Selection) (aggs : Option (List Agg))
    (conds : Option (List Cond)) (group : Option (List (List ℕ))) (order : List OrderKey)
    (more : List Clause) (all : Clauses) (from middle : Tokens)
    → Come (clause_tokens (key keyword.Order ∷ key keyword.By ∷ []) key_tokens order) from middle
    → AreClauses more (up_to_order lets select aggs conds group (some_of order)) all middle
    → AreClauses (if_some grammar.order order ++ more) (up_to_group lets select aggs conds group)
    all from
order_step lets select aggs conds group [] more all from middle come are =
    subst (λ (r : Tokens). AreClauses more (up_to_group lets select aggs conds group) all r)
    (sym come) are
order_step lets select aggs conds group (k ∷ order) more all from middle (r1, the, (r2, by, list))
    are =
    let parts =
    each_part KeyPart key_tokens (λ k. Unit {0}) (λ k any. key_come k) 0 (k ∷ order)
    (all_any (λ k. Unit {0}) (λ k. tt) (k ∷ order)) in (
      up_to_order lets select aggs conds group (Some (k ∷ order)),
      middle,
      refl,
      (r1, the, (r2, by, listed_come (λ number. KeyPart) key_tokens 0 k order r2 middle parts list)),
      are,
    )

format_step : (lets : Option (List Let)) (select : Option Selection) (aggs : Option (List Agg))
    (conds : Option (List Cond)) (group : Option (List (List ℕ)))
    (order : Option (List OrderKey)) (f : formats.Format) (place : ℕ) (from : Tokens)
    → Come (key keyword.Format ∷ word (format_name f) ∷ []) from (end place)
    → AreClauses (grammar.format f ∷ []) (up_to_order lets select aggs conds group order)
    (record (up_to_order lets select aggs conds group order) { format = Some f }) from
format_step lets select aggs conds group order f place from (r1, the, (r2, name, same)) = (
  record (up_to_order lets select aggs conds group order) { format = Some f },
  end place,
  refl,
  (
    format_name f,
    format_named-name f,
    (r1, the, inl (the_to (word (format_name f)) r1 r2 (end place) name same)),
  ),
  (refl, refl),
)

-- ---- every token of the text is read

clause_read : {X : Type 0} (keys : List Token) (item : X → List Token) (xs : List X)
    → AllByRecursion IsRead keys → AllByRecursion (λ x. AllByRecursion IsRead (item x)) xs
    → AllByRecursion IsRead (clause_tokens keys item xs)
clause_read keys item [] read all = tt
clause_read keys item (x ∷ xs) read all =
    all_append IsRead keys (listed item (x ∷ xs)) read (listed_read item (x ∷ xs) all)

there_read : {X : Type 0} (keys : List Token) (item : X → List Token) (xs : Option (List X))
    → AllByRecursion IsRead keys → ((x : X) → AllByRecursion IsRead (item x))
    → AllByRecursion IsRead (there_tokens keys item xs)
there_read keys item None read each = tt
there_read keys item (Some xs) read each =
    all_append IsRead keys (listed item xs) read
    (listed_read item xs (all_any (λ x. AllByRecursion IsRead (item x)) each xs))

all_then : {X : Type 0} (P Q : X → Type 0) → ((x : X) → P x → Q x) → (xs : List X)
    → AllByRecursion P xs → AllByRecursion Q xs
all_then P Q then [] all = tt
all_then P Q then (x ∷ xs) all = (then x all.0, all_then P Q then xs all.1)

query_read : (q : Query) → IsValidQuery q → IsSaid q → AllByRecursion IsRead (query_tokens q)
query_read q valid said =
    let by = key_read keyword.By in
    let order =
    clause_read (key keyword.Order ∷ key keyword.By ∷ []) key_tokens q.order
    (key_read keyword.Order, (by, tt))
    (all_any (λ k. AllByRecursion IsRead (key_tokens k)) order_read q.order) in
    let group =
    there_read (key keyword.Group ∷ key keyword.By ∷ []) name_tokens q.group
    (key_read keyword.Group, (by, tt)) (λ name. (name_read name, tt)) in
    let conds =
    clause_read (key keyword.Where ∷ []) cond_tokens q.conds (key_read keyword.Where, tt)
    (all_any (λ c. AllByRecursion IsRead (cond_tokens c)) cond_read q.conds) in
    let aggs =
    clause_read (key keyword.Aggregate ∷ []) agg_tokens q.aggs (key_read keyword.Aggregate, tt)
    (all_then IsSaidAgg (λ a. AllByRecursion IsRead (agg_tokens a)) agg_read q.aggs
    said.attributes) in
    let select =
    there_read (key keyword.Select ∷ []) item_tokens q.select (key_read keyword.Select, tt)
    item_read in
    let lets =
    clause_read (key keyword.Let ∷ []) let_tokens q.lets (key_read keyword.Let, tt)
    (all_then IsLet (λ l. AllByRecursion IsRead (let_tokens l)) let_read q.lets valid.lets) in
    all_append IsRead _ _ lets
    (all_append IsRead _ _ select
    (all_append IsRead _ _ aggs
    (all_append IsRead _ _ conds
    (all_append IsRead _ _ group
    (all_append IsRead _ _ order (key_read keyword.Format, (format_read q.format, tt)))))))

-- ---- the whole text

abbrev clauses_of : Query → List Clause
clauses_of q =
    if_some grammar.lets q.lets
    ++ (if_there select_columns q.select
    ++ (if_some grammar.aggregate q.aggs
    ++ (if_some grammar.conds q.conds
    ++ (if_there grammar.group q.group
    ++ (if_some grammar.order q.order ++ grammar.format q.format ∷ [])))))

tokens_mean : (q : Query) (place : ℕ) (from : Tokens) → IsValidQuery q → IsSaid q
    → Come (query_tokens q) from (end place) → AreClauses (clauses_of q) no_clauses (all_of q) from
tokens_mean q place from valid said come =
    let r1 = come_split (clause_tokens (key keyword.Let ∷ []) let_tokens q.lets) _ from (end place) come in
    let r2 = come_split (there_tokens (key keyword.Select ∷ []) item_tokens q.select) _ r1.0 (end place) r1.2 in
    let r3 = come_split (clause_tokens (key keyword.Aggregate ∷ []) agg_tokens q.aggs) _ r2.0 (end place) r2.2 in
    let r4 = come_split (clause_tokens (key keyword.Where ∷ []) cond_tokens q.conds) _ r3.0 (end place) r3.2 in
    let r5 = come_split (there_tokens (key keyword.Group ∷ key keyword.By ∷ []) name_tokens q.group) _ r4.0 (end place) r4.2 in
    let r6 = come_split (clause_tokens (key keyword.Order ∷ key keyword.By ∷ []) key_tokens q.order) _ r5.0 (end place) r5.2 in
    let lets = some_of q.lets in
    let select = selected q.select in
    let aggs = some_of q.aggs in
    let conds = some_of q.conds in
    lets_step q.lets _ (all_of q) from r1.0 (all_both IsLet (λ l. SaysNumber l.op l.n) q.lets valid.lets said.numbers) r1.1
    (select_step lets q.select _ (all_of q) r1.0 r2.0 said.select r2.1
    (aggs_step lets select q.aggs _ (all_of q) r2.0 r3.0 said.attributes r3.1
    (conds_step lets select aggs q.conds _ (all_of q) r3.0 r4.0 r4.1
    (group_step lets select aggs conds q.group _ (all_of q) r4.0 r5.0 said.group r5.1
    (order_step lets select aggs conds q.group q.order _ (all_of q) r5.0 r6.0 r6.1
    (format_step lets select aggs conds q.group (some_of q.order) q.format place r6.0 r6.2))))))

pub query_text_means : (q : Query) → IsValidQuery q → IsSaid q → Means (query_text q) q
query_text_means q valid said =
    let whole = length (query_text q) in
    let come = text_comes whole (query_tokens q) (query_read q valid said) in
    record {
      clauses = clauses_of q;
      all = all_of q;
      are = tokens_mean q whole (tokens_of (query_text q)) valid said come;
      makes = kept_query q valid;
    }
