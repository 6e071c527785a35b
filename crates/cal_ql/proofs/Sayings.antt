-- What a text means is what a text can say.
use Rattle.std.proofs.Common.{◌≡◌, ℕ, ℤ, pos, suc, Bool, true, false, List, [], ◌∷◌, ◌++◌, length, Some, None, refl, sym, ap, subst, ◌∙◌, inl, inr}
use Rattle.std.specs.Prelude.{map, filter, unwrap_or, is_some}
use Rattle.std.specs.List.{AllByRecursion, filter_map}
use Rattle.cal_ql.specs.declared.clauses.Clauses.{Clauses}
use Rattle.cal_ql.specs.declared.select.Picked as picks
use Rattle.cal_ql.specs.declared.select.Picked.TheVariants as picked
use Rattle.cal_ql.specs.declared.names.Op as ops
use Rattle.cal_ql.specs.declared.names.Op.TheVariants as op
use Rattle.cal_ql.specs.declared.names.KernelName as kernels
use Rattle.cal_ql.specs.declared.names.KernelName.TheVariants as kernel
use Rattle.cal_ql.specs.declared.lets.Argument as arguments
use Rattle.cal_ql.specs.declared.lets.Argument.TheVariants as argument
use Rattle.cal_ql.specs.declared.query.Let.{Let}
use Rattle.cal_ql.specs.declared.query.Agg.{Agg}
use Rattle.cal_ql.specs.declared.query.Query.{Query}
use Rattle.cal_ql.specs.Tokens.{Tokens}
use Rattle.cal_ql.specs.Lets.{is_number_place, let_of, names_in, number_of, takes}
use Rattle.cal_ql.specs.Kernels.{attr_of, first_of_each, item_of, kernel_of}
use Rattle.cal_ql.specs.Clauses.{items_of, kernels_of, no_clauses, query_of, selected_all, selection_of}
use Rattle.cal_ql.specs.Grammar as grammar
use Rattle.cal_ql.specs.Grammar.{AggPart, AreClauses, Argument, Clause, ClausePart, ItemPart, LetPart, Listed, Means, Name, Part, if_new, with_clause}
use Rattle.cal_ql.specs.Valid.{IsSaid, SaysAttribute, SaysItems, SaysNumber}
use Rattle.cal_ql.proofs.Choices.{chosen, either_way}
use Rattle.cal_ql.proofs.Writings.{all_append}

-- ---- lists

-- what each part says holds of all that are listed
listed_all : {X : Type 0} (part : ℕ → X → Part) (P : X → Type 0)
    → ((n : ℕ) (x : X) (from to : Tokens) → part n x from to → P x)
    → (n : ℕ) (xs : List X) (from to : Tokens) → Listed part n xs from to → AllByRecursion P xs
listed_all part P says n [] from to list = absurd list
listed_all part P says n (x ∷ []) from to list = (says n x from to list, tt)
listed_all part P says n (x ∷ y ∷ xs) from to (r1, one, (r2, comma, list)) =
    (says n x from r1 one, listed_all part P says (suc n) (y ∷ xs) r2 to list)

listed_some : {X : Type 0} (part : ℕ → X → Part) (n : ℕ) (xs : List X) (from to : Tokens)
    → Listed part n xs from to → SaysItems (Some xs)
listed_some part n [] from to list = absurd list
listed_some part n (x ∷ xs) from to list = tt

all_kept : {X : Type 0} (P : X → Type 0) (p : X → Bool) (xs : List X) → AllByRecursion P xs
    → AllByRecursion P (filter p xs)
all_kept P p [] all = tt
all_kept P p (x ∷ xs) all =
    elim (either_way (p x)) [
      | inl kept ↦ rw kept (all.0, all_kept P p xs all.1)
      | inr left ↦ rw left (all_kept P p xs all.1)
    ]

-- ---- definitions and kernels

no_number_among : (o : ops.Op) (n : ℕ) (found : List arguments.Argument) (from to : Tokens)
    → ((number : ℕ) → is_number_place o number ≡ false)
    → Listed (Argument o) n found from to → number_of found ≡ None
no_number_among o n [] from to none list = absurd list
no_number_among o n (argument.Name name ∷ []) from to none list = refl
no_number_among o n (argument.Name name ∷ next ∷ found) from to none (r1, one, (r2, comma, list)) =
    no_number_among o (suc n) (next ∷ found) r2 to none list
no_number_among o n (argument.Number m ∷ []) from to none list =
    absurd (let both : true ≡ false = sym list.0 ∙ none n in cc)
no_number_among o n (argument.Number m ∷ next ∷ found) from to none (r1, one, others) =
    absurd (let both : true ≡ false = sym one.0 ∙ none n in cc)

says_number : (o : ops.Op) (found : List arguments.Argument) (n : ℤ) (from to : Tokens)
    → Listed (Argument o) 0 found from to → n ≡ unwrap_or (number_of found) (pos 1)
    → SaysNumber o n
says_number op.Truncate found n from to list is = tt
says_number op.Scale found n from to list is = tt
says_number op.Ratio found n from to list is = tt
says_number op.First found n from to list is =
    is ∙ rw (no_number_among op.First 0 found from to (λ number. refl) list) refl
says_number op.Sum found n from to list is =
    is ∙ rw (no_number_among op.Sum 0 found from to (λ number. refl) list) refl

made_number : (name : List ℕ) (o : ops.Op) (found : List arguments.Argument) (l : Let)
    → let_of name o found ≡ Some l → l.n ≡ unwrap_or (number_of found) (pos 1)
made_number name o found l e =
    elim (chosen (takes o (length (names_in found)) (number_of found)) _ None (Some l) e) [
      | inl taken ↦ (
          let made : Let = record {
            name = name;
            op = o;
            args = names_in found;
            n = unwrap_or (number_of found) (pos 1);
          } in
          let there : Some made ≡ Some l = taken.1 in
          let same : made ≡ l = cc in ap (λ (d : Let). d.n) (sym same))
      | inr wrong ↦ absurd (let none : None ≡ Some l = wrong.1 in cc)
    ]

let_says : (n : ℕ) (l : Let) (from to : Tokens) → LetPart l from to → SaysNumber l.op l.n
let_says n l from to (call, (r1, name, (r2, equals, (r3, o, (r4, open_, (r5, list, close)))))) =
    says_number l.op call.arguments l.n r4 r5 list
    (made_number l.name l.op call.arguments l call.makes)

attr_says : (k : kernels.KernelName) (names : List (List ℕ)) (attr : List ℕ)
    → attr_of k names ≡ Some attr → SaysAttribute k attr
attr_says kernel.Count [] attr e = let none : [] ≡ attr = cc in sym none
attr_says kernel.Count (name ∷ names) attr e = absurd cc
attr_says kernel.Sum names attr e = tt
attr_says kernel.Min names attr e = tt
attr_says kernel.Max names attr e = tt
attr_says kernel.Avg names attr e = tt
attr_says kernel.Inclusive names attr e = tt
attr_says kernel.Percent names attr e = tt

abbrev IsSaidAgg : Agg → Type 0
IsSaidAgg agg = SaysAttribute agg.kernel agg.attr

agg_says : (n : ℕ) (agg : Agg) (from to : Tokens) → AggPart agg from to → IsSaidAgg agg
agg_says n agg from to (call, others) = attr_says agg.kernel call.names agg.attr call.is_attr

abbrev IsSaidItem : picks.Picked → Type 0
IsSaidItem (picked.Column item) = Unit {0}
IsSaidItem (picked.Kernel agg) = IsSaidAgg agg

item_says : (n : ℕ) (item : picks.Picked) (from to : Tokens) → ItemPart item from to
    → IsSaidItem item
item_says n (picked.Column item) from to part = tt
item_says n (picked.Kernel agg) from to part = agg_says n agg from to part

kernels_said : (items : List picks.Picked) → AllByRecursion IsSaidItem items
    → AllByRecursion IsSaidAgg (filter_map kernel_of items)
kernels_said [] all = tt
kernels_said (picked.Column item ∷ items) all = kernels_said items all.1
kernels_said (picked.Kernel agg ∷ items) all = (all.0, kernels_said items all.1)

columns_said : (items : List picks.Picked) → SaysItems (Some items)
    → SaysItems (Some (map item_of items))
columns_said [] some = some
columns_said (item ∷ items) some = tt

once_said : (aggs : List Agg) → AllByRecursion IsSaidAgg aggs
    → AllByRecursion IsSaidAgg (first_of_each aggs)
once_said [] all = tt
once_said (agg ∷ aggs) all =
    (all.0, all_kept IsSaidAgg _ (first_of_each aggs) (once_said aggs all.1))

-- ---- clauses

-- what the clauses so far say
record AreSaid (clauses : Clauses) : Type 0 where
  numbers : AllByRecursion (λ l. SaysNumber l.op l.n) (unwrap_or clauses.lets [])
  selected : AllByRecursion IsSaidAgg (kernels_of clauses.select)
  aggs : AllByRecursion IsSaidAgg (unwrap_or clauses.aggs [])
  select : SaysItems (items_of clauses.select)
  group : SaysItems clauses.group

-- where a kind is new, the clauses have it from then on
made_said : (there : Bool) (made next : Clauses) → if_new there made ≡ Some next → AreSaid made
    → AreSaid next
made_said true made next e said = absurd cc
made_said false made next e said = let same : made ≡ next = cc in subst AreSaid same said

clause_said : (c : Clause) (before next : Clauses) (from to : Tokens) → AreSaid before
    → with_clause c before ≡ Some next → ClausePart c from to → AreSaid next
clause_said (grammar.lets list) before next from to said made (r1, the, items) =
    made_said (is_some before.lets) (record before { lets = Some list }) next made (record {
      numbers =
          listed_all (λ number. LetPart) (λ l. SaysNumber l.op l.n) let_says 0 list r1 to items;
      selected = said.selected;
      aggs = said.aggs;
      select = said.select;
      group = said.group;
    })
clause_said grammar.every before next from to said made (r1, the, star) =
    made_said (is_some before.select) (record before { select = Some selected_all }) next made
    (record {
      numbers = said.numbers;
      selected = tt;
      aggs = said.aggs;
      select = tt;
      group = said.group;
    })
clause_said (grammar.select list) before next from to said made (r1, the, items) =
    made_said (is_some before.select) (record before { select = Some (selection_of list) }) next
    made
    (record {
      numbers = said.numbers;
      selected =
          kernels_said list (listed_all (λ number. ItemPart) IsSaidItem item_says 0 list r1 to items);
      aggs = said.aggs;
      select = columns_said list (listed_some (λ number. ItemPart) 0 list r1 to items);
      group = said.group;
    })
clause_said (grammar.aggregate list) before next from to said made (r1, the, items) =
    made_said (is_some before.aggs) (record before { aggs = Some list }) next made (record {
      numbers = said.numbers;
      selected = said.selected;
      aggs = listed_all (λ number. AggPart) IsSaidAgg agg_says 0 list r1 to items;
      select = said.select;
      group = said.group;
    })
clause_said (grammar.conds list) before next from to said made part =
    made_said (is_some before.conds) (record before { conds = Some list }) next made (record {
      numbers = said.numbers;
      selected = said.selected;
      aggs = said.aggs;
      select = said.select;
      group = said.group;
    })
clause_said (grammar.group list) before next from to said made (r1, the, (r2, by, items)) =
    made_said (is_some before.group) (record before { group = Some list }) next made (record {
      numbers = said.numbers;
      selected = said.selected;
      aggs = said.aggs;
      select = said.select;
      group = listed_some (λ number. Name) 0 list r2 to items;
    })
clause_said (grammar.order list) before next from to said made part =
    made_said (is_some before.order) (record before { order = Some list }) next made (record {
      numbers = said.numbers;
      selected = said.selected;
      aggs = said.aggs;
      select = said.select;
      group = said.group;
    })
clause_said (grammar.format f) before next from to said made part =
    made_said (is_some before.format) (record before { format = Some f }) next made (record {
      numbers = said.numbers;
      selected = said.selected;
      aggs = said.aggs;
      select = said.select;
      group = said.group;
    })

clauses_said : (cs : List Clause) (before all : Clauses) (ts : Tokens) → AreSaid before
    → AreClauses cs before all ts → AreSaid all
clauses_said [] before all ts said are = subst AreSaid are.0 said
clauses_said (c ∷ cs) before all ts said (next, rest, made, part, others) =
    clauses_said cs next all rest (clause_said c before next ts rest said made part) others

query_said : (all : Clauses) → AreSaid all → IsSaid (query_of all)
query_said all said = record {
  numbers = said.numbers;
  attributes =
      once_said (kernels_of all.select ++ unwrap_or all.aggs [])
      (all_append IsSaidAgg (kernels_of all.select) (unwrap_or all.aggs []) said.selected said.aggs);
  select = said.select;
  group = said.group;
}

pub means_said : (text : List ℕ) (query : Query) → Means text query → IsSaid query
means_said text query means =
    let none : AreSaid no_clauses =
    record { numbers = tt; selected = tt; aggs = tt; select = tt; group = tt } in
    subst IsSaid means.makes
    (query_said means.all (clauses_said means.clauses no_clauses means.all _ none means.are))
