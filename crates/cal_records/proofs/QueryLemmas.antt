-- The query of a channel is made, and is valid.
use Rattle.std.proofs.Common.{◌≡◌, ℕ, ◌+◌, ◌<◌, Bool, true, false, not, List, [], ◌∷◌, ◌++◌}
use Rattle.std.proofs.Common.{length, get_or, take, refl, sym, ap, ◌∙◌, append-nil}
use Rattle.std.specs.BTreeSet.{BTreeSet, contains}
use Rattle.cal_profile.specs.Groups.{agg_of, aggs_of, channel_query, value_aggs}
use Rattle.cal_value.specs.Texts.{text_cmp}
use Rattle.std.specs.List.{flat_map}
use Rattle.std.proofs.lemmas.Bool.{cond-false, cond-true}
use Rattle.std.proofs.lemmas.Grind.{flat_map-append}
use Rattle.std.proofs.lemmas.List.{take_more}
use Rattle.cal_ql.proofs.Onces.{all_once, known_name}
use Rattle.cal_ql.proofs.ValidAggs.{first_of_each_distinct}
use Rattle.cal_ql.specs.Kernels.{first_of_each, result_name}
use Rattle.cal_ql.specs.Once.{has_name, with_all_new, with_new}
use Rattle.cal_ql.specs.Valid.{IsValidQuery}
use Rattle.cal_ql.specs.declared.names.KernelName as kernels
use Rattle.cal_ql.specs.declared.query.Agg.{Agg}
use Rattle.cal_script.specs.declared.script.ChannelQuery.{ChannelQuery}

with_all_new-append : (kept aggs others : List Agg)
    → with_all_new kept (aggs ++ others) ≡ with_all_new (with_all_new kept aggs) others
with_all_new-append kept [] others = refl
with_all_new-append kept (agg ∷ aggs) others = with_all_new-append (with_new kept agg) aggs others

-- the results of one value attribute more
pub results-more : (values : List (List ℕ)) (i : ℕ) (v : List ℕ) → i < length values
    → v ≡ get_or values i v
    → with_all_new [] (aggs_of (take (i + 1) values))
    ≡ with_all_new (with_all_new [] (aggs_of (take i values))) (value_aggs v)
results-more values i v below is =
    let all : take (i + 1) values ≡ take i values ++ v ∷ [] = take_more values i v below
    ∙ ap (λ x. take i values ++ x ∷ []) (sym is) in
    let flat : flat_map value_aggs (take i values ++ v ∷ [])
    ≡ flat_map value_aggs (take i values) ++ value_aggs v =
    flat_map-append value_aggs (take i values) (v ∷ [])
    ∙ ap (λ xs. flat_map value_aggs (take i values) ++ xs) (append-nil (value_aggs v)) in
    ap (λ vs. with_all_new [] (aggs_of vs)) all
    ∙ ap (λ xs. with_all_new [] (aggs_of [] ++ xs)) flat
    ∙ with_all_new-append [] (aggs_of (take i values)) (value_aggs v)

-- all of them are kept, each name once
pub results-all : (values : List (List ℕ))
    → with_all_new [] (aggs_of values) ≡ first_of_each (aggs_of values)
results-all values = all_once (aggs_of values) [] ∙ ap first_of_each (append-nil (aggs_of values))

-- the query of a channel has no definitions, and no two kernels of one name
pub valid-query : (channel : ChannelQuery) → IsValidQuery (channel_query channel)
valid-query channel = record { lets = tt; aggs = first_of_each_distinct (aggs_of channel.values) }

-- ---- one kernel more

module _ (names : BTreeSet (List ℕ)) (aggs : List Agg) (kernel : kernels.KernelName)
    (attr copied name : List ℕ) (new : Bool)
    (named : (q : List ℕ) → contains text_cmp names q ≡ has_name aggs q) (same : copied ≡ attr)
    (is : name ≡ result_name kernel attr)
    (told : new ≡ not (contains text_cmp names name)) where
  -- whether one of its name is there
  known : has_name aggs (result_name kernel attr) ≡ not new
  known = ap (has_name aggs) (sym is) ∙ known_name names aggs name new named told

  pub kept_new : new ≡ true
      → aggs ++ record { kernel = kernel; attr = copied; name = name } ∷ []
      ≡ with_new aggs (agg_of kernel attr)
  kept_new fresh =
      (λ i. aggs ++ record { kernel = kernel; attr = same i; name = is i } ∷ [])
      ∙ sym (cond-false _ _ _ (known ∙ ap not fresh))

  pub kept_old : new ≡ false → aggs ≡ with_new aggs (agg_of kernel attr)
  kept_old stale = sym (cond-true _ _ _ (known ∙ ap not stale))
