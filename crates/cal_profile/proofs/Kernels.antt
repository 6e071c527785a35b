-- The kernels of a channel: each has a name of its own, and none is an average.
use Rattle.std.proofs.Common.{◌≡◌, ℕ, zero, suc, Bool, true, false, not, ◌||◌, List, [], ◌∷◌}
use Rattle.std.proofs.Common.{◌++◌, filter, map, refl, sym, ap, subst, ◌∙◌, arith, Contains}
use Rattle.std.specs.Prelude.{codes, flat_map, nat_eq}
use Rattle.std.specs.Cmp.Lexicographic.{bytes_decides, pointwise}
use Rattle.std.specs.List.{AllByRecursion, IsDistinct, list_any}
use Rattle.std.proofs.lemmas.List.Elements.{Contains-append_left, Contains-append_right}
use Rattle.cal_profile.specs.Groups.{agg_of, aggs_of, channel_query, value_aggs}
use Rattle.cal_profile.proofs.Lists.{Contains-cases, Contains-cons, Contains-first, Contains-nil}
use Rattle.cal_profile.proofs.Lists.{filter_all, holds_of}
use Rattle.cal_profile.proofs.KeptKeys.{apart_turned}
use Rattle.cal_ql.specs.Kernels.{first_of_each}
use Rattle.cal_ql.specs.declared.names.KernelName as kernels
use Rattle.cal_ql.specs.declared.names.KernelName.TheVariants as kernel
use Rattle.cal_ql.specs.declared.query.Agg.{Agg}
use Rattle.cal_rowset.specs.Texts.{is_same}
use Rattle.cal_script.specs.declared.script.ChannelQuery.{ChannelQuery}

-- ---- their names

abbrev pub names_of : List Agg → List (List ℕ)
names_of aggs = map (λ agg. agg.name) aggs

abbrev AreApart : List ℕ → List Agg → Type 0
AreApart name aggs = AllByRecursion (λ other. pointwise nat_eq name other ≡ false) (names_of aggs)

-- a name that is apart from all of one value attribute's results and from those of others
count_apart : (values : List (List ℕ)) → AreApart (codes "count") (flat_map value_aggs values)
count_apart [] = tt
count_apart (v ∷ vs) = (refl, (refl, (refl, count_apart vs)))

module _ (attr : List ℕ) where
  abbrev IsOther : List (List ℕ) → Type 0
  IsOther values = AllByRecursion (λ other. pointwise nat_eq attr other ≡ false) values

  sum_apart : (values : List (List ℕ)) → IsOther values
      → AreApart (codes "sum#" ++ attr) (flat_map value_aggs values)
  sum_apart [] others = tt
  sum_apart (v ∷ vs) others = (others.0, (refl, (refl, sum_apart vs others.1)))

  least_apart : (values : List (List ℕ)) → IsOther values
      → AreApart (codes "min#" ++ attr) (flat_map value_aggs values)
  least_apart [] others = tt
  least_apart (v ∷ vs) others = (refl, (others.0, (refl, least_apart vs others.1)))

  most_apart : (values : List (List ℕ)) → IsOther values
      → AreApart (codes "max#" ++ attr) (flat_map value_aggs values)
  most_apart [] others = tt
  most_apart (v ∷ vs) others = (refl, (refl, (others.0, most_apart vs others.1)))

values_distinct : (values : List (List ℕ)) → IsDistinct (pointwise nat_eq) values
    → IsDistinct (pointwise nat_eq) (names_of (flat_map value_aggs values))
unfolding IsDistinct
values_distinct [] once = tt
values_distinct (v ∷ vs) once = (
  (refl, (refl, sum_apart v vs once.0)),
  ((refl, least_apart v vs once.0), (most_apart v vs once.0, values_distinct vs once.1)),
)

pub names_distinct : (values : List (List ℕ)) → IsDistinct (pointwise nat_eq) values
    → IsDistinct (pointwise nat_eq) (names_of (aggs_of values))
unfolding IsDistinct
names_distinct values once = (count_apart values, values_distinct values once)

-- where names are apart each kernel is the first of its name
first_alone : (aggs : List Agg) → IsDistinct (pointwise nat_eq) (names_of aggs)
    → first_of_each aggs ≡ aggs
unfolding IsDistinct
first_alone [] once = refl
first_alone (agg ∷ aggs) once = ap (λ others. agg ∷ others) (
    ap (filter (λ other. not (pointwise nat_eq other.name agg.name))) (first_alone aggs once.1)
    ∙ filter_all (λ other. not (pointwise nat_eq other.name agg.name)) aggs (others aggs once.0))
  where
    others : (aggs : List Agg) → AreApart agg.name aggs
        → AllByRecursion (λ other. not (pointwise nat_eq other.name agg.name) ≡ true) aggs
    others [] apart = tt
    others (other ∷ aggs) apart =
        (ap not (apart_turned agg.name other.name apart.0), others aggs apart.1)

-- no result is named `path`
path_apart : (values : List (List ℕ))
    → list_any (λ agg. is_same agg.name (codes "path")) (flat_map value_aggs values) ≡ false
path_apart [] = refl
path_apart (v ∷ vs) = path_apart vs

-- ---- the kernels that are kept

module _ (channel : ChannelQuery) (once : IsDistinct (pointwise nat_eq) channel.values) where
  pub aggs_are : (channel_query channel).aggs ≡ aggs_of channel.values
  aggs_are = first_alone (aggs_of channel.values) (names_distinct channel.values once)

  pub kept_distinct : IsDistinct (pointwise nat_eq) (names_of (channel_query channel).aggs)
  kept_distinct = subst (λ aggs. IsDistinct (pointwise nat_eq) (names_of aggs)) (sym aggs_are)
      (names_distinct channel.values once)

  pub path_no_result :
      list_any (λ agg. is_same agg.name (codes "path")) (channel_query channel).aggs ≡ false
  path_no_result = ap (list_any (λ agg. is_same agg.name (codes "path"))) aggs_are
      ∙ path_apart channel.values

  kept_from : (agg : Agg) → Contains (aggs_of channel.values) agg
      → Contains (channel_query channel).aggs agg
  kept_from agg there = subst (λ aggs. Contains aggs agg) (sym aggs_are) there

  pub count_kept : Contains (channel_query channel).aggs (agg_of kernel.Count [])
  count_kept = kept_from (agg_of kernel.Count []) (0, omega arith, refl)

  picked : (pick : List ℕ → Agg) → ((a : List ℕ) → Contains (value_aggs a) (pick a))
      → (values : List (List ℕ)) (attr : List ℕ) → Contains values attr
      → Contains (flat_map value_aggs values) (pick attr)
  picked pick has [] attr there = absurd (Contains-nil attr there)
  picked pick has (v ∷ vs) attr (zero, short, is) =
      Contains-append_left (value_aggs v) (flat_map value_aggs vs) (pick attr)
      (subst (λ a. Contains (value_aggs a) (pick attr)) (sym is) (has attr))
  picked pick has (v ∷ vs) attr (suc k, short, is) =
      Contains-append_right (value_aggs v) (flat_map value_aggs vs) (pick attr)
      (picked pick has vs attr (k, omega arith, is))

  value_kept : (pick : List ℕ → Agg) → ((a : List ℕ) → Contains (value_aggs a) (pick a))
      → (attr : List ℕ) → Contains channel.values attr
      → Contains (channel_query channel).aggs (pick attr)
  value_kept pick has attr there = kept_from (pick attr)
      (Contains-append_right (agg_of kernel.Count [] ∷ []) (flat_map value_aggs channel.values)
      (pick attr) (picked pick has channel.values attr there))

  pub sum_kept : (attr : List ℕ) → Contains channel.values attr
      → Contains (channel_query channel).aggs (agg_of kernel.Sum attr)
  sum_kept = value_kept (agg_of kernel.Sum) (λ a. (0, omega arith, refl))

  pub least_kept : (attr : List ℕ) → Contains channel.values attr
      → Contains (channel_query channel).aggs (agg_of kernel.Min attr)
  least_kept = value_kept (agg_of kernel.Min) (λ a. (1, omega arith, refl))

  pub most_kept : (attr : List ℕ) → Contains channel.values attr
      → Contains (channel_query channel).aggs (agg_of kernel.Max attr)
  most_kept = value_kept (agg_of kernel.Max) (λ a. (2, omega arith, refl))

-- the name of a kernel that is there is among the names of results
pub known_among : (aggs : List Agg) (agg : Agg) → Contains aggs agg
    → list_any (λ other. is_same other.name agg.name) aggs ≡ true
known_among [] agg there = absurd (Contains-nil agg there)
known_among (a ∷ aggs) agg (zero, short, is) =
    let own : is_same a.name agg.name ≡ true =
    (bytes_decides a.name agg.name).1 (ap (λ x. x.name) is) in
    rw own refl
known_among (a ∷ aggs) agg (suc k, short, is) =
    or_true (is_same a.name agg.name) _ (known_among aggs agg (k, omega arith, is))
  where
    or_true : (a b : Bool) → b ≡ true → (a || b) ≡ true
    or_true true b e = refl
    or_true false b e = e
