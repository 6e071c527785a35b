-- The entries of results by their names.
use Rattle.std.proofs.Common.{◌≡◌, ℕ, zero, suc, ◌<◌, Bool, true, false, ◌||◌, List, [], ◌∷◌}
use Rattle.std.proofs.Common.{filter, map, refl, sym, ap, ◌∙◌, true≢false, arith, length, get_or}
use Rattle.std.proofs.Common.{Option, None, Some, option_map, Contains}
use Rattle.std.specs.Prelude.{nat_eq}
use Rattle.std.specs.Cmp.Lexicographic.{bytes_decides, pointwise}
use Rattle.std.specs.List.{AllByRecursion, IsDistinct, cons_option, filter_map, last_or, list_any}
use Rattle.std.specs.Option.{option_to_list}
use Rattle.std.proofs.lemmas.Bool.{or_parts}
use Rattle.cal_agg.specs.declared.num.Num.{Num}
use Rattle.cal_agg.specs.declared.num.Num.TheVariants.{Whole, Fixed}
use Rattle.cal_parts.proofs.SameTexts.{same_texts}
use Rattle.cal_filter.specs.Kept.{result_entry}
use Rattle.cal_filter.specs.Named.{is_named}
use Rattle.cal_filter.specs.Numbers.{number_in, value_of_number}
use Rattle.cal_profile.specs.TableRows.{entry_for}
use Rattle.cal_profile.proofs.KeptKeys.{apart_turned}
use Rattle.cal_ql.specs.declared.query.Agg.{Agg}
use Rattle.cal_rowset.specs.Texts.{is_same}
use Rattle.cal_value.specs.declared.attribute.Entry.{Entry}

pub named_other : (name n : List ℕ) (e : Entry) → e.attr.name ≡ n → is_same n name ≡ false
    → is_named name e ≡ false
named_other name n e is apart =
    sym (same_texts e.attr.name name) ∙ ap (λ x. is_same x name) is ∙ apart

named_own : (name : List ℕ) (e : Entry) → e.attr.name ≡ name → is_named name e ≡ true
named_own name e is = sym (same_texts e.attr.name name) ∙ (bytes_decides e.attr.name name).1 is

-- one entry in front, of another name or of its own
next_other : (test : Entry → Bool) (agg : Agg) (es : List Entry) (n : Option Num)
    → ((e : Entry) → e.attr.name ≡ agg.name → test e ≡ false)
    → filter test (cons_option (entry_for agg n) es) ≡ filter test es
next_other test agg es None other = refl
next_other test agg es (Some n) other =
    let one = other (result_entry agg.name (value_of_number n)) refl in rw one refl

next_own : (test : Entry → Bool) (agg : Agg) (es : List Entry) (n : Option Num)
    → ((e : Entry) → e.attr.name ≡ agg.name → test e ≡ true) → filter test es ≡ []
    → filter test (cons_option (entry_for agg n) es) ≡ option_to_list (entry_for agg n)
next_own test agg es None own none = none
next_own test agg es (Some n) own none =
    let entry = result_entry agg.name (value_of_number n) in
    let one = own entry refl in rw one (ap (λ xs. entry ∷ xs) none)

-- no other result has the name
apart_from : (name : List ℕ) (aggs : List Agg)
    → AllByRecursion (λ other. pointwise nat_eq name other ≡ false) (map (λ agg. agg.name) aggs)
    → list_any (λ agg. is_same agg.name name) aggs ≡ false
apart_from name [] h = refl
apart_from name (agg ∷ aggs) h = λ i. apart_turned name agg.name h.0 i || apart_from name aggs h.1 i

-- o is what each kernel comes to, if anything
module _ (o : Agg → Option Num) where
  abbrev pub entry_of : Agg → Option Entry
  entry_of agg = entry_for agg (o agg)

  -- no result has the name
  pub results_apart : (test : Entry → Bool) (name : List ℕ)
      → ((n : List ℕ) (e : Entry) → e.attr.name ≡ n → is_same n name ≡ false → test e ≡ false)
      → (aggs : List Agg) → list_any (λ agg. is_same agg.name name) aggs ≡ false
      → filter test (filter_map entry_of aggs) ≡ []
  results_apart test name so [] h = refl
  results_apart test name so (agg ∷ aggs) h =
      let apart = or_parts (is_same agg.name name) (list_any (λ a. is_same a.name name) aggs) h in
      next_other test agg (filter_map entry_of aggs) (o agg) (λ e is. so agg.name e is apart.0)
      ∙ results_apart test name so aggs apart.1

  -- the entries of a result's name: the result, if it is there
  pub results_named : (aggs : List Agg)
      → IsDistinct (pointwise nat_eq) (map (λ agg. agg.name) aggs) → (agg : Agg)
      → Contains aggs agg
      → filter (is_named agg.name) (filter_map entry_of aggs) ≡ option_to_list (entry_of agg)
  unfolding IsDistinct
  results_named [] distinct agg there = absurd (omega (arith, there.1))
  results_named (first ∷ aggs) distinct agg (zero, short, is) =
      ap (λ a. filter (is_named a.name) (filter_map entry_of (first ∷ aggs))) (sym is)
      ∙ next_own (is_named first.name) first (filter_map entry_of aggs) (o first)
      (named_own first.name)
      (results_apart (is_named first.name) first.name (named_other first.name) aggs
      (apart_from first.name aggs distinct.0))
      ∙ ap (λ a. option_to_list (entry_of a)) is
  results_named (first ∷ aggs) distinct agg (suc k, short, is) =
      next_other (is_named agg.name) first (filter_map entry_of aggs) (o first)
      (λ e named. named_other agg.name first.name e named
      (apart aggs k (omega arith) is distinct.0))
      ∙ results_named aggs distinct.1 agg (k, omega arith, is)
    where
      apart : (aggs : List Agg) (k : ℕ) → k < length aggs → get_or aggs k agg ≡ agg
          → AllByRecursion (λ other. pointwise nat_eq first.name other ≡ false)
          (map (λ agg. agg.name) aggs)
          → is_same first.name agg.name ≡ false
      apart [] k l is h = absurd (omega arith)
      apart (a ∷ aggs) zero l is h = ap (λ x. is_same first.name x.name) (sym is) ∙ h.0
      apart (a ∷ aggs) (suc k) l is h = apart aggs k (omega arith) is h.1

-- the number of a result's entry is the result
pub number_again : (agg : Agg) (n : Option Num)
    → last_or None (filter_map (λ e. number_in e.value) (option_to_list (entry_for agg n))) ≡ n
number_again agg None = refl
number_again agg (Some (Whole z)) = refl
number_again agg (Some (Fixed z)) = refl
