-- The attributes of results, one kind more at a time.
use Rattle.std.proofs.Common.{◌≡◌, ℕ, ◌+◌, ◌<◌, ◌≤◌, List, ◌⊎◌, inl, inr, length, slice_set}
use Rattle.std.proofs.Common.{refl, sym, ◌∙◌, ap, subst, arith, get_or}
use Rattle.std.proofs.lemmas.Bool.{cases_lt}
use Rattle.std.proofs.lemmas.List.{get_or-set_other}
use Rattle.std.proofs.lemmas.Grind.{get_or-set_at}
use Rattle.cal_context.specs.Tree.{Tree, Grows}
use Rattle.cal_context.proofs.CallerLemmas.{attribute_at-Grows, within_attributes}
use Rattle.cal_context.specs.declared.numbers.AttributeNumber.{AttributeNumber}
use Rattle.cal_value.specs.Kinds.{every_kind}
use Rattle.cal_value.specs.declared.kind.Kind as kinds
use Rattle.cal_value.specs.declared.kind.Kind.TheVariants as kind
use Rattle.cal_filter.specs.Kept.{result_attribute}
use Rattle.cal_filter.specs.Results.{IsNumbered, number_for}
use Rattle.cal_filter.specs.Sought.{kind_place}

kind_at : (k d : kinds.Kind) → get_or every_kind (kind_place k) d ≡ k
kind_at kind.Usr d = refl
kind_at kind.Int d = refl
kind_at kind.Uint d = refl
kind_at kind.Str d = refl
kind_at kind.Addr d = refl
kind_at kind.Double d = refl
kind_at kind.Bool d = refl
kind_at kind.TypeName d = refl
kind_at kind.Ptr d = refl

pub numbered_next : (t t' : Tree) (name : List ℕ) (ks : List kinds.Kind) (d : kinds.Kind)
    (numbers numbers' : List AttributeNumber) (i : ℕ) (n : AttributeNumber) → Grows t t'
    → ks ≡ every_kind → i < length numbers → numbers' ≡ slice_set numbers i n
    → IsNumbered t' (result_attribute name (get_or ks i d)) n
    → ((k : kinds.Kind) → kind_place k < i
    → IsNumbered t (result_attribute name k) (number_for numbers k))
    → (k : kinds.Kind) → kind_place k < i + 1
    → IsNumbered t' (result_attribute name k) (number_for numbers' k)
numbered_next t t' name ks d numbers numbers' i n grows all short write here before k below =
    by (cases_lt (kind_place k) i)
  where
    by : ((kind_place k < i) ⊎ (i ≤ kind_place k))
        → IsNumbered t' (result_attribute name k) (number_for numbers' k)
    by (inl less) =
        let old = before k less in
        let same : number_for numbers k ≡ number_for numbers' k =
        sym (ap (λ ns. get_or ns (kind_place k) (record { 0 = 0 })) write
        ∙ get_or-set_other numbers i (kind_place k) n (record { 0 = 0 }) (λ same. absurd (omega arith))) in
        subst (IsNumbered t' (result_attribute name k)) same
        (record {
          within = within_attributes grows (number_for numbers k).0 old.within;
          is = attribute_at-Grows grows (number_for numbers k) old.within ∙ old.is;
        })
    by (inr over) =
        let place : kind_place k ≡ i = omega arith in
        let kind_is : get_or ks i d ≡ k =
        ap (λ xs. get_or xs i d) all ∙ ap (λ j. get_or every_kind j d) (sym place) ∙ kind_at k d in
        let number_is : n ≡ number_for numbers' k =
        sym (ap (λ ns. get_or ns (kind_place k) (record { 0 = 0 })) write
        ∙ get_or-set_at numbers i (kind_place k) n (record { 0 = 0 }) place short) in
        subst (IsNumbered t' (result_attribute name k)) number_is
        (subst (λ j. IsNumbered t' (result_attribute name j) n) kind_is here)
