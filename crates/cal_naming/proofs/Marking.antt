-- What becomes of the list of kept declarations with one line more, by its answer.
use Rattle.std.proofs.Common.{◌≡◌, ℕ, ◌<◌, Bool, true, false, List, [], ◌∷◌, ◌++◌}
use Rattle.std.proofs.Common.{get_or, length, set, refl, sym, ap, ◌∙◌, subst}
use Rattle.std.specs.Prelude.{Contains, Err, Ok, OnOk, Result, Some, slice_get}
use Rattle.std.proofs.lemmas.List.Elements.{Contains-push}
use Rattle.std.proofs.lemmas.Option.{slice_get-get_or}
use Rattle.cal_names.specs.Kept.{name_law}
use Rattle.cal_names.specs.declared.declare.Declared.{Declared}
use Rattle.cal_names.specs.declared.declare.Declared.TheVariants.{Same, Different}
use Rattle.cal_names.specs.declared.record.NameSort.{NameSort}
use Rattle.cal_naming.proofs.Listing.{all-of-itself, list-more, listed-already}
use Rattle.cal_naming.specs.Keeping.{Grows, IsList, IsListed}
use Rattle.cal_naming.specs.Told.{IsTold}
use Rattle.cal_once.specs.Sound.{IsSound}
use Rattle.cal_once.specs.declared.view.Plan.{Plan}
use Rattle.cal_once.specs.declared.view.View.{View}
use Rattle.cal_value.specs.declared.attribute.Attribute.{Attribute}

-- a line that was told of another one needs no place in the list
pub listed-different : (kept : List Attribute) (line : Attribute) (answer : Declared)
    → ((place : ℕ) → answer ≡ Same place → ⊥) → IsListed kept line answer
listed-different kept line (Same place) other = absurd (other place refl)
listed-different kept line (Different place k props) other = tt

-- a mark that was read is there
pub mark-at : (marks : List Bool) (place : ℕ) (d b : Bool) → place < length marks
    → get_or marks place d ≡ b → slice_get marks place ≡ Some b
mark-at marks place d b less is = slice_get-get_or marks place d less ∙ ap (λ m. Some m) is

-- what holds where a call succeeded holds in other words
pub on-ok : {A E : Type 0} (r : Result A E) (P Q : Type 0) → (P → Q) → OnOk r P → OnOk r Q
on-ok (Ok x) P Q f p = f p
on-ok (Err e) P Q f p = tt

module _ (plan : Plan NameSort) (v : View NameSort) (sound : IsSound name_law plan v)
    (all kept : List Attribute) (marks : List Bool) (is : IsList plan v all kept marks)
    (line : Attribute) (answer : Declared) where
  -- the list stays
  pub stays : IsListed kept line answer
      → (Grows plan v all kept kept marks) × IsListed kept line answer
  stays listed = (record { list = is; more = all-of-itself kept }, listed)

  module _ (place : ℕ) (same : answer ≡ Same place) (told : IsTold plan v line answer) where
    there : IsTold plan v line (Same place)
    there = subst (λ (a : Declared). IsTold plan v line a) same told

    pub stays-marked : slice_get marks place ≡ Some true
        → (Grows plan v all kept kept marks) × IsListed kept line answer
    stays-marked mark = stays (subst (λ (a : Declared). IsListed kept line a) (sym same)
        (listed-already plan v sound all kept marks is line place there mark))

    pub takes : Contains all line → slice_get marks place ≡ Some false → (new : List Attribute)
        → new ≡ kept ++ line ∷ []
        → (Grows plan v all kept new (set marks place true)) × IsListed new line answer
    takes among free new pushed = subst (λ (ks : List Attribute).
        (Grows plan v all kept ks (set marks place true)) × IsListed ks line answer) (sym pushed) (
          list-more plan v sound all kept marks is line place there among free,
          subst (λ (a : Declared). IsListed (kept ++ line ∷ []) line a) (sym same)
              (Contains-push kept line),
        )
