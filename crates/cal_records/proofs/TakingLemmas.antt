-- What is taken in several steps.
use Rattle.std.proofs.Common.{◌≡◌, ℕ, ◌+◌, ◌<◌, Bool, ◌||◌, List, [], ◌∷◌, ◌++◌, length, get_or, take, sym}
use Rattle.std.proofs.Common.{ap, subst, ◌∙◌, append-nil}
use Rattle.std.specs.Prelude.{Option, is_some}
use Rattle.std.specs.List.{flat_map, list_any}
use Rattle.std.proofs.lemmas.List.Folds.{list_any_more}
use Rattle.std.proofs.lemmas.Grind.{flat_map-append}
use Rattle.std.proofs.lemmas.List.{take_more}
use Rattle.cal_context.proofs.CallerLemmas.{TakesMore-trans}
use Rattle.cal_context.specs.Taking.{TakesMore}
use Rattle.cal_value.specs.declared.record.Rec.{Rec}

-- nothing was taken
pub takes-none : (had : List Rec → Type 0) → TakesMore had had []
takes-none had rs is = subst had (sym (append-nil rs)) is

-- what the items of a list so far give was taken, and so was what the next one gives
pub taken-more : {A : Type 0} (f : A → List Rec) (had then has : List Rec → Type 0) (xs : List A)
    (i : ℕ) (x : A) → i < length xs → x ≡ get_or xs i x
    → TakesMore had then (flat_map f (take i xs)) → TakesMore then has (f x)
    → TakesMore had has (flat_map f (take (i + 1) xs))
taken-more f had then has xs i x below is so_far next =
    let more : flat_map f (take (i + 1) xs) ≡ flat_map f (take i xs) ++ f x =
    ap (flat_map f) (take_more xs i x below ∙ ap (λ y. take i xs ++ y ∷ []) (sym is))
    ∙ flat_map-append f (take i xs) (x ∷ [])
    ∙ ap (λ ys. flat_map f (take i xs) ++ ys) (append-nil (f x)) in
    subst (TakesMore had has) (sym more) (TakesMore-trans had then has _ _ so_far next)

-- whether one of the items so far passes, and whether the next one does
pub counted-more : {A : Type 0} (passes : A → Bool) (xs : List A) (i : ℕ) (x : A)
    (first second both : Option ℕ) → i < length xs → x ≡ get_or xs i x
    → is_some first ≡ list_any passes (take i xs) → is_some second ≡ passes x
    → is_some both ≡ (is_some first || is_some second)
    → is_some both ≡ list_any passes (take (i + 1) xs)
counted-more passes xs i x first second both below is so_far next more =
    more ∙ (λ j. so_far j || (next ∙ ap passes is) j) ∙ sym (list_any_more passes xs i x below)
