-- The last values of a name, among entries in pieces.
use Rattle.std.proofs.Common.{◌≡◌, ℕ, ◌+◌, ◌<◌, true, false, List, [], ◌∷◌, ◌++◌, Option, None, Some, filter, length, map, take, get_or, refl, sym, ap, ◌∙◌}
use Rattle.std.specs.List.{last_or}
use Rattle.std.proofs.lemmas.Grind.{take_at_read}
use Rattle.std.proofs.lemmas.List.{map-append}
use Rattle.std.proofs.lemmas.List.Elements.{filter-append}
use Rattle.cal_filter.specs.Named.{is_named}
use Rattle.std.specs.Prelude.{option_map}
use Rattle.cal_value.specs.Flat.{flat, joined}
use Rattle.cal_value.specs.declared.attribute.Entry.{Entry}
use Rattle.cal_value.specs.declared.record.Rec.{Rec}
use Rattle.cal_value.specs.declared.variant.Variant.{Variant}
use Rattle.cal_engine.specs.Sorting.{value_named}
use Rattle.cal_engine.specs.Ranks.{values_of}
use Rattle.cal_parts.proofs.Lasts.{last_or-append, joined-more}

pub values_of-append : (name : List ℕ) (es fs : List Entry) → values_of name (es ++ fs) ≡ values_of name es ++ values_of name fs
values_of-append name es fs =
    ap (map (λ e. e.value)) (filter-append (is_named name) es fs)
    ∙ map-append (λ e. e.value) (filter (is_named name) es) (filter (is_named name) fs)

pub values_more : (name : List ℕ) (paths : List (List Entry)) (n : ℕ) (path : List Entry) (last now : Option Variant)
    → n < length paths → path ≡ get_or paths n path
    → last ≡ last_or None (values_of name (joined (take n paths)))
    → now ≡ last_or last (values_of name path)
    → now ≡ last_or None (values_of name (joined (take (n + 1) paths)))
values_more name paths n path last now l e is step =
    step
    ∙ ap (λ o. last_or o (values_of name path)) is
    ∙ sym (last_or-append None (values_of name (joined (take n paths))) (values_of name path))
    ∙ ap (last_or None) (sym (values_of-append name (joined (take n paths)) path))
    ∙ ap (λ es. last_or None (values_of name es)) (sym (joined-more paths n path l e))

pub values_all : (name : List ℕ) (es fs : List Entry) (last now : Option Variant)
    → last ≡ last_or None (values_of name es) → now ≡ last_or last (values_of name fs)
    → now ≡ last_or None (values_of name (es ++ fs))
values_all name es fs last now is step =
    step
    ∙ ap (λ o. last_or o (values_of name fs)) is
    ∙ sym (last_or-append None (values_of name es) (values_of name fs))
    ∙ ap (last_or None) (sym (values_of-append name es fs))

pub values_pass : (name : List ℕ) (before : Option Variant) (es : List Entry) (n : ℕ) (e : Entry) (last : Option Variant)
    → n < length es → e ≡ get_or es n e → is_named name e ≡ false
    → last ≡ last_or before (values_of name (take n es))
    → last ≡ last_or before (values_of name (take (n + 1) es))
values_pass name before es n e last l at other is =
    is ∙ ap (last_or before) (sym (
    ap (values_of name) ((take_at_read es n e l).1 ∙ ap (λ f. take n es ++ f ∷ []) (sym at))
    ∙ values_of-append name (take n es) (e ∷ [])
    ∙ ap (λ b. values_of name (take n es) ++ map (λ e. e.value) (filter (λ _. b) (e ∷ []))) other
    ∙ nothing (values_of name (take n es))))
  where
    nothing : (xs : List Variant) → xs ++ [] ≡ xs
    nothing [] = refl
    nothing (x ∷ xs) = ap (λ ys. x ∷ ys) (nothing xs)

pub values_take : (name : List ℕ) (before : Option Variant) (es : List Entry) (n : ℕ) (e : Entry)
    → n < length es → e ≡ get_or es n e → is_named name e ≡ true
    → Some e.value ≡ last_or before (values_of name (take (n + 1) es))
values_take name before es n e l at named =
    sym (ap (last_or before) (
    ap (values_of name) ((take_at_read es n e l).1 ∙ ap (λ f. take n es ++ f ∷ []) (sym at))
    ∙ values_of-append name (take n es) (e ∷ [])
    ∙ ap (λ b. values_of name (take n es) ++ map (λ e. e.value) (filter (λ _. b) (e ∷ []))) named)
    ∙ last_or-append before (values_of name (take n es)) (e.value ∷ []))

-- the value of the last entry of a name is the last of their values
last_or-map : {A B : Type 0} (f : A → B) (o : Option A) (xs : List A) → last_or (option_map f o) (map f xs) ≡ option_map f (last_or o xs)
last_or-map f o [] = refl
last_or-map f o (x ∷ xs) = last_or-map f (Some x) xs

pub last_value_is : (name : List ℕ) (row : Rec) (o : Option Variant) → o ≡ last_or None (values_of name (flat row)) → o ≡ value_named name row
last_value_is name row o is = is ∙ last_or-map (λ (e : Entry). e.value) None (filter (is_named name) (flat row))
