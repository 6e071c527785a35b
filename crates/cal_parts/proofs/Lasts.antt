-- The last numbers of a name, among entries in pieces.
use Rattle.std.proofs.Common.{◌≡◌, ℕ, ◌+◌, ◌<◌, Bool, true, false, List, [], ◌∷◌, ◌++◌, Option, None, Some, filter, length, take, get_or, refl, sym, ap, ◌∙◌}
use Rattle.std.specs.List.{cons_option, filter_map, last_or}
use Rattle.std.proofs.lemmas.Grind.{flat_map-append, take_at_read}
use Rattle.std.proofs.lemmas.List.Elements.{filter-append, filter_map-append}
use Rattle.cal_agg.specs.declared.num.Num.{Num}
use Rattle.cal_filter.specs.Named.{is_named, last_number}
use Rattle.cal_filter.specs.Numbers.{number_in}
use Rattle.cal_parts.proofs.Drops.{filter_map_more}
use Rattle.std.specs.Prelude.{option_and_then}
use Rattle.std.specs.Option.{option_to_list}
use Rattle.cal_value.specs.Flat.{flat, joined}
use Rattle.cal_value.specs.declared.attribute.Entry.{Entry}
use Rattle.cal_value.specs.declared.record.Rec.{Rec}
use Rattle.cal_parts.specs.Kernels.{number_sought, numbers_sought, or_else}

pub last_or-append : {A : Type 0} (o : Option A) (xs ys : List A) → last_or o (xs ++ ys) ≡ last_or (last_or o xs) ys
last_or-append o [] ys = refl
last_or-append o (x ∷ xs) ys = last_or-append (Some x) xs ys

pub numbers_sought-append : (whole : Bool) (name : List ℕ) (es fs : List Entry)
    → numbers_sought whole name (es ++ fs) ≡ numbers_sought whole name es ++ numbers_sought whole name fs
numbers_sought-append whole name es fs =
    ap (filter_map (λ e. number_sought whole e.value)) (filter-append (is_named name) es fs)
    ∙ filter_map-append (λ e. number_sought whole e.value) (filter (is_named name) es) (filter (is_named name) fs)

-- the entries of one more path
pub joined-more : (paths : List (List Entry)) (n : ℕ) (path : List Entry) → n < length paths → path ≡ get_or paths n path
    → joined (take (n + 1) paths) ≡ joined (take n paths) ++ path
joined-more paths n path l e =
    ap joined ((take_at_read paths n path l).1 ∙ ap (λ p. take n paths ++ p ∷ []) (sym e))
    ∙ flat_map-append (λ p. p) (take n paths) (path ∷ [])
    ∙ ap (λ es. joined (take n paths) ++ es) (nothing path)
  where
    nothing : (xs : List Entry) → xs ++ [] ≡ xs
    nothing [] = refl
    nothing (x ∷ xs) = ap (λ ys. x ∷ ys) (nothing xs)

-- the last number among the paths so far and one more
pub numbers_more : (whole : Bool) (name : List ℕ) (paths : List (List Entry)) (n : ℕ) (path : List Entry) (last now : Option Num)
    → n < length paths → path ≡ get_or paths n path
    → last ≡ last_or None (numbers_sought whole name (joined (take n paths)))
    → now ≡ last_or last (numbers_sought whole name path)
    → now ≡ last_or None (numbers_sought whole name (joined (take (n + 1) paths)))
numbers_more whole name paths n path last now l e is step =
    step
    ∙ ap (λ o. last_or o (numbers_sought whole name path)) is
    ∙ sym (last_or-append None (numbers_sought whole name (joined (take n paths))) (numbers_sought whole name path))
    ∙ ap (last_or None) (sym (numbers_sought-append whole name (joined (take n paths)) path))
    ∙ ap (λ es. last_or None (numbers_sought whole name es)) (sym (joined-more paths n path l e))

-- and among those of a whole record
pub numbers_all : (whole : Bool) (name : List ℕ) (es fs : List Entry) (last now : Option Num)
    → last ≡ last_or None (numbers_sought whole name es) → now ≡ last_or last (numbers_sought whole name fs)
    → now ≡ last_or None (numbers_sought whole name (es ++ fs))
numbers_all whole name es fs last now is step =
    step
    ∙ ap (λ o. last_or o (numbers_sought whole name fs)) is
    ∙ sym (last_or-append None (numbers_sought whole name es) (numbers_sought whole name fs))
    ∙ ap (last_or None) (sym (numbers_sought-append whole name es fs))

-- an entry of the name is the last, and one of another name changes nothing
pub numbers_pass : (whole : Bool) (name : List ℕ) (before : Option Num) (es : List Entry) (n : ℕ) (e : Entry) (last : Option Num)
    → n < length es → e ≡ get_or es n e → is_named name e ≡ false
    → last ≡ last_or before (numbers_sought whole name (take n es))
    → last ≡ last_or before (numbers_sought whole name (take (n + 1) es))
numbers_pass whole name before es n e last l at other is =
    is ∙ ap (last_or before) (sym (
    ap (numbers_sought whole name) ((take_at_read es n e l).1 ∙ ap (λ f. take n es ++ f ∷ []) (sym at))
    ∙ numbers_sought-append whole name (take n es) (e ∷ [])
    ∙ ap (λ b. numbers_sought whole name (take n es) ++ filter_map (λ e. number_sought whole e.value) (filter (λ _. b) (e ∷ []))) other
    ∙ nothing (numbers_sought whole name (take n es))))
  where
    nothing : (xs : List Num) → xs ++ [] ≡ xs
    nothing [] = refl
    nothing (x ∷ xs) = ap (λ ys. x ∷ ys) (nothing xs)

pub numbers_take : (whole : Bool) (name : List ℕ) (before : Option Num) (es : List Entry) (n : ℕ) (e : Entry) (last now : Option Num)
    → n < length es → e ≡ get_or es n e → is_named name e ≡ true
    → last ≡ last_or before (numbers_sought whole name (take n es))
    → now ≡ or_else (number_sought whole e.value) last
    → now ≡ last_or before (numbers_sought whole name (take (n + 1) es))
numbers_take whole name before es n e last now l at named is step =
    step
    ∙ by (number_sought whole e.value)
    ∙ ap (λ o. last_or o (filter_map (λ e. number_sought whole e.value) (e ∷ []))) is
    ∙ sym (last_or-append before (numbers_sought whole name (take n es)) (filter_map (λ e. number_sought whole e.value) (e ∷ [])))
    ∙ ap (last_or before) (sym (
    ap (numbers_sought whole name) ((take_at_read es n e l).1 ∙ ap (λ f. take n es ++ f ∷ []) (sym at))
    ∙ numbers_sought-append whole name (take n es) (e ∷ [])
    ∙ ap (λ b. numbers_sought whole name (take n es) ++ filter_map (λ e. number_sought whole e.value) (filter (λ _. b) (e ∷ []))) named))
  where
    by : (o : Option Num) → or_else o last ≡ last_or last (cons_option o [])
    by None = refl
    by (Some x) = refl

-- where any number is sought, the last is the last number
sought_any : (o : Option Num) → option_and_then (λ n. Some n) o ≡ o
sought_any None = refl
sought_any (Some n) = refl

sought_all : (es : List Entry) → filter_map (λ e. number_sought false e.value) es ≡ filter_map (λ e. number_in e.value) es
sought_all [] = refl
sought_all (e ∷ es) = λ i. cons_option (sought_any (number_in e.value) i) (sought_all es i)

-- one more last number is found
pub numbers_found : (names : List (List ℕ)) (r : Rec) (n : ℕ) (name : List ℕ) (found : Option Num) (before now : List Num)
    → n < length names → name ≡ get_or names n name
    → before ≡ filter_map (λ m. last_number m r) (take n names)
    → now ≡ before ++ option_to_list found
    → found ≡ last_or None (numbers_sought false name (flat r))
    → now ≡ filter_map (λ m. last_number m r) (take (n + 1) names)
numbers_found names r n name found before now l e is step has =
    step
    ∙ (λ i. is i ++ option_to_list ((has ∙ ap (last_or None) (sought_all (filter (is_named name) (flat r)))) i))
    ∙ sym (filter_map_more (λ m. last_number m r) names n name l e)
