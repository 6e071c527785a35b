-- Which columns stand beside the tree.
use Rattle.std.proofs.Common.{◌≡◌, ℕ, zero, suc, ◌+◌, ◌<◌, Bool, true, false, ◌||◌, List, [], ◌∷◌, ◌++◌, inl, inr, length, get_or, map, take, refl, sym, ap, ◌∙◌, subst, arith, filter, not, ◌&&◌, Option, None, Some, slice_get, IfSome, IfNone, is_some, if◌then◌else◌}
use Rattle.std.specs.List.{Contains, flat_map, list_any}
use Rattle.std.proofs.lemmas.List.{take_more}
use Rattle.std.proofs.lemmas.List.Elements.{filter-append}
use Rattle.std.proofs.lemmas.Map.Views.{Contains-from_any}
use Rattle.std.proofs.lemmas.Option.{get_or_from_slice_get, slice_get_within}
use Rattle.cal_value.specs.ExactOrder.{exact_equiv, exact_tells}
use Rattle.cal_value.specs.OrderLaws.{attribute_exact}
use Rattle.cal_value.specs.declared.attribute.Attribute.{Attribute}
use Rattle.cal_value.specs.declared.attribute.Entry.{Entry}
use Rattle.cal_value.specs.declared.record.Rec.{Rec}
use Rattle.cal_context.specs.Lists.{Adds}
use Rattle.cal_context.specs.Tree.{Tree}
use Rattle.cal_rowset.specs.Hierarchy.{hierarchy}
use Rattle.cal_rowset.specs.Known.{is_known}
use Rattle.cal_rowset.specs.Texts.{is_same}
use Rattle.cal_rowset.specs.Cells.{is_path}
use Rattle.cal_rowset.specs.declared.rowset.Column.{Column}
use Rattle.cal_rowset.proofs.Seen.{is_same-refl, same_text}
use Rattle.cal_treefmt.specs.Columns.{columns_beside, is_beside_names, nested_names}
use Rattle.cal_treefmt.specs.Walks.{HasNodes}
use Rattle.cal_treefmt.proofs.Firsts.{list_any-firsts}

list_any-push : {A : Type 0} (test : A → Bool) (xs : List A) (x : A) → list_any test (xs ++ x ∷ []) ≡ (test x || list_any test xs)
list_any-push test [] x = refl
list_any-push test (y ∷ xs) x = by (test y) (test x) refl refl (list_any-push test xs x)
  where
    by : (a b : Bool) → test y ≡ a → test x ≡ b → list_any test (xs ++ x ∷ []) ≡ (test x || list_any test xs)
        → list_any test ((y ∷ xs) ++ x ∷ []) ≡ (test x || list_any test (y ∷ xs))
    by true true ey ex rest = grind (arith, ey, ex, rest)
    by true false ey ex rest = grind (arith, ey, ex, rest)
    by false true ey ex rest = grind (arith, ey, ex, rest)
    by false false ey ex rest = grind (arith, ey, ex, rest)

-- a test that an item passes finds it
list_any-there : {A : Type 0} (test : A → Bool) (xs : List A) (k : ℕ) (x : A) → k < length xs → get_or xs k x ≡ x → list_any test xs ≡ (test x || list_any test xs)
list_any-there test [] k x l e = absurd (omega (arith, l))
list_any-there test (y ∷ xs) zero x l e = by (test x) refl
  where
    by : (b : Bool) → test x ≡ b → list_any test (y ∷ xs) ≡ (test x || list_any test (y ∷ xs))
    by true h = let there : test y ≡ true = ap test e ∙ h in grind (arith, h, there)
    by false h = grind (arith, h)
list_any-there test (y ∷ xs) (suc k) x l e = by (test y) refl (list_any-there test xs k x (omega (arith, l)) e)
  where
    by : (b : Bool) → test y ≡ b → list_any test xs ≡ (test x || list_any test xs) → list_any test (y ∷ xs) ≡ (test x || list_any test (y ∷ xs))
    by true h rest = by2 (test x) refl
      where
        by2 : (b : Bool) → test x ≡ b → list_any test (y ∷ xs) ≡ (test x || list_any test (y ∷ xs))
        by2 true g = grind (arith, h, g)
        by2 false g = grind (arith, h, g)
    by false h rest = grind (arith, h, rest)

list_any-Adds : {A : Type 0} (test : A → Bool) (old : List A) (x : A) (new : List A) → Adds old x new → list_any test new ≡ (test x || list_any test old)
list_any-Adds test old x new (inl ((k, l, e), same)) = ap (list_any test) same ∙ list_any-there test old k x l e
list_any-Adds test old x new (inr (lacks, is)) = ap (list_any test) is ∙ list_any-push test old x

-- the names of attributes, with one more
pub learned : (test : List ℕ → Bool) (old new : List (List ℕ)) (attributes : List Attribute) (n i : ℕ) (a : Attribute) → n ≡ i → i < length attributes → Adds old (get_or attributes n a).name new
    → list_any test old ≡ list_any (λ b. test b.name) (take i attributes) → list_any test new ≡ list_any (λ b. test b.name) (take (i + 1) attributes)
learned test old new attributes n i a same l adds is =
    list_any-Adds test old (get_or attributes i a).name new (subst (λ k. Adds old (get_or attributes k a).name new) same adds)
    ∙ ap (λ found. test (get_or attributes i a).name || found) is
    ∙ sym (ap (list_any (λ (b : Attribute). test b.name)) (take_more attributes i a l) ∙ list_any-push (λ (b : Attribute). test b.name) (take i attributes) (get_or attributes i a))

list_any-map : {A B : Type 0} (test : B → Bool) (f : A → B) (xs : List A) → list_any test (map f xs) ≡ list_any (λ x. test (f x)) xs
list_any-map test f [] = refl
list_any-map test f (x ∷ xs) = ap (λ found. test (f x) || found) (list_any-map test f xs)

-- the names of a context's attributes are those of the rows' hierarchies
pub names_known : (t : Tree) (rows : List Rec) (names : List (List ℕ)) (name : List ℕ) → HasNodes t rows → list_any (is_same name) names ≡ list_any (λ a. is_same name a.name) t.attributes
    → is_known names name ≡ is_known (nested_names rows) name
names_known t rows names name has is =
    is ∙ ap (list_any (λ (a : Attribute). is_same name a.name)) has.attributes
    ∙ list_any-firsts (exact_equiv attribute_exact) (λ x y h. exact_tells attribute_exact x y h) (λ (a : Attribute). is_same name a.name) (map (λ (e : Entry). e.attr) (flat_map hierarchy rows))
    ∙ list_any-map (λ (a : Attribute). is_same name a.name) (λ (e : Entry). e.attr) (flat_map hierarchy rows)
    ∙ sym (list_any-map (is_same name) (λ (e : Entry). e.attr.name) (flat_map hierarchy rows))

-- what a look-up tells of a name
pub known_by : (names : List (List ℕ)) (name : List ℕ) (place : Option ℕ) → IfSome place (λ p. slice_get names p ≡ Some name) → IfNone place (¬ Contains names name) → is_some place ≡ is_known names name
known_by names name None found lacks = by (is_known names name) refl
  where
    by : (b : Bool) → is_known names name ≡ b → false ≡ is_known names name
    by true e = absurd (lacks (Contains-from_any (λ x y h. same_text x y h) name names e))
    by false e = sym e
known_by names name (Some p) found lacks =
    sym (
    list_any-there (is_same name) names p name (slice_get_within names p name found) (get_or_from_slice_get names p name name found)
    ∙ ap (λ b. b || is_known names name) (is_same-refl name))

-- the columns so far, with one more
pub columns-more : (rows : List Rec) (names : List (List ℕ)) (columns : List Column) (i : ℕ) (column : Column) (old new : List Column) → i < length columns → column ≡ get_or columns i column
    → is_known names column.name ≡ is_known (nested_names rows) column.name → old ≡ columns_beside rows (take i columns) → new ≡ old ++ filter (is_beside_names names) (column ∷ [])
    → new ≡ columns_beside rows (take (i + 1) columns)
columns-more rows names columns i column old new l is known before added =
    added
    ∙ (λ j. before j ++ (if not (is_path column.name) && not (known j) then column ∷ [] else []))
    ∙ sym (filter-append (is_beside_names (nested_names rows)) (take i columns) (column ∷ []))
    ∙ ap (columns_beside rows) (ap (λ c. take i columns ++ c ∷ []) is ∙ sym (take_more columns i column l))
