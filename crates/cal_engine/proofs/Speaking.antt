-- All names that a query speaks of, as one list.
use Rattle.std.proofs.Common.{◌≡◌, ℕ, Bool, ◌||◌, List, [], ◌∷◌, ◌++◌, codes, map}
use Rattle.std.proofs.Common.{refl, sym, ap, ◌∙◌}
use Rattle.std.specs.List.{flat_map, list_any}
use Rattle.std.specs.Ordering.{eq_by_cmp}
use Rattle.std.proofs.Math.Bool.{or_assoc}
use Rattle.std.proofs.lemmas.Grind.{fold-append}
use Rattle.std.proofs.lemmas.List.Folds.{list_any-append}
use Rattle.cal_ql.specs.declared.query.Query.{Query}
use Rattle.cal_rowset.specs.Texts.{first_seen, is_same}
use Rattle.cal_value.specs.Texts.{text_cmp}
use Rattle.cal_value.specs.declared.attribute.Attribute.{Attribute}
use Rattle.cal_keys.specs.Keys.{names_in}
use Rattle.cal_parts.specs.Readings.{reading_of}
use Rattle.cal_engine.specs.Learning.{learned, learned_one}
use Rattle.cal_engine.specs.Looked.{has_some_name, in_conds, in_lets, is_read, let_names}
use Rattle.cal_engine.specs.Looked.{speaks_of, spoken_names}
use Rattle.cal_engine.proofs.Learned.{any_first_seen, learned_alone}

module _ {A B : Type 0} (p : B → Bool) where
  -- some item of some list passes
  any_flat_map : (f : A → List B) (xs : List A)
      → list_any p (flat_map f xs) ≡ list_any (λ x. list_any p (f x)) xs
  any_flat_map f [] = refl
  any_flat_map f (x ∷ xs) =
      list_any-append p (f x) (flat_map f xs)
      ∙ ap (λ b. list_any p (f x) || b) (any_flat_map f xs)

  any_map : (f : A → B) (xs : List A) → list_any p (map f xs) ≡ list_any (λ x. p (f x)) xs
  any_map f [] = refl
  any_map f (x ∷ xs) = ap (λ b. p (f x) || b) (any_map f xs)

-- an attribute has one of these names where LET, WHERE, GROUP BY or a kernel speaks of it
any_spoken : (q : Query) (a : Attribute) → has_some_name (spoken_names q) a
    ≡ ((in_lets q.lets a || in_conds q.conds a)
    || (has_some_name (names_in q.group) a || is_read (map reading_of q.aggs) a))
any_spoken q a =
    let p = eq_by_cmp text_cmp a.name in
    let lets = flat_map let_names q.lets in
    let conds = map (λ c. c.name) q.conds in
    let group = names_in q.group in
    let read = flat_map (λ r. r.names) (map reading_of q.aggs) in
    let first = list_any-append p lets conds
    ∙ (λ i. any_flat_map p let_names q.lets i || any_map p (λ c. c.name) q.conds i) in
    let second = list_any-append p group read
    ∙ ap (λ b. list_any p group || b) (any_flat_map p (λ r. r.names) (map reading_of q.aggs)) in
    list_any-append p (lets ++ conds) (group ++ read) ∙ (λ i. first i || second i)

-- so a query speaks of the attributes that have one of these names, or are weights
pub spoken_by : (q : Query) (keys : List (List ℕ)) (a : Attribute)
    → keys ≡ first_seen (spoken_names q)
    → (has_some_name keys a || is_same a.name (codes "count")) ≡ speaks_of q a
spoken_by q keys a is =
    let early = in_lets q.lets a || in_conds q.conds a in
    let group = has_some_name (names_in q.group) a in
    let read = is_read (map reading_of q.aggs) a in
    let count = is_same a.name (codes "count") in
    ap (λ b. b || count)
    (ap (λ names. has_some_name names a) is ∙ any_first_seen a.name (spoken_names q)
    ∙ any_spoken q a)
    ∙ or_assoc early (group || read) count
    ∙ ap (λ b. early || b) (or_assoc group read count)

-- names learned from one part of a query after another
pub learned_spoken : (q : Query) (none lets conds group all : List (List ℕ)) → none ≡ []
    → lets ≡ learned none (flat_map let_names q.lets)
    → conds ≡ learned lets (map (λ c. c.name) q.conds)
    → group ≡ learned conds (names_in q.group)
    → all ≡ learned group (flat_map (λ r. r.names) (map reading_of q.aggs))
    → all ≡ first_seen (spoken_names q)
learned_spoken q none lets conds group all empty first second third last =
    let ls = flat_map let_names q.lets in
    let cs = map (λ c. c.name) q.conds in
    let gs = names_in q.group in
    let rs = flat_map (λ r. r.names) (map reading_of q.aggs) in
    last
    ∙ ap (λ ns. learned ns rs)
    (third ∙ ap (λ ns. learned ns gs)
    (second ∙ ap (λ ns. learned ns cs) (first ∙ ap (λ ns. learned ns ls) empty)
    ∙ sym (fold-append learned_one [] ls cs)))
    ∙ sym (fold-append learned_one (learned [] (ls ++ cs)) gs rs)
    ∙ sym (fold-append learned_one [] (ls ++ cs) (gs ++ rs))
    ∙ learned_alone (spoken_names q)
