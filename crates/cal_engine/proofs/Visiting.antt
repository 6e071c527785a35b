-- What a way up meets, and the names that are learned on it.
use Rattle.std.proofs.Common.{◌≡◌, ℕ, zero, suc, ◌+◌, ◌<◌, ◌==◌, Bool, true, false, not, ◌||◌, if◌then◌else◌, List, [], ◌∷◌, ◌++◌, ◌⊎◌, inl, inr, filter, get_or, length, map, take, replicate, reverse, refl, sym, ap, ◌∙◌, subst, arith, append_assoc, true≢false}
use Rattle.std.specs.List.{All, list_any}
use Rattle.std.specs.Ordering.{eq_by_cmp}
use Rattle.std.specs.Prelude.{slice_set}
use Rattle.std.proofs.lemmas.Bool.Decides.{Decides-eqb}
use Rattle.std.proofs.lemmas.Grind.{common_steps, fold-append}
use Rattle.std.proofs.lemmas.List.{get_or-set_other, get_or_append_left, length-append, length-replicate, length-set, map-append, reverse-append}
use Rattle.std.proofs.lemmas.List.Folds.{list_any-append}
use Rattle.std.proofs.lemmas.List.Elements.{All-append, All-cons, All-head, All-nil, All-tail, All-weaker, filter-append}
use Rattle.cal_context.specs.Children.{IsLinked}
use Rattle.cal_context.specs.Lists.{IsFront}
use Rattle.cal_context.specs.Tree.{Tree, attribute_at, path_at, value_at}
use Rattle.cal_context.specs.declared.numbers.AttributeNumber.{AttributeNumber}
use Rattle.cal_context.specs.declared.numbers.Link.{Link}
use Rattle.cal_context.specs.declared.numbers.NodeNumber.{NodeNumber}
use Rattle.cal_rowset.specs.Hierarchy.{is_of_hierarchy}
use Rattle.cal_value.specs.ExactOrder.{exact_equiv, text_exact}
use Rattle.cal_value.specs.Flat.{joined}
use Rattle.cal_value.specs.Texts.{text_cmp}
use Rattle.cal_value.specs.declared.attribute.Attribute.{Attribute}
use Rattle.cal_value.specs.declared.attribute.Entry.{Entry}
use Rattle.cal_engine.specs.Learning.{learned, learned_one, names_beside, plain_names}
use Rattle.cal_engine.specs.Visiting.{HasName, IsLearned, IsMet, IsPlain, IsVisit, KnowsNames, MetWith, attributes_on}
use Rattle.cal_engine.specs.declared.shown_names.ShownNames.{ShownNames}
use Rattle.cal_engine.specs.declared.visits.Visits.{Visits}

module _ (t : Tree) (link : Link) (at : NodeNumber) (linked : IsLinked t link at) where
  -- one node further up, the trail is one attribute longer
  pub trail_further : (node : NodeNumber) (trail : List AttributeNumber)
      → attributes_on t node ≡ attributes_on t at ++ map (attribute_at t) (reverse trail)
      → attributes_on t node ≡ attributes_on t link.parent ++ map (attribute_at t) (reverse (trail ++ link.attribute ∷ []))
  trail_further node trail path =
      let up = attributes_on t link.parent in
      path
      ∙ ap (λ p. map (λ e. e.attr) p ++ map (attribute_at t) (reverse trail)) linked.child.path
      ∙ ap (λ front. front ++ map (attribute_at t) (reverse trail))
      (map-append (λ e. e.attr) (path_at t link.parent) (record { attr = attribute_at t link.attribute; value = value_at t link.value } ∷ []))
      ∙ append_assoc up (attribute_at t link.attribute ∷ []) (map (attribute_at t) (reverse trail))
      ∙ ap (λ more. up ++ map (attribute_at t) more) (sym (reverse-append trail (link.attribute ∷ [])))

  -- and one node more is met
  pub met_further : (node : NodeNumber) (old now : List Bool) → IsFront (attributes_on t at) (attributes_on t node)
      → ((n : NodeNumber) → IsMet now n → IsMet old n ⊎ ((at.0 < n.0) × IsFront (attributes_on t n) (attributes_on t node)))
      → (n : NodeNumber) → IsMet (slice_set now at.0 true) n
      → IsMet old n ⊎ ((link.parent.0 < n.0) × IsFront (attributes_on t n) (attributes_on t node))
  met_further node old now front met n is = by (n.0 == at.0) refl
    where
      by : (b : Bool) → (n.0 == at.0) ≡ b → IsMet old n ⊎ ((link.parent.0 < n.0) × IsFront (attributes_on t n) (attributes_on t node))
      by true h =
          let same = (Decides-eqb n.0 at.0).0 h in
          inr (omega (arith, same, linked.child.later), subst (λ (m : NodeNumber). IsFront (attributes_on t m) (attributes_on t node)) (λ i. record { 0 = sym same i }) front)
      by false h =
          let ne = λ (s : n.0 ≡ at.0). true≢false (sym ((Decides-eqb n.0 at.0).1 s) ∙ h) in
          higher (met n (sym (get_or-set_other now at.0 n.0 true false ne) ∙ is))
        where
          higher : IsMet old n ⊎ ((at.0 < n.0) × IsFront (attributes_on t n) (attributes_on t node))
              → IsMet old n ⊎ ((link.parent.0 < n.0) × IsFront (attributes_on t n) (attributes_on t node))
          higher (inl m) = inl m
          higher (inr m) = inr (omega (arith, m.0, linked.child.later), m.1)

-- what holds of each item holds of those in front
All-front : {A : Type 0} (P : A → Type 0) (xs ys : List A) → All P (xs ++ ys) → All P xs
All-front P xs ys all k d l = subst P (get_or_append_left xs ys d k l) (all k d (omega (arith, l, length-append xs ys)))

module _ (Q : Attribute → Type 0) (t : Tree) where
  module _ (old new : Visits) (node top : NodeNumber) (visit : IsVisit t old node new top) (met : MetWith Q t old) where
    -- what holds on the paths of nodes that were met holds up to where the way up ended
    pub holds_above : All Q (attributes_on t top)
    holds_above = by visit.above
      where
        by : (path_at t top ≡ []) ⊎ IsMet old.met.items top → All Q (attributes_on t top)
        by (inl none) = subst (All Q) (sym (ap (map (λ (e : Entry). e.attr)) none)) (All-nil Q)
        by (inr was) = met.met top was

    -- so where it holds on the trail, it holds on the paths of nodes that are met now
    pub met_now : All Q (map (attribute_at t) new.trail.items) → MetWith Q t new
    met_now trail = record { long = visit.long; met = λ n is. by n (visit.met n is) }
      where
        whole : All Q (attributes_on t node)
        whole = subst (All Q) (sym visit.path) (All-append Q (attributes_on t top) (map (attribute_at t) new.trail.items) holds_above trail)

        by : (n : NodeNumber) → IsMet old.met.items n ⊎ IsFront (attributes_on t n) (attributes_on t node) → All Q (attributes_on t n)
        by n (inl was) = met.met n was
        by n (inr front) = All-front Q (attributes_on t n) front.0 (subst (All Q) front.1 whole)

-- ---- the hierarchy

none_plain : (xs : List Attribute) → All IsPlain xs → list_any is_of_hierarchy xs ≡ false
none_plain [] all = refl
none_plain (x ∷ xs) all = ap (λ b. b || list_any is_of_hierarchy xs) (All-head IsPlain x xs all) ∙ none_plain xs (All-tail IsPlain x xs all)

pub plain_none : (xs : List Attribute) → list_any is_of_hierarchy xs ≡ false → All IsPlain xs
plain_none [] none = All-nil IsPlain
plain_none (x ∷ xs) none = by (is_of_hierarchy x) refl none (plain_none xs)
  where
    by : (b : Bool) → is_of_hierarchy x ≡ b → (b || list_any is_of_hierarchy xs) ≡ false
        → (list_any is_of_hierarchy xs ≡ false → All IsPlain xs) → All IsPlain (x ∷ xs)
    by true e rest again = absurd (true≢false rest)
    by false e rest again = All-cons IsPlain x xs e (again rest)

nested_entries : (es : List Entry) → list_any (λ e. is_of_hierarchy e.attr) es ≡ list_any is_of_hierarchy (map (λ e. e.attr) es)
nested_entries [] = refl
nested_entries (e ∷ es) = ap (λ b. is_of_hierarchy e.attr || b) (nested_entries es)

-- a path is of the hierarchy where its trail is
pub nested_trail : (t : Tree) (old new : Visits) (node top : NodeNumber) → IsVisit t old node new top → MetWith IsPlain t old
    → list_any (λ e. is_of_hierarchy e.attr) (path_at t node) ≡ list_any is_of_hierarchy (map (attribute_at t) new.trail.items)
nested_trail t old new node top visit met =
    let trail = map (attribute_at t) new.trail.items in
    nested_entries (path_at t node)
    ∙ ap (list_any is_of_hierarchy) visit.path
    ∙ list_any-append is_of_hierarchy (attributes_on t top) trail
    ∙ ap (λ b. b || list_any is_of_hierarchy trail) (none_plain (attributes_on t top) (holds_above IsPlain t old new node top visit met))

-- ---- names

abbrev same_text : List ℕ → List ℕ → Bool
same_text = eq_by_cmp text_cmp

-- a name that is there changes nothing
pub learned_there : (names : List (List ℕ)) (name : List ℕ) → HasName names name → learned_one names name ≡ names
learned_there names name has = ap (λ b. if b then names else names ++ name ∷ []) has

-- a name that is there or comes last is there
has-push : (name other : List ℕ) (names : List (List ℕ)) → (list_any (same_text name) names || same_text name other) ≡ true → HasName (names ++ other ∷ []) name
has-push name other [] is = ap (λ b. b || false) is
has-push name other (first ∷ names) is = by (same_text name first) is (has-push name other names)
  where
    by : (b : Bool) → ((b || list_any (same_text name) names) || same_text name other) ≡ true
        → ((list_any (same_text name) names || same_text name other) ≡ true → HasName (names ++ other ∷ []) name)
        → (b || list_any (same_text name) (names ++ other ∷ [])) ≡ true
    by true is again = refl
    by false is again = again is

pub kept_one : (names : List (List ℕ)) (other name : List ℕ) → HasName names name → HasName (learned_one names other) name
kept_one names other name has = by (list_any (same_text other) names)
  where
    by : (b : Bool) → HasName (if b then names else names ++ other ∷ []) name
    by true = has
    by false = has-push name other names (ap (λ b. b || same_text name other) has)

-- a name that was learned is there
pub has_learned : (names : List (List ℕ)) (name : List ℕ) → HasName (learned_one names name) name
has_learned names name = by (list_any (same_text name) names) refl
  where
    or_true : (b : Bool) → (b || true) ≡ true
    or_true true = refl
    or_true false = refl

    by : (b : Bool) → list_any (same_text name) names ≡ b → HasName (if b then names else names ++ name ∷ []) name
    by true has = has
    by false has = has-push name name names (ap (λ b. list_any (same_text name) names || b) ((exact_equiv text_exact).refl name) ∙ or_true (list_any (same_text name) names))

-- and stays there
pub kept : (names more : List (List ℕ)) (name : List ℕ) → HasName names name → HasName (learned names more) name
kept names [] name has = has
kept names (other ∷ more) name has = kept (learned_one names other) more name (kept_one names other name has)

-- the names of attributes, where the first is of the hierarchy or not
abbrev names_of : Attribute → List Attribute → Bool → List (List ℕ)
names_of a attributes nested = map (λ a. a.name) (if not nested then a ∷ filter (λ a. not (is_of_hierarchy a)) attributes else filter (λ a. not (is_of_hierarchy a)) attributes)

-- names that are there change nothing
pub learned_again : (names : List (List ℕ)) (attributes : List Attribute) → All (IsLearned names) attributes → learned names (plain_names attributes) ≡ names
learned_again names [] all = refl
learned_again names (a ∷ attributes) all =
    by (is_of_hierarchy a) refl (learned_again names attributes (All-tail (IsLearned names) a attributes all))
  where
    by : (b : Bool) → is_of_hierarchy a ≡ b → learned names (plain_names attributes) ≡ names → learned names (names_of a attributes b) ≡ names
    by true e rest = rest
    by false e rest = ap (λ ns. learned ns (plain_names attributes)) (learned_there names a.name (All-head (IsLearned names) a attributes all e)) ∙ rest

-- the names of attributes are there once they were learned
pub all_learned : (names : List (List ℕ)) (attributes : List Attribute) → All (IsLearned (learned names (plain_names attributes))) attributes
all_learned names [] = All-nil (IsLearned names)
all_learned names (a ∷ attributes) = by (is_of_hierarchy a) refl (λ ns. all_learned ns attributes)
  where
    by : (b : Bool) → is_of_hierarchy a ≡ b → ((ns : List (List ℕ)) → All (IsLearned (learned ns (plain_names attributes))) attributes)
        → All (IsLearned (learned names (names_of a attributes b))) (a ∷ attributes)
    by true e rest =
        let now = learned names (plain_names attributes) in
        All-cons (IsLearned now) a attributes (λ plain. absurd (true≢false (sym e ∙ plain))) (rest names)
    by false e rest =
        let next = learned_one names a.name in
        All-cons (IsLearned (learned next (plain_names attributes))) a attributes
        (λ plain. kept next (plain_names attributes) a.name (has_learned names a.name)) (rest next)

names_plain : (es : List Entry) → names_beside true es ≡ plain_names (map (λ e. e.attr) es)
names_plain [] = refl
names_plain (e ∷ es) = by (is_of_hierarchy e.attr) (names_plain es)
  where
    by : (b : Bool) → names_beside true es ≡ plain_names (map (λ e. e.attr) es)
        → map (λ e. e.attr.name) (if not b then e ∷ filter (λ e. not (is_of_hierarchy e.attr)) es else filter (λ e. not (is_of_hierarchy e.attr)) es)
        ≡ names_of e.attr (map (λ e. e.attr) es) b
    by true rest = rest
    by false rest = ap (λ ns. e.attr.name ∷ ns) rest

plain_names-append : (xs ys : List Attribute) → plain_names (xs ++ ys) ≡ plain_names xs ++ plain_names ys
plain_names-append xs ys =
    ap (map (λ (a : Attribute). a.name)) (filter-append (λ a. not (is_of_hierarchy a)) xs ys)
    ∙ map-append (λ (a : Attribute). a.name) (filter (λ a. not (is_of_hierarchy a)) xs) (filter (λ a. not (is_of_hierarchy a)) ys)

module _ (t : Tree) (old new : Visits) (node top : NodeNumber) (visit : IsVisit t old node new top)
    (names : List (List ℕ)) (met : MetWith (IsLearned names) t old) where
  -- learning what is on a trail is learning what is on the path
  pub learned_trail : learned names (plain_names (map (attribute_at t) new.trail.items)) ≡ learned names (names_beside true (path_at t node))
  learned_trail =
      let above = attributes_on t top in
      let trail = map (attribute_at t) new.trail.items in
      sym (
      ap (learned names) (names_plain (path_at t node) ∙ ap plain_names visit.path ∙ plain_names-append above trail)
      ∙ fold-append learned_one names (plain_names above) (plain_names trail)
      ∙ ap (λ ns. learned ns (plain_names trail)) (learned_again names above (holds_above (IsLearned names) t old new node top visit met))
      )

  -- and then what is on the paths of nodes that are met now is learned
  pub met_learned : (now : List (List ℕ)) → now ≡ learned names (plain_names (map (attribute_at t) new.trail.items)) → MetWith (IsLearned now) t new
  met_learned now is =
      let trail = map (attribute_at t) new.trail.items in
      subst (λ (ns : List (List ℕ)). MetWith (IsLearned ns) t new) (sym is)
      (met_now (IsLearned (learned names (plain_names trail))) t old new node top visit later (all_learned names trail))
    where
      more : List (List ℕ)
      more = plain_names (map (attribute_at t) new.trail.items)

      later : MetWith (IsLearned (learned names more)) t old
      later = record {
        long = met.long;
        met = λ n is. All-weaker (IsLearned names) (IsLearned (learned names more)) (λ a has plain. kept names more a.name (has plain)) (attributes_on t n) (met.met n is);
      }

-- what is known of attributes stays right where the name of one more is learned
pub knows_one : (t : Tree) (old now : ShownNames) (a : AttributeNumber) → KnowsNames t old
    → now.names.keys ≡ learned_one old.names.keys (attribute_at t a).name → now.known.items ≡ slice_set old.known.items a.0 true
    → KnowsNames t now
knows_one t old now a knows learns marks = record {
  long = ap length marks ∙ (rw length-set knows.long);
  known = λ b marked. subst (λ (ns : List (List ℕ)). HasName ns (attribute_at t b).name) (sym learns)
      (by b (b.0 == a.0) refl (ap (λ bs. get_or bs b.0 false) (sym marks) ∙ marked));
}
  where
    by : (b : AttributeNumber) (e : Bool) → (b.0 == a.0) ≡ e → get_or (slice_set old.known.items a.0 true) b.0 false ≡ true
        → HasName (learned_one old.names.keys (attribute_at t a).name) (attribute_at t b).name
    by b true h marked =
        let same = (Decides-eqb b.0 a.0).0 h in
        subst (λ (n : ℕ). HasName (learned_one old.names.keys (attribute_at t a).name) (attribute_at t (record { 0 = n })).name) (sym same)
        (has_learned old.names.keys (attribute_at t a).name)
    by b false h marked =
        let ne = λ (s : b.0 ≡ a.0). true≢false (sym ((Decides-eqb b.0 a.0).1 s) ∙ h) in
        kept_one old.names.keys (attribute_at t a).name (attribute_at t b).name
        (knows.known b (sym (get_or-set_other old.known.items a.0 b.0 true false ne) ∙ marked))

-- what is learned stays learned
pub met_kept : (t : Tree) (v : Visits) (names more now : List (List ℕ)) → now ≡ learned names more → MetWith (IsLearned names) t v → MetWith (IsLearned now) t v
met_kept t v names more now is met = record {
  long = met.long;
  met = λ n was. All-weaker (IsLearned names) (IsLearned now)
      (λ a has plain. subst (λ (ns : List (List ℕ)). HasName ns a.name) (sym is) (kept names more a.name (has plain)))
      (attributes_on t n) (met.met n was);
}

-- the names on one path more
pub learned_more : (t : Tree) (nodes : List NodeNumber) (i : ℕ) (d : NodeNumber) (names before now : List (List ℕ)) → i < length nodes
    → before ≡ learned names (names_beside true (joined (map (path_at t) (take i nodes))))
    → now ≡ learned before (names_beside true (path_at t (get_or nodes i d)))
    → now ≡ learned names (names_beside true (joined (map (path_at t) (take (i + 1) nodes))))
learned_more t nodes i d names before now l is learns =
    grind (arith, common_steps, is, learns)
