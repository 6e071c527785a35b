-- The own nodes of keys as ways to their groups.
use Rattle.std.proofs.Common.{◌≡◌, ℕ, ◌+◌, ◌<◌, ◌≤◌, Bool, true, false, not, if◌then◌else◌, List, [], ◌∷◌, ◌++◌, ◌⊎◌, inl, inr, length, get_or, map, take, filter, refl, sym, subst, ap, ◌∙◌, arith}
use Rattle.std.specs.Prelude.{◌==◌}
use Rattle.std.specs.List.{All}
use Rattle.std.proofs.lemmas.Bool.{cases_lt}
use Rattle.std.proofs.lemmas.Bool.Decides.{Decides-eqb}
use Rattle.std.proofs.lemmas.List.{map-append, take_more}
use Rattle.std.proofs.lemmas.List.Elements.{All-head, All-nil, All-push, All-tail}
use Rattle.cal_context.specs.Children.{IsLinked}
use Rattle.cal_context.specs.Tree.{Tree, IsContext, attribute_at, path_at, value_at}
use Rattle.cal_context.specs.declared.numbers.Link.{Link}
use Rattle.cal_context.specs.declared.numbers.NodeNumber.{NodeNumber}
use Rattle.cal_rowset.specs.Hierarchy.{is_of_hierarchy}
use Rattle.cal_value.specs.declared.attribute.Entry.{Entry}
use Rattle.cal_keys.specs.Keys.{key_in, single_key}
use Rattle.cal_keys.specs.OwnWays.{AreNestedBefore, IsNestedAt}
use Rattle.cal_keys.specs.Leading.{AreWaysBehind}
use Rattle.cal_keys.specs.Trails.{mark, no_marks, trail}
use Rattle.cal_keys.specs.declared.key.GroupKey.{GroupKey}
use Rattle.cal_keys.proofs.Reaching.{leads-none}

abbrev is_nested : Entry → Type 0
is_nested e = is_of_hierarchy e.attr ≡ true

pub nested_child : (t : Tree) (l : Link) (n : NodeNumber) → IsLinked t l n → is_of_hierarchy (attribute_at t l.attribute) ≡ true
    → AreNestedBefore t n.0 → IsNestedAt t n
nested_child t l n linked nested before = record {
  within = linked.child.within;
  nested = subst (All is_nested) (sym linked.child.path)
      (All-push is_nested (path_at t l.parent) (record { attr = attribute_at t l.attribute; value = value_at t l.value })
      (before l.parent linked.child.later).nested nested);
}

pub nested_next : (t : Tree) (place : ℕ) (n : NodeNumber) → n.0 ≡ place → IsNestedAt t n → AreNestedBefore t place → AreNestedBefore t (place + 1)
nested_next t place n is here before m l = by (cases_lt m.0 place)
  where
    by : ((m.0 < place) ⊎ (place ≤ m.0)) → IsNestedAt t m
    by (inl short) = before m short
    by (inr long) =
        let e : n.0 ≡ m.0 = omega arith in
        let same : n ≡ m = λ i. record { 0 = e i } in
        subst (IsNestedAt t) same here

-- entries of the hierarchy are all chosen, and none of the others is
all_nested : (es : List Entry) → All is_nested es → filter (λ e. is_of_hierarchy e.attr) (es ++ []) ≡ es
all_nested [] h = refl
all_nested (e ∷ es) h =
    let first = All-head is_nested e es h in
    rw first (ap (λ xs. e ∷ xs) (all_nested es (All-tail is_nested e es h)))

none_beside : (es : List Entry) → All is_nested es → filter (λ e. not (is_of_hierarchy e.attr)) (es ++ []) ≡ []
none_beside [] h = refl
none_beside (e ∷ es) h =
    let first = All-head is_nested e es h in
    rw first (none_beside es (All-tail is_nested e es h))

-- the way to a group whose key is a node's path alone
pub own_way : (t : Tree) (k : GroupKey) (n : NodeNumber) → IsContext t → AreNestedBefore t (length t.paths) → k ≡ single_key n → n.0 < length t.paths
    → trail (key_in t k) ≡ no_marks ++ path_at t n
own_way t k n context nested single within = ap (λ (x : GroupKey). trail (key_in t x)) single ∙ by (n.0 == 0) refl
  where
    root : NodeNumber
    root = record { 0 = 0 }

    imms : path_at t root ≡ []
    imms = (leads-none t context).is

    trail_of : List (List Entry) → List Entry → List Entry
    trail_of paths entries = trail (record { paths = paths; imms = entries })

    one : trail_of (path_at t n ∷ []) [] ≡ no_marks ++ path_at t n
    one =
        let all = (nested n within).nested in
        λ i. mark (length (none_beside (path_at t n) all i)) ∷ mark 0 ∷ (none_beside (path_at t n) all i ++ all_nested (path_at t n) all i)

    by : (b : Bool) → (n.0 == 0) ≡ b → trail (key_in t (single_key n)) ≡ no_marks ++ path_at t n
    by true e =
        let zero_is : n.0 ≡ 0 = (Decides-eqb n.0 0).0 e in
        let same : n ≡ root = λ i. record { 0 = zero_is i } in
        (λ i. trail_of (map (path_at t) (if e i then [] else n ∷ [])) (imms i))
        ∙ ap (λ es. no_marks ++ es) (sym (ap (path_at t) same ∙ imms))
    by false e =
        (λ i. trail_of (map (path_at t) (if e i then [] else n ∷ [])) (imms i))
        ∙ one

-- one key more
pub own_next : (t : Tree) (keys : List GroupKey) (i : ℕ) (key : GroupKey) (nodes : List NodeNumber) (n : NodeNumber) → i < length keys → key ≡ get_or keys i key
    → AreWaysBehind t no_marks (map (key_in t) (take i keys)) nodes → n.0 < length t.paths → trail (key_in t key) ≡ no_marks ++ path_at t n
    → AreWaysBehind t no_marks (map (key_in t) (take (i + 1) keys)) (nodes ++ n ∷ [])
own_next t keys i key nodes n within is ways inside way = record {
  within = All-push (λ m. m.0 < length t.paths) nodes n ways.within inside;
  paths =
      map-append (λ m. no_marks ++ path_at t m) nodes (n ∷ [])
      ∙ (λ j. ways.paths j ++ sym way j ∷ [])
      ∙ sym (ap (λ ks. map trail (map (key_in t) ks)) (take_more keys i key within ∙ ap (λ k. take i keys ++ k ∷ []) (sym is))
      ∙ ap (map trail) (map-append (key_in t) (take i keys) (key ∷ []))
      ∙ map-append trail (map (key_in t) (take i keys)) (key_in t key ∷ []));
}
