-- What a context has after one more node, after one more row.
use Rattle.std.proofs.Common.{◌≡◌, ℕ, zero, suc, ◌+◌, ◌<◌, Bool, List, [], ◌∷◌, ◌++◌, inl, inr, length, get_or, map, take, refl, sym, ap, ◌∙◌, subst, arith, append_assoc, true, false, filter, if◌then◌else◌}
use Rattle.std.specs.List.{All, Contains, flat_map}
use Rattle.std.specs.Ordering.{eq_by_cmp}
use Rattle.std.proofs.lemmas.Grind.{flat_map-append}
use Rattle.std.proofs.lemmas.List.{append-nil, map-append, map-id, take_more}
use Rattle.std.proofs.lemmas.List.Elements.{All-append, All-cons, All-nil, All-push, Contains-append_left, Contains-get_or, filter-append}
use Rattle.std.proofs.lemmas.Option.{get_or_from_slice_get, slice_get_within}
use Rattle.cal_value.specs.ExactOrder.{exact_equiv, exact_tells}
use Rattle.cal_value.specs.Order.{attribute_cmp}
use Rattle.cal_value.specs.OrderLaws.{attribute_exact, path_exact}
use Rattle.cal_value.specs.declared.attribute.Attribute.{Attribute}
use Rattle.cal_value.specs.declared.attribute.Entry.{Entry}
use Rattle.cal_value.specs.declared.record.Rec.{Rec}
use Rattle.cal_context.specs.Children.{AddsAttribute, AddsChild}
use Rattle.cal_context.specs.Lists.{Adds, IsFront}
use Rattle.cal_context.specs.Tree.{Tree, Grows, attribute_at, path_at, no_attribute}
use Rattle.cal_context.specs.declared.numbers.AttributeNumber.{AttributeNumber}
use Rattle.cal_context.specs.declared.numbers.NodeNumber.{NodeNumber}
use Rattle.cal_context.proofs.CallerLemmas.{Grows-refl, Grows-trans, path_at-Grows, attribute_at-Grows, within_paths}
use Rattle.cal_context.proofs.ListLemmas.{map-alike}
use Rattle.cal_value.specs.Flat.{joined}
use Rattle.cal_rowset.specs.Hierarchy.{hierarchy, is_of_hierarchy}
use Rattle.cal_treefmt.specs.Nodes.{firsts, is_node, nodes_on}
use Rattle.cal_treefmt.specs.Walks.{AreAt, HasNodes, HasOnWay, Walks, attributes_of}
use Rattle.cal_treefmt.proofs.Firsts.{firsts-Adds}

-- ---- nodes on the way

-- below a node, further down
abbrev pub further : List Entry → List (List Entry) → List (List Entry)
further path nodes = map (λ node. path ++ node) nodes

further-further : (p q : List Entry) (nodes : List (List Entry)) → further p (further q nodes) ≡ further (p ++ q) nodes
further-further p q [] = refl
further-further p q (node ∷ nodes) = λ j. sym (append_assoc p q node) j ∷ further-further p q nodes j

-- the nodes on a way that goes on
nodes_on-append : (path more : List Entry) → nodes_on (path ++ more) ≡ nodes_on path ++ further path (nodes_on more)
nodes_on-append [] more = sym (map-id (nodes_on more))
nodes_on-append (e ∷ path) more = ap (λ nodes. (e ∷ []) ∷ nodes) (
    ap (map (λ node. e ∷ node)) (nodes_on-append path more)
    ∙ map-append (λ node. e ∷ node) (nodes_on path) (further path (nodes_on more))
    ∙ ap (λ nodes. map (λ node. e ∷ node) (nodes_on path) ++ nodes) (further-further (e ∷ []) path (nodes_on more)))

further-append : (p q es fs : List Entry) → q ≡ p ++ es → further p (nodes_on es) ++ further q (nodes_on fs) ≡ further p (nodes_on (es ++ fs))
further-append p q es fs is =
    ap (λ q. further p (nodes_on es) ++ further q (nodes_on fs)) is
    ∙ ap (λ s. further p (nodes_on es) ++ s) (sym (further-further p es (nodes_on fs)))
    ∙ sym (map-append (λ node. p ++ node) (nodes_on es) (further es (nodes_on fs)))
    ∙ ap (further p) (sym (nodes_on-append es fs))

-- what is there stays
pub Contains-front : {A : Type 0} (xs ys : List A) (x : A) → IsFront xs ys → Contains xs x → Contains ys x
Contains-front xs ys x front there = subst (λ zs. Contains zs x) (sym front.1) (Contains-append_left xs front.0 x there)

pub HasOnWay-Grows : (old new : Tree) (path entries : List Entry) → Grows old new → HasOnWay old path entries → HasOnWay new path entries
HasOnWay-Grows old new path entries grows has = record {
  nodes = λ k d l. Contains-front old.paths new.paths _ grows.paths (has.nodes k d l);
  attributes = λ k d l. Contains-front old.attributes new.attributes _ grows.attributes (has.attributes k d l);
}

-- ---- one node more

is_path : (x y : List Entry) → is_node x y ≡ true → x ≡ y
is_path x y e = exact_tells path_exact x y e

not_root : (path : List Entry) (e : Entry) → [] ≡ path ++ e ∷ [] → ⊥
not_root [] e h = cc
not_root (f ∷ path) e h = cc

-- a node below the root goes behind the root and the others
below_root : (nodes : List (List Entry)) (path : List Entry) (e : Entry) (new : List (List Entry)) → Adds ([] ∷ nodes) (path ++ e ∷ []) new
    → (rest : List (List Entry)) × (new ≡ [] ∷ rest) × Adds nodes (path ++ e ∷ []) rest
below_root nodes path e new (inl ((zero, l, is), same)) = absurd (not_root path e is)
below_root nodes path e new (inl ((suc k, l, is), same)) = (nodes, same, inl ((k, omega (arith, l), is), refl))
below_root nodes path e new (inr (lacks, is)) = (nodes ++ (path ++ e ∷ []) ∷ [], is, inr (λ there. lacks (suc there.0, omega (arith, there.1), there.2), refl))

attribute-is : (old new : Tree) (a : Attribute) (n : AttributeNumber) → AddsAttribute old a new n → (n.0 < length new.attributes) × (attribute_at new n ≡ a)
attribute-is old new a n adds =
    (slice_get_within new.attributes n.0 a adds.attributes.number, get_or_from_slice_get new.attributes n.0 a no_attribute adds.attributes.number)

pub attribute-within : (old new : Tree) (a : Attribute) (n : AttributeNumber) → AddsAttribute old a new n → n.0 < length new.attributes
attribute-within old new a n adds = (attribute-is old new a n adds).0

module _ (old mid new : Tree) (up : NodeNumber) (e : Entry) (a : AttributeNumber) (n : NodeNumber) (within : up.0 < length old.paths)
    (first : AddsAttribute old e.attr mid a) (first_grows : Grows old mid) (child : AddsChild mid up a e.value new n) (child_grows : Grows mid new) where
  grows : Grows old new
  grows = Grows-trans old mid new first_grows child_grows

  same : attribute_at new a ≡ e.attr
  same = let is = attribute-is old mid e.attr a first in attribute_at-Grows child_grows a is.0 ∙ is.1

  path : path_at new n ≡ path_at old up ++ e ∷ []
  path =
      let above = path_at-Grows grows up within in
      child.child.path ∙ (λ j. above j ++ record { attr = same j; value = e.value } ∷ [])

  nodes : (seen : List (List Entry)) → old.paths ≡ [] ∷ firsts is_node seen → new.paths ≡ [] ∷ firsts is_node (seen ++ (path_at old up ++ e ∷ []) ∷ [])
  nodes seen is =
      let adds : Adds ([] ∷ firsts is_node seen) (path_at old up ++ e ∷ []) new.paths =
      subst (λ xs. Adds xs (path_at old up ++ e ∷ []) new.paths) (first.paths ∙ is) (subst (λ x. Adds mid.paths x new.paths) path child.paths) in
      let rest = below_root (firsts is_node seen) (path_at old up) e new.paths adds in
      rest.1 ∙ ap (λ xs. [] ∷ xs) (firsts-Adds (exact_equiv path_exact) is_path seen (path_at old up ++ e ∷ []) (firsts is_node seen) rest.0 refl rest.2)

  attributes : (seen : List Entry) → old.attributes ≡ attributes_of seen → new.attributes ≡ attributes_of (seen ++ e ∷ [])
  attributes seen is =
      child.attributes
      ∙ firsts-Adds (exact_equiv attribute_exact) (λ x y h. exact_tells attribute_exact x y h) (map (λ (f : Entry). f.attr) seen) e.attr old.attributes mid.attributes is first.attributes.adds
      ∙ ap (firsts (eq_by_cmp attribute_cmp)) (sym (map-append (λ (f : Entry). f.attr) seen (e ∷ [])))

  has : HasOnWay new (path_at old up) (e ∷ [])
  has = record {
    nodes = All-cons (Contains new.paths) (path_at old up ++ e ∷ []) [] (subst (Contains new.paths) path (Contains-get_or new.paths n.0 [] child.child.within)) (All-nil (Contains new.paths));
    attributes = All-cons (Contains new.attributes) e.attr [] (subst (Contains new.attributes) same (Contains-get_or new.attributes a.0 no_attribute child.child.known)) (All-nil (Contains new.attributes));
  }

  pub Walks-child : Walks old new up (e ∷ []) n
  Walks-child = record { grows = grows; within = child.child.within; path = path; nodes = nodes; attributes = attributes; has = has }

-- ---- ways

pub Walks-none : (t : Tree) (n : NodeNumber) → n.0 < length t.paths → Walks t t n [] n
Walks-none t n within = record {
  grows = Grows-refl t;
  within = within;
  path = sym (append-nil (path_at t n));
  nodes = λ seen is. is ∙ ap (λ s. [] ∷ firsts is_node s) (sym (append-nil seen));
  attributes = λ seen is. is ∙ ap attributes_of (sym (append-nil seen));
  has = record { nodes = All-nil (Contains t.paths); attributes = All-nil (Contains t.attributes) };
}

pub Walks-trans : (a b c : Tree) (from mid to : NodeNumber) (es fs : List Entry) → Walks a b from es mid → Walks b c mid fs to → Walks a c from (es ++ fs) to
Walks-trans a b c from mid to es fs h g = record {
  grows = Grows-trans a b c h.grows g.grows;
  within = g.within;
  path = g.path ∙ ap (λ p. p ++ fs) h.path ∙ append_assoc (path_at a from) es fs;
  nodes = λ seen is.
      g.nodes (seen ++ further (path_at a from) (nodes_on es)) (h.nodes seen is)
      ∙ ap (λ s. [] ∷ firsts is_node s) (
      append_assoc seen (further (path_at a from) (nodes_on es)) (further (path_at b mid) (nodes_on fs))
      ∙ ap (λ s. seen ++ s) (further-append (path_at a from) (path_at b mid) es fs h.path));
  attributes = λ seen is. g.attributes (seen ++ es) (h.attributes seen is) ∙ ap attributes_of (append_assoc seen es fs);
  has =
      let before = HasOnWay-Grows b c (path_at a from) es g.grows h.has in
      let attr : Entry → Attribute = λ e. e.attr in
      record {
        nodes = subst (All (Contains c.paths)) (further-append (path_at a from) (path_at b mid) es fs h.path)
            (All-append (Contains c.paths) (further (path_at a from) (nodes_on es)) (further (path_at b mid) (nodes_on fs)) before.nodes g.has.nodes);
        attributes = subst (All (Contains c.attributes)) (sym (map-append attr es fs))
            (All-append (Contains c.attributes) (map attr es) (map attr fs) before.attributes g.has.attributes);
      };
}

-- ---- rows

root_path : (t : Tree) (rows : List Rec) → HasNodes t rows → path_at t (record { 0 = 0 }) ≡ []
root_path t rows has = ap (λ (paths : List (List Entry)). get_or paths 0 []) has.nodes

module _ (old new : Tree) (rows : List Rec) (i : ℕ) (row : Rec) (n : NodeNumber) (within : i < length rows) (is : row ≡ get_or rows i row)
    (walks : Walks old new (record { 0 = 0 }) (hierarchy row) n) (has : HasNodes old (take i rows)) where
  more : take (i + 1) rows ≡ take i rows ++ row ∷ []
  more = take_more rows i row within ∙ ap (λ r. take i rows ++ r ∷ []) (sym is)

  pub HasNodes-more : HasNodes new (take (i + 1) rows)
  HasNodes-more =
      let ways : Rec → List (List Entry) = λ r. nodes_on (hierarchy r) in
      record {
        nodes =
            walks.nodes (flat_map ways (take i rows)) has.nodes
            ∙ ap (λ s. [] ∷ firsts is_node s) (
            ap (λ p. flat_map ways (take i rows) ++ further p (ways row)) (root_path old (take i rows) has)
            ∙ ap (λ s. flat_map ways (take i rows) ++ s) (map-id (ways row) ∙ sym (append-nil (ways row)))
            ∙ sym (flat_map-append ways (take i rows) (row ∷ []))
            ∙ ap (flat_map ways) (sym more));
        attributes =
            walks.attributes (flat_map hierarchy (take i rows)) has.attributes
            ∙ ap attributes_of (
            ap (λ s. flat_map hierarchy (take i rows) ++ s) (sym (append-nil (hierarchy row)))
            ∙ sym (flat_map-append hierarchy (take i rows) (row ∷ []))
            ∙ ap (flat_map hierarchy) (sym more));
      }

  pub AreAt-more : (numbers : List NodeNumber) → AreAt old numbers (map hierarchy (take i rows)) → AreAt new (numbers ++ n ∷ []) (map hierarchy (take (i + 1) rows))
  AreAt-more numbers at = record {
    within = All-push (λ m. m.0 < length new.paths) numbers n (λ k d l. within_paths walks.grows (get_or numbers k d).0 (at.within k d l)) walks.within;
    paths =
        map-append (path_at new) numbers (n ∷ [])
        ∙ (λ j. map-alike (path_at new) (path_at old) numbers (λ k d l. path_at-Grows walks.grows (get_or numbers k d) (at.within k d l)) j
        ++ (walks.path ∙ ap (λ p. p ++ hierarchy row) (root_path old (take i rows) has)) j ∷ [])
        ∙ ap (λ s. s ++ hierarchy row ∷ []) at.paths
        ∙ sym (ap (map hierarchy) more ∙ map-append hierarchy (take i rows) (row ∷ []));
  }

-- ---- along a path, and along paths

abbrev pub nested : Entry → Bool
nested e = is_of_hierarchy e.attr

pub Walks-more : (a b c : Tree) (from mid to : NodeNumber) (path : List Entry) (i : ℕ) (e : Entry) → i < length path → e ≡ get_or path i e → Walks a b from (filter nested (take i path)) mid
    → Walks b c mid (filter nested (e ∷ [])) to → Walks a c from (filter nested (take (i + 1) path)) to
Walks-more a b c from mid to path i e within is h g =
    subst (λ (es : List Entry). Walks a c from es to)
    (sym (filter-append nested (take i path) (e ∷ [])) ∙ ap (filter nested) (ap (λ f. take i path ++ f ∷ []) is ∙ sym (take_more path i e within)))
    (Walks-trans a b c from mid to (filter nested (take i path)) (filter nested (e ∷ [])) h g)

pub Walks-path : (a b c : Tree) (from mid to : NodeNumber) (paths : List (List Entry)) (i : ℕ) (path : List Entry) → i < length paths → path ≡ get_or paths i path
    → Walks a b from (filter nested (joined (take i paths))) mid → Walks b c mid (filter nested path) to → Walks a c from (filter nested (joined (take (i + 1) paths))) to
Walks-path a b c from mid to paths i path within is h g =
    subst (λ (es : List Entry). Walks a c from es to)
    (sym (filter-append nested (joined (take i paths)) path)
    ∙ ap (filter nested) (
    ap (λ es. joined (take i paths) ++ es) (sym (append-nil path))
    ∙ sym (flat_map-append (λ (p : List Entry). p) (take i paths) (path ∷ []))
    ∙ ap joined (ap (λ p. take i paths ++ p ∷ []) is ∙ sym (take_more paths i path within))))
    (Walks-trans a b c from mid to (filter nested (joined (take i paths))) (filter nested path) h g)

pub Walks-other : (t : Tree) (from : NodeNumber) (e : Entry) → from.0 < length t.paths → is_of_hierarchy e.attr ≡ false → Walks t t from (filter nested (e ∷ [])) from
Walks-other t from e within is = subst (λ (es : List Entry). Walks t t from es from) (ap (λ b. if b then e ∷ [] else []) (sym is)) (Walks-none t from within)

-- ---- without rows

pub HasNodes-none : (t : Tree) → t ≡ record { attributes = []; values = []; paths = [] ∷ [] } → HasNodes t []
HasNodes-none t is = record { nodes = ap (λ (s : Tree). s.paths) is; attributes = ap (λ (s : Tree). s.attributes) is }

pub AreAt-none : (t : Tree) (numbers : List NodeNumber) → numbers ≡ [] → AreAt t numbers []
AreAt-none t numbers is = subst (λ (ns : List NodeNumber). AreAt t ns []) (sym is) (record { within = λ k d l. absurd (omega (arith, l)); paths = refl })
