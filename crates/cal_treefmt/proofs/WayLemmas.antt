-- Ways that were gone already, and how one goes on along the nodes of a context.
use Rattle.std.proofs.Common.{◌≡◌, ℕ, zero, suc, ◌<◌, ◌==◌, Bool, true, false, List, [], ◌∷◌, ◌++◌, ◌⊎◌, inl, inr, length, get_or, map, set, filter, Option, None, Some, IfSome, refl, sym, ap, ◌∙◌, subst, arith, if◌then◌else◌, eqb-true, All}
use Rattle.std.specs.Prelude.{is_some, unwrap_or, MatchOption, ⊤}
use Rattle.std.specs.List.{Contains}
use Rattle.std.specs.Ordering.{eq_by_cmp}
use Rattle.std.proofs.lemmas.List.{get_or-map, get_or-set_other, get_or-set_same, length-map, length-set, map-append, reverse-append, same_from_push}
use Rattle.std.proofs.lemmas.List.Elements.{All-cons, All-map, All-nil, filter-append}
use Rattle.cal_value.specs.ExactOrder.{exact_equiv, exact_tells}
use Rattle.cal_value.specs.Order.{attribute_cmp}
use Rattle.cal_value.specs.OrderLaws.{attribute_exact, path_exact}
use Rattle.cal_value.specs.declared.attribute.Attribute.{Attribute}
use Rattle.cal_value.specs.declared.attribute.Entry.{Entry}
use Rattle.cal_context.specs.Children.{IsLinked}
use Rattle.cal_context.specs.Tree.{Tree, Grows, IsContext, attribute_at, path_at, value_at}
use Rattle.cal_context.specs.declared.numbers.Link.{Link}
use Rattle.cal_context.specs.declared.numbers.NodeNumber.{NodeNumber}
use Rattle.cal_context.proofs.CallerLemmas.{Grows-refl, path_at-Grows, root_path, within_paths}
use Rattle.cal_treefmt.specs.Nodes.{firsts, is_node, nodes_on}
use Rattle.cal_treefmt.specs.Walks.{HasOnWay, Walks}
use Rattle.cal_treefmt.specs.Ways.{AreWays, Descends, IsAbove, IsUp, IsWay, LeadsTo, known_at, nested_at, with_known}
use Rattle.cal_treefmt.specs.declared.ways.Ways.{Ways}
use Rattle.cal_treefmt.proofs.Chaining.{same_or_other}
use Rattle.cal_treefmt.proofs.Firsts.{firsts-again}
use Rattle.cal_treefmt.proofs.Walking.{HasOnWay-Grows, Walks-none, Walks-trans, further, nested}

abbrev pub root : NodeNumber
root = record { 0 = 0 }

-- ---- a way that was gone

-- a node on a way isn't the root
abbrev IsNode : List Entry → Type 0
IsNode path = ¬ ([] ≡ path)

nodes_on-below : (entries : List Entry) → All IsNode (nodes_on entries)
nodes_on-below [] = All-nil IsNode
nodes_on-below (e ∷ path) = All-cons IsNode (e ∷ []) (map (λ node. e ∷ node) (nodes_on path)) (λ h. cc) (All-map IsNode (λ (node : List Entry). e ∷ node) (nodes_on path) (λ k d l h. cc))

not_first : (nodes : List (List Entry)) (path : List Entry) → IsNode path → Contains ([] ∷ nodes) path → Contains nodes path
not_first nodes path below (zero, l, is) = absurd (below is)
not_first nodes path below (suc k, l, is) = (k, omega (arith, l), is)

module _ (t : Tree) (entries : List Entry) (n : NodeNumber) (at_root : path_at t root ≡ []) (way : IsWay t entries n) where
  there : (seen : List (List Entry)) → t.paths ≡ [] ∷ firsts is_node seen → All (Contains (firsts is_node seen)) (further [] (nodes_on entries))
  there seen is = λ k d l.
      let below = All-map IsNode (λ (node : List Entry). [] ++ node) (nodes_on entries) (nodes_on-below entries) k d l in
      not_first (firsts is_node seen) (get_or (further [] (nodes_on entries)) k d) below
      (subst (λ (paths : List (List Entry)). Contains paths (get_or (further [] (nodes_on entries)) k d)) is (way.has.nodes k d l))

  -- it is gone again, and nothing is added
  pub Walks-again : Walks t t root entries n
  Walks-again = record {
    grows = Grows-refl t;
    within = way.within;
    path = way.path ∙ ap (λ p. p ++ entries) (sym at_root);
    nodes = λ seen is.
        let all = subst (λ p. All (Contains (firsts is_node seen)) (further p (nodes_on entries))) (sym at_root) (there seen is) in
        is ∙ ap (λ s. [] ∷ s) (sym (firsts-again (exact_equiv path_exact) (exact_tells path_exact) seen (further (path_at t root) (nodes_on entries)) all));
    attributes = λ seen is.
        let attr : Entry → Attribute = λ e. e.attr in
        is ∙ sym (
        ap (firsts (eq_by_cmp attribute_cmp)) (map-append attr seen entries)
        ∙ firsts-again (exact_equiv attribute_exact) (exact_tells attribute_exact) (map attr seen) (map attr entries)
        (subst (λ (attributes : List Attribute). All (Contains attributes) (map attr entries)) is way.has.attributes));
    has = subst (λ p. HasOnWay t p entries) (sym at_root) way.has;
  }

IsWay-Grows : (old new : Tree) (entries : List Entry) (n : NodeNumber) → Grows old new → IsWay old entries n → IsWay new entries n
IsWay-Grows old new entries n grows way = record {
  within = within_paths grows n.0 way.within;
  path = path_at-Grows grows n way.within ∙ way.path;
  has = HasOnWay-Grows old new [] entries grows way.has;
}

IsWay-walked : (old new : Tree) (entries : List Entry) (n : NodeNumber) → path_at old root ≡ [] → Walks old new root entries n → IsWay new entries n
IsWay-walked old new entries n at_root walks = record {
  within = walks.within;
  path = walks.path ∙ ap (λ p. p ++ entries) at_root;
  has = subst (λ p. HasOnWay new p entries) at_root walks.has;
}

-- ---- what is known

if_some : {A : Type 0} {P Q : A → Type 0} (o : Option A) → ((x : A) → P x → Q x) → IfSome o P → IfSome o Q
if_some None f h = tt
if_some (Some x) f h = f x h

pub AreWays-same : (t nodes : Tree) (old new : Ways) → new.known.items ≡ old.known.items → AreWays t nodes old → AreWays t nodes new
AreWays-same t nodes old new same ways = record {
  counted = ap length same ∙ ways.counted;
  ways = λ n l. subst (λ (known : List (Option NodeNumber)). IfSome (get_or known n.0 None) (IsWay nodes (nested_at t n))) (sym same) (ways.ways n l);
}

pub AreWays-none : (t nodes : Tree) (w : Ways) → length w.known.items ≡ length t.paths → ((k : ℕ) → get_or w.known.items k None ≡ None) → AreWays t nodes w
AreWays-none t nodes w counted none = record {
  counted = counted;
  ways = λ n l. subst (λ (o : Option NodeNumber). IfSome o (IsWay nodes (nested_at t n))) (sym (none n.0)) tt;
}

module _ (t old new : Tree) (w learned : Ways) (from node at : NodeNumber) (ways : AreWays t old w) (grows : Grows old new) (within : node.0 < length t.paths)
    (way : from.0 ≡ 0 → IsWay new (nested_at t node) at) where
  grown : (n : NodeNumber) → n.0 < length t.paths → IfSome (get_or w.known.items n.0 None) (IsWay new (nested_at t n))
  grown n l = if_some (get_or w.known.items n.0 None) (λ x h. IsWay-Grows old new (nested_at t n) x grows h) (ways.ways n l)

  at_node : (n : NodeNumber) → n.0 < length t.paths → from.0 ≡ 0 → ((node.0 ≡ n.0) ⊎ ¬ (node.0 ≡ n.0)) → IfSome (get_or (set w.known.items node.0 (Some at)) n.0 None) (IsWay new (nested_at t n))
  at_node n l is_root (inl e) =
      let same : node ≡ n = λ j. record { 0 = e j } in
      subst (λ (m : NodeNumber). IfSome (get_or (set w.known.items node.0 (Some at)) m.0 None) (IsWay new (nested_at t m))) same
      (subst (λ (o : Option NodeNumber). IfSome o (IsWay new (nested_at t node))) (sym (get_or-set_same w.known.items node.0 (Some at) None (omega (arith, within, ways.counted)))) (way is_root))
  at_node n l is_root (inr other) =
      subst (λ (o : Option NodeNumber). IfSome o (IsWay new (nested_at t n))) (sym (get_or-set_other w.known.items node.0 n.0 (Some at) None (λ e. other (sym e)))) (grown n l)

  pub AreWays-learned : learned.known.items ≡ with_known w.known.items from node at → AreWays t new learned
  AreWays-learned is = by (from.0 == 0) refl
    where
      by : (b : Bool) → (from.0 == 0) ≡ b → AreWays t new learned
      by true e =
          let known : learned.known.items ≡ set w.known.items node.0 (Some at) = is ∙ ap (λ c. if c then set w.known.items node.0 (Some at) else w.known.items) e in
          let is_root : from.0 ≡ 0 = eqb-true from.0 0 e in
          record {
            counted = ap length known ∙ length-set w.known.items node.0 (Some at) ∙ ways.counted;
            ways = λ n l. subst (λ (items : List (Option NodeNumber)). IfSome (get_or items n.0 None) (IsWay new (nested_at t n))) (sym known) (at_node n l is_root (same_or_other node.0 n.0));
          }
      by false e =
          let known : learned.known.items ≡ w.known.items = is ∙ ap (λ c. if c then set w.known.items node.0 (Some at) else w.known.items) e in
          record {
            counted = ap length known ∙ ways.counted;
            ways = λ n l. subst (λ (items : List (Option NodeNumber)). IfSome (get_or items n.0 None) (IsWay new (nested_at t n))) (sym known) (grown n l);
          }

-- what is known is known from the root
known-root : (known : List (Option NodeNumber)) (from n way : NodeNumber) → known_at known from n ≡ Some way → (from.0 ≡ 0) × (get_or known n.0 None ≡ Some way)
known-root known from n way is = by (from.0 == 0) refl
  where
    by : (b : Bool) → (from.0 == 0) ≡ b → (from.0 ≡ 0) × (get_or known n.0 None ≡ Some way)
    by true e = (eqb-true from.0 0 e, ap (λ c. if c then get_or known n.0 None else None) (sym e) ∙ is)
    by false e =
        let told : None ≡ Some way = ap (λ c. if c then get_or known n.0 None else None) (sym e) ∙ is in cc

-- ---- climbing

pub LeadsTo-none : (t : Tree) (n : NodeNumber) (left : List NodeNumber) → left ≡ [] → LeadsTo t n left n
LeadsTo-none t n left none = subst (λ (ns : List NodeNumber). LeadsTo t n ns n) (sym none) refl

pub LeadsTo-more : (t : Tree) (above n to : NodeNumber) (left new : List NodeNumber) → IsAbove t above n → LeadsTo t n left to → new ≡ left ++ n ∷ [] → LeadsTo t above new to
LeadsTo-more t above n to left new is leads added =
    subst (λ (ns : List NodeNumber). LeadsTo t above ns to) (sym added)
    (subst (λ (ns : List NodeNumber). Descends t above ns to) (sym (reverse-append left (n ∷ []))) (is, leads))

LeadsTo-first : (t : Tree) (from n to : NodeNumber) (left old : List NodeNumber) → old ≡ left ++ n ∷ [] → LeadsTo t from old to → IsAbove t from n × LeadsTo t n left to
LeadsTo-first t from n to left old is leads =
    subst (λ (ns : List NodeNumber). Descends t from ns to) (reverse-append left (n ∷ []))
    (subst (λ (ns : List NodeNumber). LeadsTo t from ns to) is leads)

-- ---- descending

-- The hierarchy of some node was gone, from which the nodes that are left lead on.
pub record IsDescending (t first nodes : Tree) (w : Ways) (from to at : NodeNumber) : Type 0 where
  pub up : NodeNumber
  pub left : LeadsTo t up w.left.items to
  pub ways : AreWays t nodes w
  pub walks : Walks first nodes from (nested_at t up) at

pub descending-start : (t nodes : Tree) (w : Ways) (from up to at : NodeNumber) → IsContext nodes → from.0 < length nodes.paths → up.0 < length t.paths → AreWays t nodes w
    → LeadsTo t up w.left.items to → IsUp t w.known.items from up → at ≡ unwrap_or (known_at w.known.items from up) from → IsDescending t nodes nodes w from to at
descending-start t nodes w from up to at context within up_within ways left is_up at_is = record {
  up = up;
  left = left;
  ways = ways;
  walks = subst (λ (n : NodeNumber). Walks nodes nodes from (nested_at t up) n) (sym at_is) (by (known_at w.known.items from up) refl is_up);
}
  where
    by : (o : Option NodeNumber) → known_at w.known.items from up ≡ o → MatchOption o (path_at t up ≡ []) (λ way. ⊤) → Walks nodes nodes from (nested_at t up) (unwrap_or o from)
    by None e top = subst (λ (es : List Entry). Walks nodes nodes from es from) (ap (filter nested) (sym top)) (Walks-none nodes from within)
    by (Some way) e known =
        let is = known-root w.known.items from up way e in
        let at_root : root ≡ from = λ j. record { 0 = sym is.0 j } in
        let gone = subst (λ (o : Option NodeNumber). IfSome o (IsWay nodes (nested_at t up))) is.1 (ways.ways up up_within) in
        subst (λ (n : NodeNumber). Walks nodes nodes n (nested_at t up) way) at_root (Walks-again nodes (nested_at t up) way (root_path context) gone)

-- the node to which the last entry of a node leads
abbrev pub LeadsOwn : Tree → Tree → Tree → NodeNumber → NodeNumber → NodeNumber → Type 0
LeadsOwn t old new n from to = (path : List Entry) (e : Entry) → path_at t n ≡ path ++ e ∷ [] → Walks old new from (filter nested (e ∷ [])) to

module _ (t first nodes new : Tree) (w learned : Ways) (from to at next after : NodeNumber) (left : List NodeNumber) (context : IsContext first)
    (descending : IsDescending t first nodes w from to at) (popped : w.left.items ≡ left ++ next ∷ []) where
  first_left : IsAbove t descending.up next × LeadsTo t next left to
  first_left = LeadsTo-first t descending.up next to left w.left.items popped descending.left

  pub next-within : next.0 < length t.paths
  next-within = first_left.0.within

  pub next-known : next.0 < length w.known.items
  next-known = omega (arith, first_left.0.within, descending.ways.counted)

  module _ (own : LeadsOwn t nodes new next at after) where
    abbrev e : Entry
    e = first_left.0.path.0

    step : Walks nodes new at (filter nested (e ∷ [])) after
    step = own (path_at t descending.up) e first_left.0.path.1

    walked : Walks first new from (nested_at t next) after
    walked =
        subst (λ (es : List Entry). Walks first new from es after)
        (sym (ap (filter nested) first_left.0.path.1 ∙ filter-append nested (path_at t descending.up) (e ∷ [])))
        (Walks-trans first nodes new from at after (nested_at t descending.up) (filter nested (e ∷ [])) descending.walks step)

    pub descending-more : learned.left.items ≡ left → learned.known.items ≡ with_known w.known.items from next after → IsDescending t first new learned from to after
    descending-more left_is known_is = record {
      up = next;
      left = subst (λ (ns : List NodeNumber). LeadsTo t next ns to) (sym left_is) first_left.1;
      ways = AreWays-learned t nodes new w learned from next after descending.ways step.grows first_left.0.within (λ is_root.
          let at_root : from ≡ root = λ j. record { 0 = is_root j } in
          IsWay-walked first new (nested_at t next) after (root_path context) (subst (λ (n : NodeNumber). Walks first new n (nested_at t next) after) at_root walked))
          known_is;
      walks = walked;
    }

pub descending-end : (t first nodes : Tree) (w : Ways) (from to at : NodeNumber) → IsDescending t first nodes w from to at → w.left.items ≡ [] → Walks first nodes from (nested_at t to) at
descending-end t first nodes w from to at descending none =
    let is : descending.up ≡ to = subst (λ (ns : List NodeNumber). LeadsTo t descending.up ns to) none descending.left in
    subst (λ (n : NodeNumber). Walks first nodes from (nested_at t n) at) is descending.walks

-- ---- rows by number

-- the path of a row's node
pub path-is : (t : Tree) (nodes items : List NodeNumber) (i : ℕ) (n : NodeNumber) → items ≡ nodes → i < length items → n ≡ get_or items i n → path_at t n ≡ get_or (map (path_at t) nodes) i (path_at t n)
path-is t nodes items i n same within is =
    ap (path_at t) (is ∙ ap (λ (ns : List NodeNumber). get_or ns i n) same)
    ∙ sym (get_or-map (path_at t) nodes i n (path_at t n) (omega (arith, within, ap length same)))

pub path-within : (t : Tree) (nodes items : List NodeNumber) (i : ℕ) → items ≡ nodes → i < length items → i < length (map (path_at t) nodes)
path-within t nodes items i same within = omega (arith, within, ap length same, length-map nodes (path_at t))

-- nothing is left
pub none-left : (ns : List NodeNumber) → length ns ≡ 0 → ns ≡ []
none-left [] none = refl
none-left (n ∷ ns) none = absurd (omega (arith, none))
