-- Numbers stay, and stand for whatever is known as their nodes' paths.
use Rattle.std.proofs.Common.{◌≡◌, ℕ, ◌+◌, ◌<◌, ◌≤◌, get_or, List, [], ◌∷◌, length, map, Option}
use Rattle.std.proofs.Common.{Some, refl, sym, ap, ◌∙◌, subst, inl, inr, ⊎_elim, arith}
use Rattle.std.proofs.lemmas.Bool.{cases_lt}
use Rattle.std.proofs.lemmas.List.{get_or_default}
use Rattle.cal_board.specs.ContextGrowth.{NodeStands-Grows}
use Rattle.cal_board.specs.Contexts.{NodeStands}
use Rattle.cal_board.specs.declared.opened.Opened.{Opened}
use Rattle.cal_context.proofs.CallerLemmas.{within_attributes}
use Rattle.cal_context.specs.Tree as contexts
use Rattle.cal_context.specs.Tree.{Grows}
use Rattle.cal_context.specs.declared.numbers.NodeNumber.{NodeNumber}
use Rattle.cal_hand.specs.Nodes.{NodeAt, node_entry}
use Rattle.cal_nodes.specs.Numbers.{AddsWay, AddsWays, AreNumbered, CanNumber, IsMet, IsNumbered}
use Rattle.cal_nodes.specs.Numbers.{IsOnWay, KeepsNumbers, number_in}
use Rattle.cal_once.proofs.Learning.{knows_later}
use Rattle.cal_once.specs.Seats.{view}
use Rattle.cal_once.specs.Views.{KnowsMore}
use Rattle.cal_once.specs.declared.seat.RowSeat.{RowSeat}
use Rattle.cal_tree.proofs.Walks.{known_of_path}
use Rattle.cal_tree.proofs.Ways.{leads_later, one_end, one_path}
use Rattle.cal_tree.specs.Paths.{NodeEntry}
use Rattle.cal_tree.specs.Seats.{IsKnownNode, IsTreeSeat, plan_of, slots_of}
use Rattle.cal_tree.specs.declared.tree.Tree.{Tree}
use Rattle.cal_value.specs.declared.variant.Variant.{Variant}
use Rattle.cal_words.specs.declared.node.NodeId.{NodeId}
use Rattle.cal_words.specs.declared.sort.NodeSort.{NodeSort}

module _ (tree : Tree) (was is : RowSeat NodeSort) (more : KnowsMore (view was) (view is)) where
  pub node_later : (node : NodeId) (path : List (Opened Variant)) → NodeAt tree was node path
      → NodeAt tree is node path
  node_later node path at = record {
    below = at.below;
    has_path = leads_later (slots_of tree) (view was) (view is) 0 0 (map node_entry path) node.0
        more at.has_path;
  }

  pub numbered_later : (old new : contexts.Tree) (numbers : List (Option NodeNumber))
      → Grows old new → AreNumbered tree was old numbers → AreNumbered tree is new numbers
  numbered_later old new numbers grows a = record {
    long = a.long;
    each = λ node n e. let s = a.each node n e in record {
      path = s.path;
      node_at = node_later node s.path s.node_at;
      stands = NodeStands-Grows grows n s.path s.stands;
    };
  }

  pub can_later : (old new : contexts.Tree) (node : NodeId) → Grows old new
      → CanNumber tree was old node → CanNumber tree is new node
  can_later old new node grows c = record {
    path = c.path;
    node_at = node_later node c.path c.node_at;
    listed = λ k d l. within_attributes grows _ (c.listed k d l);
  }

-- what is known of a node stays
pub met_later : (tree : Tree) (was is : RowSeat NodeSort) → KnowsMore (view was) (view is)
    → (numbers : List (Option NodeNumber)) (node : NodeId) → IsMet tree was numbers node
    → IsMet tree is numbers node
met_later tree was is more numbers node met = record {
  place = met.place;
  known = ⊎_elim (λ root. inl root)
      (λ at. inr (at.0, at.1, at.2, knows_later (view was) (view is) at.0 more at.3)) met.known;
  below = met.below;
}

-- an open value is its entry
opened_back : NodeEntry → Opened Variant
opened_back e = record { attribute = e.attr; value = e.value }

back_again : (path : List (Opened Variant)) → map opened_back (map node_entry path) ≡ path
unfolding opened_back
back_again [] = refl
back_again (o ∷ path) = (λ i. o ∷ back_again path i)

same_opened : (p q : List (Opened Variant)) → map node_entry p ≡ map node_entry q → p ≡ q
same_opened p q e = sym (back_again p) ∙ ap (λ (es : List NodeEntry). map opened_back es) e
    ∙ back_again q

-- a node that is known has its place
pub place_within : (tree : Tree) (seat : RowSeat NodeSort) (node places : ℕ)
    → IsKnownNode tree seat node → slots_of tree < places → node < places
place_within tree seat node places known long = ⊎_elim (λ root. omega arith) (λ t. let is = t.1 in
    let less = t.2 in omega arith) known

pub known_node : (tree : Tree) (seat : RowSeat NodeSort) (node : NodeId)
    (path : List (Opened Variant)) → NodeAt tree seat node path → IsKnownNode tree seat node.0
known_node tree seat node path at = known_of_path (slots_of tree) (view seat) (map node_entry path)
    node.0 at.has_path

-- a node that can be put into the context is known, and has its place
pub can_met : (tree : Tree) (seat : RowSeat NodeSort) (t : contexts.Tree)
    (numbers : List (Option NodeNumber)) (node : NodeId) → slots_of tree < length numbers
    → CanNumber tree seat t node → IsMet tree seat numbers node
can_met tree seat t numbers node long can =
    let known = known_node tree seat node can.path can.node_at in
    record {
      place = place_within tree seat node.0 (length numbers) known long;
      known = known;
      below = can.node_at.below;
    }

module _ (tree : Tree) (seat : RowSeat NodeSort) (is : IsTreeSeat tree seat) where
  pub one_opened : (node : NodeId) (p q : List (Opened Variant)) → NodeAt tree seat node p
      → NodeAt tree seat node q → p ≡ q
  one_opened node p q a b = same_opened p q (one_path (plan_of tree) (view seat) is.sound
      (map node_entry p) (map node_entry q) node.0 a.has_path b.has_path)

  pub one_node_at : (m n : NodeId) (path : List (Opened Variant)) → NodeAt tree seat m path
      → NodeAt tree seat n path → m ≡ n
  one_node_at m n path a b =
      let same : m.0 ≡ n.0 = one_end (plan_of tree) (view seat) is.sound 0 0 (map node_entry path)
      m.0 n.0 a.has_path b.has_path in
      λ i. record { 0 = same i }

  pub stands_for : (t : contexts.Tree) (numbers : List (Option NodeNumber)) (node : NodeId)
      (n : NodeNumber) (path : List (Opened Variant)) → AreNumbered tree seat t numbers
      → number_in numbers node ≡ Some n → NodeAt tree seat node path → NodeStands t n path
  stands_for t numbers node n path a e at =
      let s = a.each node n e in
      subst (λ (p : List (Opened Variant)). NodeStands t n p) (one_opened node s.path path s.node_at
      at) s.stands

-- the nodes so far have numbers, and one more has
pub numbered_more : (old new : List (Option NodeNumber)) → KeepsNumbers old new
    → (nodes : List NodeId) (i : ℕ) (e : NodeId) → i < length nodes → ((k : ℕ) (d : NodeId) → k < i
    → IsNumbered old (get_or nodes k d)) → IsNumbered new (get_or nodes i e)
    → (k : ℕ) (d : NodeId) → k < i + 1 → IsNumbered new (get_or nodes k d)
numbered_more old new keeps nodes i e less so_far this k d l = ⊎_elim
    (λ (before : k < i). let h = so_far k d before in (h.0, keeps (get_or nodes k d) h.0 h.1))
    (λ (last : i ≤ k).
    let at : k ≡ i = omega arith in
    subst (λ (m : NodeId). IsNumbered new m) (get_or_default nodes i e d less
    ∙ ap (λ (j : ℕ). get_or nodes j d) (sym at)) this)
    (cases_lt k i)

-- what is on the way to a node stays so
pub on_way_later : (tree : Tree) (was is : RowSeat NodeSort) → KnowsMore (view was) (view is)
    → (old new : contexts.Tree) → Grows old new → (n : NodeNumber) (node : NodeId)
    → IsOnWay tree was old n node → IsOnWay tree is new n node
on_way_later tree was is more old new grows n node h = record {
  path = h.path;
  node_at = node_later tree was is more node h.path h.node_at;
  front = h.front;
  begins = h.begins;
  stands = NodeStands-Grows grows n h.front h.stands;
}

-- what was put there for the nodes so far, and for one more
pub adds_ways-more : (tree : Tree) (was is : RowSeat NodeSort) → KnowsMore (view was) (view is)
    → (t₀ old new : contexts.Tree) → Grows old new → (nodes : List NodeId) (i : ℕ)
    → i < length nodes
    → AddsWays tree was old t₀ nodes → AddsWay tree is new old (get_or nodes i (record { 0 = 0 }))
    → AddsWays tree is new t₀ nodes
adds_ways-more tree was is more t₀ old new grows nodes i less so_far this n late within = ⊎_elim
    (λ (before : n.0 < length old.paths).
    let h = so_far n late before in (
      h.0,
      h.1,
      on_way_later tree was is more old new grows n (get_or nodes h.0 (record { 0 = 0 }))
          h.2,
    ))
    (λ (last : length old.paths ≤ n.0). (i, less, this n last within))
    (cases_lt n.0 (length old.paths))
