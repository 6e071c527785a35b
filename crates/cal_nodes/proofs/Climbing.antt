-- The way up from a node, step by step.
use Rattle.std.proofs.Common.{◌≡◌, ℕ, ◌+◌, ◌<◌, ◌++◌, List, [], ◌∷◌, length, map, Option, refl, sym}
use Rattle.std.proofs.Common.{ap, ◌∙◌, subst, arith, length-append}
use Rattle.std.proofs.lemmas.List.{append_assoc, append-nil}
use Rattle.cal_board.specs.declared.opened.Opened.{Opened}
use Rattle.cal_context.specs.Lists.{IsFront}
use Rattle.cal_context.specs.Tree as contexts
use Rattle.cal_context.specs.declared.numbers.NodeNumber.{NodeNumber}
use Rattle.cal_hand.specs.Nodes.{NodeAt, node_entry}
use Rattle.cal_nodes.proofs.Numbering.{node_later, one_opened}
use Rattle.cal_nodes.specs.Numbers.{AreNumbered}
use Rattle.cal_nodes.specs.Ways.{Climbs, HasNumber, IsStepUp, IsWay, opened_of}
use Rattle.cal_nodes.specs.declared.way.Step.{Step}
use Rattle.cal_once.specs.Seats.{view}
use Rattle.cal_once.specs.Views.{KnowsMore}
use Rattle.cal_once.specs.declared.seat.RowSeat.{RowSeat}
use Rattle.cal_tree.proofs.Walks.{below_root}
use Rattle.cal_tree.proofs.Ways.{last_split, leads_later}
use Rattle.cal_tree.specs.Seats.{IsPathOf, IsTreeSeat, slots_of}
use Rattle.cal_tree.specs.declared.tree.Tree.{Tree}
use Rattle.cal_tree.specs.declared.up.Up.{Up}
use Rattle.cal_value.specs.declared.variant.Variant.{Variant}
use Rattle.cal_words.specs.declared.node.NodeId.{NodeId}
use Rattle.cal_words.specs.declared.sort.NodeSort.{NodeSort}

-- The way has come from a node with a path to the child of another one.
pub record IsClimbed (tree : Tree) (seat : RowSeat NodeSort) (node : NodeId) (steps : List Step)
    (up : Up) : Type 0 where
  pub path : List (Opened Variant)
  pub node_at : NodeAt tree seat node path
  pub above : List (Opened Variant)
  pub climbs : Climbs tree seat path steps above
  pub here : IsPathOf tree seat (map node_entry above) up.parent.0
  pub depth : up.depth ≡ length above + 1

pub climbs_later : (tree : Tree) (was is : RowSeat NodeSort) → KnowsMore (view was) (view is)
    → (path : List (Opened Variant)) (steps : List Step) (above : List (Opened Variant))
    → Climbs tree was path steps above → Climbs tree is path steps above
climbs_later tree was is more path [] above c = c
climbs_later tree was is more path (s ∷ steps) above c = (
  c.0,
  node_later tree was is more s.node path c.1,
  c.2,
  climbs_later tree was is more c.0 steps
      above c.3,
)

pub climbed_later : (tree : Tree) (was is : RowSeat NodeSort) → KnowsMore (view was) (view is)
    → (node : NodeId) (steps : List Step) (up : Up) → IsClimbed tree was node steps up
    → IsClimbed tree is node steps up
climbed_later tree was is more node steps up w = record {
  path = w.path;
  node_at = node_later tree was is more node w.path w.node_at;
  above = w.above;
  climbs = climbs_later tree was is more w.path steps w.above w.climbs;
  here = leads_later (slots_of tree) (view was) (view is) 0 0 (map node_entry w.above) up.parent.0
      more w.here;
  depth = w.depth;
}

module _ (tree : Tree) (seat : RowSeat NodeSort) where
  -- one step more
  pub climbs_more : (path : List (Opened Variant)) (steps : List Step)
      (above : List (Opened Variant)) (s : Step)
      → Climbs tree seat path steps (above ++ opened_of s ∷ [])
      → NodeAt tree seat s.node (above ++ opened_of s ∷ [])
      → Climbs tree seat path (steps ++ s ∷ []) above
  climbs_more path [] above s c at =
      (above, subst (λ (p : List (Opened Variant)). NodeAt tree seat s.node p) (sym c) at, c, refl)
  climbs_more path (x ∷ steps) above s c at = (c.0, c.1, c.2, climbs_more c.0 steps above s c.3 at)

  -- the last step
  pub climbs_last : (path : List (Opened Variant)) (steps : List Step)
      (above : List (Opened Variant)) (s : Step) → Climbs tree seat path (steps ++ s ∷ []) above
      → NodeAt tree seat s.node (above ++ opened_of s ∷ []) × Climbs tree seat path steps
      (above ++ opened_of s ∷ [])
  climbs_last path [] above s c =
      let e : path ≡ above ++ opened_of s ∷ [] =
      c.2 ∙ ap (λ (f : List (Opened Variant)). f ++ opened_of s ∷ []) c.3 in
      (subst (λ (p : List (Opened Variant)). NodeAt tree seat s.node p) e c.1, e)
  climbs_last path (x ∷ steps) above s c =
      let r = climbs_last c.0 steps above s c.3 in
      (r.0, (c.0, c.1, c.2, r.1))

  -- a way up leads to a beginning of the path
  pub climbs_front : (path : List (Opened Variant)) (steps : List Step)
      (above : List (Opened Variant)) → Climbs tree seat path steps above → IsFront above path
  climbs_front path [] above c = ([], c ∙ sym (append-nil above))
  climbs_front path (s ∷ steps) above c =
      let f = climbs_front c.0 steps above c.3 in (
        f.0 ++ opened_of s ∷ [],
        c.2 ∙ ap (λ (p : List (Opened Variant)). p ++ opened_of s ∷ []) f.1
            ∙ append_assoc above f.0 (opened_of s ∷ []),
      )

  -- a node was read, of which the path is known
  pub climb_step : (node m : NodeId) (path : List (Opened Variant)) (steps new : List Step)
      (above : List (Opened Variant)) (up : Up) → NodeAt tree seat node path
      → Climbs tree seat path steps above → NodeAt tree seat m above
      → IsStepUp tree seat steps new m up → IsClimbed tree seat node new up
      × (up.depth < length above + 1)
  climb_step node m path steps new above up node_at climbs at s = go above climbs at
    where
      go : (a : List (Opened Variant)) → Climbs tree seat path steps a → NodeAt tree seat m a
          → IsClimbed tree seat node new up × (up.depth < length a + 1)
      go [] c h = let root = h.has_path in let below = h.below in absurd (omega arith)
      go (x ∷ xs) c h =
          let r = last_split x xs in
          let o : Opened Variant = opened_of s.step in
          let last : NodeAt tree seat m (r.0 ++ r.1 ∷ []) =
          subst (λ (p : List (Opened Variant)). NodeAt tree seat m p) r.2 h in
          let p = s.parent r.0 r.1 last in
          let same : x ∷ xs ≡ r.0 ++ o ∷ [] = r.2 ∙ (λ i. r.0 ++ p.1 i ∷ []) in
          let there : NodeAt tree seat s.step.node (r.0 ++ o ∷ []) =
          subst (λ (n : NodeId). NodeAt tree seat n (r.0 ++ o ∷ [])) (sym s.node_is)
          (subst (λ (q : List (Opened Variant)). NodeAt tree seat m q) same h) in
          let so_far : Climbs tree seat path steps (r.0 ++ o ∷ []) =
          subst (λ (q : List (Opened Variant)). Climbs tree seat path steps q) same c in
          let deep = p.2 in
          let long = ap (λ (l : List (Opened Variant)). length l) r.2 ∙ length-append r.0
          (r.1 ∷ []) in (
            record {
              path = path;
              node_at = node_at;
              above = r.0;
              climbs = subst (λ (st : List Step). Climbs tree seat path st r.0) (sym s.pushed)
                  (climbs_more path steps r.0 s.step so_far there);
              here = p.0;
              depth = p.2;
            },
            omega arith,
          )

  -- the way has come to the root
  pub above_root : (above : List (Opened Variant)) (n : ℕ)
      → IsPathOf tree seat (map node_entry above) n → n ≡ 0 → above ≡ []
  above_root [] n l root = refl
  above_root (o ∷ above) n l root = let below = below_root (slots_of tree) (view seat)
      (map node_entry (o ∷ above)) n l (omega arith) in absurd (omega arith)

  -- the way has come to a node that has a number
  pub climb_ends : IsTreeSeat tree seat → (t : contexts.Tree) (numbers : List (Option NodeNumber))
      (node : NodeId) (path : List (Opened Variant)) (steps : List Step) (up : Up) (n : NodeNumber)
      → AreNumbered tree seat t numbers → NodeAt tree seat node path
      → (w : IsClimbed tree seat node steps up) → HasNumber tree seat numbers w.above n
      → IsWay tree seat t numbers n steps path
  climb_ends is t numbers node path steps up n a at w h = record {
    is_seat = is;
    numbered = a;
    above = w.above;
    climbs = subst (λ (p : List (Opened Variant)). Climbs tree seat p steps w.above)
        (one_opened tree seat is node w.path path w.node_at at) w.climbs;
    start = h;
  }

-- the way goes on from a parent to its own
pub climb_on : (tree : Tree) (was is : RowSeat NodeSort) → KnowsMore (view was) (view is)
    → (node : NodeId) (steps new : List Step) (up next : Up) → 0 < up.parent.0
    → IsClimbed tree was node steps up → IsStepUp tree is steps new up.parent next
    → IsClimbed tree is node new next × (next.depth < up.depth)
climb_on tree was is more node steps new up next below w s =
    let later = climbed_later tree was is more node steps up w in
    let at : NodeAt tree is up.parent later.above = record {
      below = below;
      has_path =
          later.here;
    } in
    let r = climb_step tree is node up.parent later.path steps new later.above next later.node_at
    later.climbs at s in
    (r.0, subst (λ (d : ℕ). next.depth < d) (sym later.depth) r.1)

-- the way up that was found, where what it was found in is this list
pub way_from : (tree : Tree) (was is : RowSeat NodeSort) → KnowsMore (view was) (view is)
    → (t : contexts.Tree) (numbers found : List (Option NodeNumber)) → numbers ≡ found
    → AreNumbered tree was t numbers
    → (node : NodeId) (path : List (Opened Variant)) → NodeAt tree was node path
    → (start : NodeNumber) (steps : List Step)
    → ((t : contexts.Tree) (path : List (Opened Variant)) → AreNumbered tree was t found
    → NodeAt tree is node path → IsWay tree is t found start steps path)
    → IsWay tree is t numbers start steps path
way_from tree was is more t numbers found same a node path at start steps way =
    subst (λ (ns : List (Option NodeNumber)). IsWay tree is t ns start steps path) (sym same)
    (way t path (subst (λ (ns : List (Option NodeNumber)). AreNumbered tree was t ns) same a)
    (node_later tree was is more node path at))
