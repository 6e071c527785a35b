-- What a hand at a shared tree keeps, and what one call for a node does: it publishes one at most.
use Rattle.std.proofs.Common.{◌≡◌, ℕ, List, map, Option, Some, Result, Err, refl, inl, subst, sym}
use Rattle.cal_board.specs.declared.opened.Opened.{Opened}
use Rattle.cal_once.specs.Seats.{view}
use Rattle.cal_once.specs.Views.{IsLater}
use Rattle.cal_hand.specs.Nodes.{AddsNode, IsNodeFor, PublishedOne, node_entry, parent_number}
use Rattle.cal_hand.specs.declared.hand.Hand.{Hand}
use Rattle.cal_tree.specs.Children.{IsAnswer}
use Rattle.cal_tree.specs.Paths.{HasPath}
use Rattle.cal_tree.specs.Seats.{IsTreeSeat, plan_of, slots_of}
use Rattle.cal_tree.specs.declared.tree.Tree.{Tree}
use Rattle.cal_tree.proofs.Ways.{leads_later}
use Rattle.cal_value.specs.declared.variant.Variant.{Variant}
use Rattle.cal_words.specs.Words.{node_length}
use Rattle.cal_words.specs.declared.full.TreeFull.{TreeFull}
use Rattle.cal_words.specs.declared.node.NodeId.{NodeId}

-- the same hand after one call at most: its seat has published nothing, or one node for the value
pub record GrowsHand (old new : Hand) : Type 0 where
  pub lent : new.seat.ghost_name ≡ old.seat.ghost_name
  pub tree : new.tree.now ≡ old.tree.now
  pub value : new.value.now ≡ old.value.now
  pub seat : IsTreeSeat old.tree.now old.seat.now → IsTreeSeat new.tree.now new.seat.now
  pub later : IsLater (view old.seat.now) (view new.seat.now)
  pub place : ℕ
  pub one : PublishedOne (view old.seat.now) (view new.seat.now) place
      (node_length old.value.now)

-- the node is the one that the seat has published, if any
abbrev pub AddsByHand : Hand → Hand → NodeId → Type 0
AddsByHand old new n = AddsNode old.value.now old.seat.now new.seat.now n

-- why the tree refused a child, which the hand keeps
pub record RefusesChild (old new : Hand) (parent : Option NodeId) (attribute : ℕ) : Type 0 where
  pub full : TreeFull
  pub told : new.full ≡ Some full
  pub answer : IsAnswer (plan_of old.tree.now) (parent_number parent)
      (record { attr = attribute; value = old.value.now })
      (view old.seat.now) (view new.seat.now) (Err full)

pub grows-same : (hand : Hand) → GrowsHand hand hand
grows-same hand = record {
  lent = refl;
  tree = refl;
  value = refl;
  seat = λ is. is;
  later = (refl, refl, refl, (λ i x saw. saw));
  place = 0;
  one = inl (refl, refl);
}

pub node-stays : (old new : Hand) (n : NodeId) (path : List (Opened Variant)) → GrowsHand old new
    → IsNodeFor (slots_of old.tree.now) (view old.seat.now) n path
    → IsNodeFor (slots_of new.tree.now) (view new.seat.now) n path
node-stays old new n path grows is = record {
  below = is.below;
  has_path = subst
      (λ (t : Tree). HasPath (slots_of t) (view new.seat.now) (map node_entry path) n.0)
      (sym grows.tree)
      (leads_later (slots_of old.tree.now) (view old.seat.now) (view new.seat.now) 0 0
      (map node_entry path) n.0 grows.later.3 is.has_path);
}
