-- Nodes of a seat as those that a board keeps.
use Rattle.std.proofs.Common.{◌≡◌, ◌⊎◌, ℕ, ◌+◌, ◌<◌, List, [], ◌∷◌, ◌++◌, map, refl, inl, inr, sym, ap, subst, arith}
use Rattle.std.specs.Prelude.{Option, Some, None, Ok, true, false, Bool}
use Rattle.std.proofs.lemmas.List.{map-append}
use Rattle.cal_board.proofs.StandingLemmas.{Stands-grows}
use Rattle.cal_board.specs.Blackboard.{Blackboard, opened_more}
use Rattle.cal_board.specs.Standing.{IsParent, Stands}
use Rattle.cal_board.specs.declared.opened.Opened.{Opened}
use Rattle.cal_hand.specs.Nodes.{IsNodeFor, PublishedOne, node_entry, parent_number}
use Rattle.cal_once.specs.Puts.{Answers}
use Rattle.cal_once.specs.Views.{KnowsMore}
use Rattle.cal_once.specs.declared.answer.Put.TheVariants.{Placed}
use Rattle.cal_once.specs.declared.view.Plan.{Plan}
use Rattle.cal_once.specs.declared.view.View.{View}
use Rattle.cal_tree.proofs.Ways.{leads_later}
use Rattle.cal_tree.specs.Children.{IsAnswer, child_ask}
use Rattle.cal_tree.specs.Paths.{HasPath, NodeEntry}
use Rattle.cal_value.specs.declared.variant.Variant.{Variant}
use Rattle.cal_words.specs.Words.{node_length}
use Rattle.cal_words.specs.declared.node.NodeId.{NodeId}
use Rattle.cal_words.specs.declared.sort.NodeSort.{NodeSort}

-- a parent's values are the path of its number
pub parent_path : (slots : ℕ) (v : View NodeSort) (parent : Option NodeId)
    (path : List (Opened Variant)) → IsParent (IsNodeFor slots v) parent path
    → HasPath slots v (map node_entry path) (parent_number parent)
parent_path slots v None path is =
    subst (λ (p : List (Opened Variant)). HasPath slots v (map node_entry p) 0) (sym is) refl
parent_path slots v (Some n) path is = is.has_path

module _ (plan : Plan NodeSort) (parent : ℕ) (entry : NodeEntry) (v w : View NodeSort)
    (node : NodeId) (answer : IsAnswer plan parent entry v w (Ok node)) where
  -- the node was published, or was there
  pub adds_node : (place : ℕ) × (node.0 ≡ place + 1)
      × PublishedOne v w place (node_length entry.value)
  adds_node = let g = answer.gives.2 in (g.0, g.2, by g.0 g.1 g.3)
    where
      by : (place : ℕ) (fresh : Bool)
          → Answers (child_ask plan parent answer.depth entry) v w (Placed place fresh)
          → PublishedOne v w place (node_length entry.value)
      by place true a = inr (
        ap (λ (x : View NodeSort). x.published) a.1.same,
        ap (λ (x : View NodeSort). x.used) a.1.same,
      )
      by place false a = inl (
        ap (λ (x : View NodeSort). x.published) a.1.same,
        ap (λ (x : View NodeSort). x.used) a.1.same,
      )

  pub below_root : 0 < node.0
  below_root = let c = answer.gives.1 in let e = c.node_is in omega arith

-- a node is made below the parent's values
pub made_below : (slots : ℕ) (w : View NodeSort) (path : List (Opened Variant))
    (parent node : ℕ) (a : ℕ) (x : Variant)
    → ((p : List NodeEntry) → HasPath slots w p parent
    → HasPath slots w (p ++ record { attr = a; value = x } ∷ []) node)
    → HasPath slots w (map node_entry path) parent
    → HasPath slots w (map node_entry (opened_more a x path)) node
made_below slots w path parent node a x makes at =
    subst (λ (p : List NodeEntry). HasPath slots w p node)
    (sym (map-append node_entry path (record { attribute = a; value = x } ∷ [])))
    (makes (map node_entry path) at)

-- a board stands for what it stood for, as a seat that has learned more knows
pub board_later : (slots : ℕ) (v w : View NodeSort) (held : Blackboard NodeId)
    (b : Blackboard Variant) → KnowsMore v w → Stands (IsNodeFor slots v) held b
    → Stands (IsNodeFor slots w) held b
board_later slots v w held b more is =
    Stands-grows (IsNodeFor slots v) (IsNodeFor slots w)
    (λ (n : NodeId) (path : List (Opened Variant)) (at : IsNodeFor slots v n path). record {
      below = at.below;
      has_path = leads_later slots v w 0 0 (map node_entry path) n.0 more at.has_path;
    }) held b is
