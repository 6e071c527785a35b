-- How open values stand in the shared tree: as the path of a node that a seat knows.
use Rattle.std.specs.Prelude.{◌≡◌, ◌⊎◌, ℕ, ◌+◌, ◌<◌, List, [], ◌∷◌, ◌++◌, map, Option, Some, None}
use Rattle.cal_board.specs.declared.opened.Opened.{Opened}
use Rattle.cal_once.specs.Seats.{view}
use Rattle.cal_once.specs.declared.seat.RowSeat.{RowSeat}
use Rattle.cal_once.specs.declared.view.View.{View}
use Rattle.cal_tree.specs.Paths.{HasPath, NodeEntry}
use Rattle.cal_tree.specs.Seats.{slots_of}
use Rattle.cal_tree.specs.declared.tree.Tree.{Tree}
use Rattle.cal_value.specs.declared.variant.Variant as variants
use Rattle.cal_value.specs.declared.variant.Variant.TheVariants as variant
use Rattle.cal_words.specs.Words.{node_length}
use Rattle.cal_words.specs.declared.node.NodeId.{NodeId}
use Rattle.cal_words.specs.declared.sort.NodeSort.{NodeSort}

-- an open value as an entry of a node's path
abbrev pub node_entry : Opened variants.Variant → NodeEntry
node_entry o = record { attr = o.attribute; value = o.value }

-- a node below the root whose path is these open values
pub record IsNodeFor (slots : ℕ) (v : View NodeSort) (n : NodeId)
    (path : List (Opened variants.Variant)) : Type 0 where
  pub below : 0 < n.0
  pub has_path : HasPath slots v (map node_entry path) n.0

-- what a node stands for, as a seat of a tree knows
abbrev pub NodeAt : Tree → RowSeat NodeSort → NodeId → List (Opened variants.Variant) → Type 0
NodeAt tree seat n path = IsNodeFor (slots_of tree) (view seat) n path

-- the number of a parent: no node is the root
abbrev pub parent_number : Option NodeId → ℕ
parent_number None = 0
parent_number (Some n) = n.0

-- what a seat has published more: nothing, or a record of so many words at this place
abbrev pub PublishedOne : View NodeSort → View NodeSort → (place words : ℕ) → Type 0
PublishedOne v w place words = ((w.published ≡ v.published) × (w.used ≡ v.used))
    ⊎ ((w.published ≡ v.published ++ place ∷ []) × (w.used ≡ v.used + words))

-- nothing, or a record of so many words
abbrev pub PublishedAtMost : View NodeSort → View NodeSort → ℕ → Type 0
PublishedAtMost v w words = (place : ℕ) × PublishedOne v w place words

-- a seat has published this value's node, or the node was there
abbrev pub AddsNode : variants.Variant → RowSeat NodeSort → RowSeat NodeSort → NodeId → Type 0
AddsNode value was is n = (place : ℕ) × (n.0 ≡ place + 1)
    × PublishedOne (view was) (view is) place (node_length value)

-- a value that is copied without memory
abbrev pub IsPlain : variants.Variant → Type 0
IsPlain (variant.Text t) = ⊥
IsPlain (variant.Real t) = ⊥
IsPlain (variant.Usr t) = ⊥
IsPlain (variant.Ptr t) = ⊥
IsPlain _ = Unit {0}
