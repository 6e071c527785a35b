use Rattle.std.specs.Prelude.{◌≡◌, ℕ, ◌+◌, ◌<◌, Bool, Result, Ok, Err}
use Rattle.cal_words.specs.declared.node.NodeId.{NodeId}
use Rattle.cal_words.specs.declared.sort.NodeSort.{NodeSort}
use Rattle.cal_words.specs.Words.{node_words}
use Rattle.cal_once.specs.declared.answer.Put.TheVariants as put
use Rattle.cal_once.specs.declared.view.Plan.{Plan}
use Rattle.cal_once.specs.declared.view.View.{View}
use Rattle.cal_once.specs.Puts.{Answers, Ask, ask_for}
use Rattle.cal_once.specs.Views.{Learns}
use Rattle.cal_words.specs.declared.full.TreeFull.{TreeFull}
use Rattle.cal_words.specs.declared.full.TreeFull.TheVariants as full
use Rattle.cal_tree.specs.Paths.{IsChild, IsDepthOf, NodeEntry}
use Rattle.cal_tree.specs.Seats.{node_law}

-- no node is deeper (Giltmoth's rule: a slot of a blackboard holds so many values)
abbrev pub deepest : ℕ
deepest = 128

module _ (plan : Plan NodeSort) (parent depth : ℕ) (entry : NodeEntry) where
  -- what the rows are asked for: the child of a parent at this depth
  abbrev pub child_ask : Ask NodeSort
  child_ask = ask_for node_law plan (node_words parent (depth + 1) entry.attr entry.value)

  -- What an answer tells, where the parent has this depth. A node is the child, and the list of
  -- published places grew by its place, or stayed. TooDeep comes where no child may be, and only
  -- then; the other refusals as the rows give them.
  abbrev pub Gives : View NodeSort → View NodeSort → Result NodeId TreeFull → Type 0
  Gives v w (Ok node) = (depth < deepest)
      × IsChild plan.shape.slots w parent (depth + 1) entry node.0
      × ((place : ℕ) × (fresh : Bool) × (node.0 ≡ place + 1)
      × Answers child_ask v w (put.Placed place fresh))
  Gives v w (Err full.RowsFull) = (depth < deepest) × Answers child_ask v w put.RowsFull
  Gives v w (Err (full.ArenaFull used need)) =
      (depth < deepest) × Answers child_ask v w (put.ArenaFull used need)
  Gives v w (Err full.TooDeep) = (depth ≡ deepest) × Learns v w

-- the answer to a call for a child, by the depth of the parent that the seat knows
pub record IsAnswer (plan : Plan NodeSort) (parent : ℕ) (entry : NodeEntry)
    (v w : View NodeSort) (answer : Result NodeId TreeFull) : Type 0 where
  pub depth : ℕ
  pub is_depth : IsDepthOf plan.shape.slots w parent depth
  pub gives : Gives plan parent depth entry v w answer
