-- What a line does to a board over the shared tree, and to the seat that makes its nodes.
use Rattle.std.specs.Prelude.{◌≡◌, ◌≢◌, false, Option, Some, None, Err}
use Rattle.cal_board.specs.Asking.{Does, parent_in}
use Rattle.cal_board.specs.Blackboard.{Blackboard, reply_to}
use Rattle.cal_board.specs.Standing.{Steps}
use Rattle.cal_board.specs.declared.attr.AttrRef.{AttrRef}
use Rattle.cal_board.specs.declared.reply.BoardReply as replies
use Rattle.cal_board.specs.declared.reply.BoardReply.TheVariants as reply
use Rattle.cal_hand.specs.Nodes.{AddsNode, NodeAt, parent_number}
use Rattle.cal_once.specs.Seats.{view}
use Rattle.cal_once.specs.declared.seat.RowSeat.{RowSeat}
use Rattle.cal_tree.specs.Children.{IsAnswer}
use Rattle.cal_tree.specs.Seats.{plan_of}
use Rattle.cal_tree.specs.declared.tree.Tree.{Tree}
use Rattle.cal_value.specs.declared.variant.Variant.{Variant}
use Rattle.cal_words.specs.declared.full.TreeFull.{TreeFull}
use Rattle.cal_words.specs.declared.full.TreeFull.TheVariants.{TooDeep}
use Rattle.cal_words.specs.declared.node.NodeId.{NodeId}
use Rattle.cal_words.specs.declared.op.OpCode.{OpCode}
use Rattle.cal_words.specs.declared.sort.NodeSort.{NodeSort}

module _ (tree : Tree) (was is : RowSeat NodeSort) (old new : Blackboard NodeId) (c : OpCode)
    (a : AttrRef) (v : Variant) where
  -- The table's reply and change. The seat has published at most the node that was put into the
  -- slot, and where none was put it is as it was.
  pub record ByTable (r : replies.BoardReply) : Type 0 where
    pub steps : Steps (NodeAt tree was) (NodeAt tree is) old new c a v r
    pub does : Does (AddsNode v) was is old new c a v r

  -- The table accepts the line of a reference slot, and the tree refused the child that it needs, by
  -- these numbers; not for its depth, since no slot holds so many values. Nothing changes.
  pub record TellsFull (full : TreeFull) : Type 0 where
    pub accepted : reply_to old c a ≡ reply.Done
    pub reference : a.as_value ≡ false
    pub not_deep : full ≢ TooDeep
    pub child : IsAnswer (plan_of tree) (parent_number (parent_in old c a))
        (record { attr = a.number; value = v }) (view was) (view is) (Err full)
    pub board : new ≡ old

  -- what a board with all its room answers
  abbrev pub Replies : replies.BoardReply → Type 0
  Replies reply.Done = ByTable reply.Done
  Replies (reply.Mismatch top) = ByTable (reply.Mismatch top)
  Replies reply.NotOpen = ByTable reply.NotOpen
  Replies (reply.TreeFull full) = TellsFull full
  Replies reply.TooDeep = ByTable reply.TooDeep
  Replies reply.SlotsFull = ByTable reply.SlotsFull

  -- why there is no answer of the table
  abbrev pub TellsWhy : Option TreeFull → Type 0
  TellsWhy None = ⊥
  TellsWhy (Some full) = TellsFull full
