-- What is done to a board of nodes, and what it does to the boards that it stands for.
use Rattle.std.specs.Prelude.{◌≡◌, ℕ, ◌^◌, ◌<◌}
use Rattle.cal_board.specs.Blackboard.{Blackboard, board_after, ended, reply_to}
use Rattle.cal_board.specs.declared.attr.AttrRef.{AttrRef}
use Rattle.cal_board.specs.declared.reply.BoardReply.{BoardReply}
use Rattle.cal_hand.specs.Boards.{ByTable}
use Rattle.cal_hand.specs.declared.change.Change as changes
use Rattle.cal_hand.specs.declared.change.Change.TheVariants as change
use Rattle.cal_once.specs.declared.seat.RowSeat.{RowSeat}
use Rattle.cal_tree.specs.declared.tree.Tree.{Tree}
use Rattle.cal_value.specs.declared.variant.Variant.{Variant}
use Rattle.cal_words.specs.Words.{node_length, text_length}
use Rattle.cal_words.specs.declared.node.NodeId.{NodeId}
use Rattle.cal_words.specs.declared.op.OpCode.TheVariants as code
use Rattle.cal_words.specs.declared.sort.NodeSort.{NodeSort}

-- the board after a change
abbrev pub changed_board : Blackboard Variant → AttrRef → changes.Change → Blackboard Variant
changed_board b a (change.Begin v) = board_after b code.Begin a v.now v.now
changed_board b a change.End = ended b a
changed_board b a (change.Set v) = board_after b code.Set a v.now v.now

-- a text has fewer than 2 ^ 32 bytes
abbrev pub HasShortText : changes.Change → Type 0
HasShortText (change.Begin v) = text_length v.now < 2 ^ 32
HasShortText change.End = Unit {0}
HasShortText (change.Set v) = text_length v.now < 2 ^ 32

-- the words of the node that a change may make
abbrev pub words_at_most : changes.Change → ℕ
words_at_most (change.Begin v) = node_length v.now
words_at_most change.End = 0
words_at_most (change.Set v) = node_length v.now

-- What a change does, by its kind: it goes by the table, and an `end` leaves the seat.
abbrev pub Operates : Tree → RowSeat NodeSort → RowSeat NodeSort → Blackboard NodeId
    → Blackboard NodeId → AttrRef → changes.Change → BoardReply → Type 0
Operates tree was is old new a (change.Begin v) r = ByTable tree was is old new code.Begin a v.now r
Operates tree was is old new a change.End r =
    (r ≡ reply_to old code.End a) × (new ≡ ended old a) × (is ≡ was)
Operates tree was is old new a (change.Set v) r = ByTable tree was is old new code.Set a v.now r
