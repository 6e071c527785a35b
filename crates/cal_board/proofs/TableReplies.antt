-- The table of boards doesn't know of trees.
use Rattle.std.proofs.Common.{◌≡◌, ℕ, Bool, true, false, if◌then◌else◌, ◌==◌}
use Rattle.std.specs.Prelude.{Option, Some, None, nat_le, ◌&&◌, ◌+◌, length}
use Rattle.cal_board.specs.Blackboard.{Blackboard, IsTableReply, begin_reply, depth_at, end_reply, is_top, reply_to, room_reply, top_at}
use Rattle.cal_board.specs.declared.attr.AttrRef.{AttrRef}
use Rattle.cal_board.specs.declared.reply.BoardReply as replies
use Rattle.cal_board.specs.declared.reply.BoardReply.TheVariants.{Done, Mismatch, SlotsFull, TooDeep}
use Rattle.cal_words.specs.declared.op.OpCode as codes
use Rattle.cal_words.specs.declared.op.OpCode.TheVariants.{Begin, End, Set}

either : (t : Bool) (r s : replies.BoardReply) → IsTableReply r → IsTableReply s
    → IsTableReply (if t then r else s)
either true r s one other = one
either false r s one other = other

room_table : (slots depth : ℕ) → IsTableReply (room_reply slots depth)
room_table slots depth =
    either (depth == 0 && nat_le 64 slots) SlotsFull (if nat_le 128 depth then TooDeep else Done) tt
    (either (nat_le 128 depth) TooDeep Done tt tt)

end_table : (top : Option ℕ) (n : ℕ) → IsTableReply (end_reply top n)
end_table None n = tt
end_table (Some top) n = either (top == n) Done (Mismatch top) tt tt

pub reply_to-table : {N : Type 0} (b : Blackboard N) (c : codes.OpCode) (a : AttrRef)
    → IsTableReply (reply_to b c a)
reply_to-table b Begin a = room_table (length b.references + length b.as_values) (depth_at b a)
reply_to-table b End a = end_table (top_at b a) a.number
reply_to-table b Set a = either (is_top (top_at b a) a.number) Done (begin_reply b a) tt
    (room_table (length b.references + length b.as_values) (depth_at b a))
