-- What is known of an operation that a board accepts.
use Rattle.std.proofs.Common.{◌≡◌, true, refl, sym, ◌∙◌}
use Rattle.std.specs.Prelude.{Some}
use Rattle.cal_board.specs.Blackboard.{Blackboard, reply_to}
use Rattle.cal_board.specs.declared.attr.AttrRef.{AttrRef}
use Rattle.cal_board.specs.declared.reply.BoardReply.{BoardReply}
use Rattle.cal_board.specs.declared.reply.BoardReply.TheVariants as board
use Rattle.cal_run.specs.Adding.{MayAccept}
use Rattle.cal_run.specs.Held.{Accepts}
use Rattle.cal_run.specs.Lines.{attr_ref, operation_of}
use Rattle.cal_run.specs.Steps.{as_reply, is_accepted, reply_to_line}
use Rattle.cal_run.specs.declared.operation.Operation.{Operation}
use Rattle.cal_script.specs.declared.script.Line.{Line}
use Rattle.cal_script.specs.declared.script.Line.TheVariants as line
use Rattle.cal_script.specs.declared.script.Script.{Script}
use Rattle.cal_words.specs.declared.op.OpCode as codes
use Rattle.cal_words.specs.declared.op.OpCode.TheVariants as code

-- by what its code and its attribute are
pub done-as : {V : Type 0} (script : Script) (b : Blackboard V) (op : Operation)
    (c : codes.OpCode) (a : AttrRef) → op.code ≡ c → a ≡ attr_ref script op.attr
    → Accepts script b op → reply_to b c a ≡ board.Done
done-as script b op c a ec ea accepted = (λ j. reply_to b (sym ec j) (ea j)) ∙ accepted

done : (r : BoardReply) → is_accepted (Some (as_reply r)) ≡ true → r ≡ board.Done
done board.Done is = refl
done (board.Mismatch top) is = cc
done board.NotOpen is = cc
done (board.TreeFull full) is = cc
done board.TooDeep is = cc
done board.SlotsFull is = cc

-- that of an accepted line
pub accepted-line : {V : Type 0} (script : Script) (b : Blackboard V) (l : Line)
    → is_accepted (reply_to_line script b l) ≡ true → MayAccept script b (operation_of l)
accepted-line script b (line.Begin a v) is = done (reply_to b code.Begin (attr_ref script a)) is
accepted-line script b (line.End a) is = done (reply_to b code.End (attr_ref script a)) is
accepted-line script b (line.Set a v) is = done (reply_to b code.Set (attr_ref script a)) is
accepted-line script b line.Snapshot is = tt
accepted-line script b (line.Flush c) is = tt
accepted-line script b (line.Tick n) is = tt
