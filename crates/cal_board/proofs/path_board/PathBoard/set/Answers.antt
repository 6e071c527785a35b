use Rattle.std.proofs.Common.{◌≡◌, sym}
use Rattle.cal_board.proofs.PathLemmas.{plain_stands, same_board}
use Rattle.cal_board.proofs.SlotLemmas.{IfOk-then}
use Rattle.cal_board.specs.Blackboard.{board_after}
use Rattle.cal_board.specs.PathBoards.{IsLastValue}
use Rattle.cal_board.specs.Standing.{Steps}
use Rattle.cal_board.specs.declared.reply.BoardReply as replies
use Rattle.cal_words.specs.declared.op.OpCode.TheVariants as code
use Rattle.cal_board.proofs.path_board.PathBoard.set.Goals as goal

pub set-requires-clause-stands : goal.set-requires-clause-stands
set-requires-clause-stands c = (c.self.inside.board, plain_stands c.self.inside.board)

pub returns-clause-after : goal.returns-clause-after
returns-clause-after c =
    let old = c.self.inside.board in
    let v = c.args.value.now in
    rw (sym c.self.view_is) (IfOk-then c.set.result
    (λ (r : replies.BoardReply) (s : Steps IsLastValue IsLastValue old c.set.new.self code.Set c.args.attr v r).
    same_board c.set.new.self (board_after old code.Set c.args.attr v v) (s.stands old (plain_stands old)))
    c.set.ensures.steps)
