use Rattle.cal_hand.proofs.BoardLemmas.{answers_by_table, holds_still}
use Rattle.cal_hand.proofs.RoomLemmas.{does-if}
use Rattle.cal_words.specs.declared.op.OpCode.TheVariants as code
use Rattle.cal_hand.proofs.opening.begin_with_room.Goals as goal

pub returns-clause-table : goal.returns-clause-table
returns-clause-table c =
    let old = c.args.roomy.now in
    let new = c.begin.new.maker in
    answers_by_table old.hand new.hand c.begin.ensures.onward c.args.board.now c.begin.new.self code.Begin
    c.args.attr c.begin.result c.begin.ensures.steps
    (does-if old new c.args.board.now c.begin.new.self code.Begin c.args.attr old.hand.value.now
    c.begin.result c.begin.ensures.does)

pub returns-clause-holds : goal.returns-clause-holds
returns-clause-holds c =
    holds_still c.args.roomy.now.hand c.begin.new.maker.hand c.begin.ensures.onward c.args.board.now
    c.begin.new.self code.Begin c.args.attr c.begin.result c.requires.stands c.begin.ensures.steps
    c.begin.ensures.err
