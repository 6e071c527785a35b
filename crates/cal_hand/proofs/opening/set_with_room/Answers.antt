use Rattle.cal_hand.proofs.BoardLemmas.{answers_by_table, holds_still}
use Rattle.cal_hand.proofs.RoomLemmas.{does-if}
use Rattle.cal_words.specs.declared.op.OpCode.TheVariants as code
use Rattle.cal_hand.proofs.opening.set_with_room.Goals as goal

pub returns-clause-table : goal.returns-clause-table
returns-clause-table c =
    let old = c.args.roomy.now in
    let new = c.set.new.maker in
    answers_by_table old.hand new.hand c.set.ensures.onward c.args.board.now c.set.new.self code.Set
    c.args.attr c.set.result c.set.ensures.steps
    (does-if old new c.args.board.now c.set.new.self code.Set c.args.attr old.hand.value.now
    c.set.result c.set.ensures.does)

pub returns-clause-holds : goal.returns-clause-holds
returns-clause-holds c =
    holds_still c.args.roomy.now.hand c.set.new.maker.hand c.set.ensures.onward c.args.board.now
    c.set.new.self code.Set c.args.attr c.set.result c.requires.stands c.set.ensures.steps
    c.set.ensures.err
