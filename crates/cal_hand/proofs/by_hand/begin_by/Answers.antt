use Rattle.cal_hand.proofs.BoardLemmas.{answers_by_table, holds_still, tells_why}
use Rattle.cal_words.specs.declared.op.OpCode.TheVariants as code
use Rattle.cal_hand.proofs.by_hand.begin_by.Goals as goal

pub returns-clause-table : goal.returns-clause-table
returns-clause-table g c =
    answers_by_table c.args.hand.now c.begin.new.maker c.begin.ensures.onward c.args.board.now
    c.begin.new.self code.Begin c.args.attr c.begin.result c.begin.ensures.steps c.begin.ensures.does

pub returns-clause-full : goal.returns-clause-full
returns-clause-full g c room plain =
    tells_why c.args.hand.now c.begin.new.maker c.begin.ensures.onward c.args.board.now c.begin.new.self
    code.Begin c.args.attr c.requires.seat c.requires.stands.0 c.requires.stands.1
    c.has_few_slots.ensures.within plain c.begin.result c.begin.ensures.accepted c.begin.ensures.err
    (c.begin.ensures.refused room)

pub returns-clause-holds : goal.returns-clause-holds
returns-clause-holds g c =
    holds_still c.args.hand.now c.begin.new.maker c.begin.ensures.onward c.args.board.now c.begin.new.self
    code.Begin c.args.attr c.begin.result c.requires.stands c.begin.ensures.steps c.begin.ensures.err
