use Rattle.cal_context.specs.Tree.{value_at}
use Rattle.cal_run.proofs.AcceptedLemmas.{done-as}
use Rattle.cal_run.proofs.HeldLemmas.{ended-operated, opening-value, operated}
use Rattle.cal_words.specs.declared.op.OpCode.TheVariants as code
use Rattle.cal_run.proofs.boards.operate_accepted.Goals as goal

pub returns-in_ok-begin_accepted-in-Begin-clause-changed : goal.returns-in_ok-begin_accepted-in-Begin-clause-changed
returns-in_ok-begin_accepted-in-Begin-clause-changed c =
    operated c.args.context.now c.begin_accepted.new.maker c.args.script.now c.args.board.now
    c.begin_accepted.new.self c.args.op code.Begin
    c.attr_ref-attr.result (value_at c.args.context.now c.index-value.result.now) c.in-Begin.is
    c.attr_ref-attr.ensures
    (opening-value c.args.context.now c.args.script.now c.args.numbers.now c.requires.numbered
    c.args.op code.Begin c.in-Begin.is
    c.requires.places (λ below. below) c.index-value.result.now c.index-value.ensures)
    c.requires.places.attr c.in_ok-begin_accepted-in-Begin.ensures.steps.stands

pub returns-in_ok-_reply-in-Set-clause-changed : goal.returns-in_ok-_reply-in-Set-clause-changed
returns-in_ok-_reply-in-Set-clause-changed c =
    operated c.args.context.now c.set.new.maker c.args.script.now c.args.board.now c.set.new.self
    c.args.op code.Set
    c.attr_ref-attr.result (value_at c.args.context.now c.index-value-in-Set.result.now) c.in-Set.is
    c.attr_ref-attr.ensures
    (opening-value c.args.context.now c.args.script.now c.args.numbers.now c.requires.numbered
    c.args.op code.Set c.in-Set.is
    c.requires.places (λ below. below) c.index-value-in-Set.result.now c.index-value-in-Set.ensures)
    c.requires.places.attr c.in_ok-_reply-in-Set.ensures.steps.stands

pub returns-in-End-clause-changed : goal.returns-in-End-clause-changed
returns-in-End-clause-changed c =
    ended-operated c.args.context.now c.args.script.now c.args.board.now c.end_accepted.new.self
    c.args.op c.attr_ref-attr.result
    c.in-End.is c.attr_ref-attr.ensures c.requires.places.attr c.end_accepted.ensures

pub begin_accepted-requires-clause-accepted : goal.begin_accepted-requires-clause-accepted
begin_accepted-requires-clause-accepted c =
    done-as c.args.script.now c.args.board.now c.args.op code.Begin c.attr_ref-attr.result
    c.in-Begin.is c.attr_ref-attr.ensures c.requires.accepted

pub end_accepted-requires : goal.end_accepted-requires
end_accepted-requires c =
    done-as c.args.script.now c.args.board.now c.args.op code.End c.attr_ref-attr.result
    c.in-End.is c.attr_ref-attr.ensures c.requires.accepted
