use Rattle.std.proofs.Common.{◌<◌, ◌^◌, sym, subst}
use Rattle.cal_board.specs.Blackboard.{board_after}
use Rattle.cal_process.specs.Operations.{IsShort, words_by}
use Rattle.cal_run.specs.Lines.{attr_ref, value_of}
use Rattle.cal_value.specs.declared.variant.Variant.{Variant}
use Rattle.cal_words.specs.Words.{text_length}
use Rattle.cal_words.specs.declared.op.OpCode.{OpCode}
use Rattle.cal_process.proofs.performing.change_of.Goals as goal

pub returns-in-Begin-clause-changes : goal.returns-in-Begin-clause-changes
returns-in-Begin-clause-changes c b = λ j. board_after b (sym c.in-Begin.is j)
    (attr_ref c.args.script.now c.args.op.attr) (c.value_at.ensures j) (c.value_at.ensures j)

pub returns-in-Begin-clause-short : goal.returns-in-Begin-clause-short
returns-in-Begin-clause-short c =
    subst (λ (v : Variant). text_length v < 2 ^ 32) (sym c.value_at.ensures)
    (subst (λ (k : OpCode). IsShort k (value_of c.args.script.now c.args.op)) c.in-Begin.is
    c.requires.may.short)

pub returns-in-Begin-clause-words : goal.returns-in-Begin-clause-words
returns-in-Begin-clause-words c = λ j. words_by (sym c.in-Begin.is j) (c.value_at.ensures j)

pub returns-in-End-clause-changes : goal.returns-in-End-clause-changes
returns-in-End-clause-changes c b =
    let v = value_of c.args.script.now c.args.op in
    λ j. board_after b (sym c.in-End.is j) (attr_ref c.args.script.now c.args.op.attr) v v

pub returns-in-End-clause-words : goal.returns-in-End-clause-words
returns-in-End-clause-words c =
    λ j. words_by (sym c.in-End.is j) (value_of c.args.script.now c.args.op)

pub returns-in-Set-clause-changes : goal.returns-in-Set-clause-changes
returns-in-Set-clause-changes c b = λ j. board_after b (sym c.in-Set.is j)
    (attr_ref c.args.script.now c.args.op.attr) (c.value_at-in-Set.ensures j)
    (c.value_at-in-Set.ensures j)

pub returns-in-Set-clause-short : goal.returns-in-Set-clause-short
returns-in-Set-clause-short c =
    subst (λ (v : Variant). text_length v < 2 ^ 32) (sym c.value_at-in-Set.ensures)
    (subst (λ (k : OpCode). IsShort k (value_of c.args.script.now c.args.op)) c.in-Set.is
    c.requires.may.short)

pub returns-in-Set-clause-words : goal.returns-in-Set-clause-words
returns-in-Set-clause-words c =
    λ j. words_by (sym c.in-Set.is j) (c.value_at-in-Set.ensures j)
