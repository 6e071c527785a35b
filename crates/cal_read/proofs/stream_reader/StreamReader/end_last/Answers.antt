use Rattle.std.proofs.Common.{sym, ap, subst}
use Rattle.std.proofs.lemmas.Result.{IfErr-weaker, on_ok_weaker}
use Rattle.cal_line.specs.Lines.{lines_of}
use Rattle.cal_read.specs.Reading.{IsRefusalOf, rows_before, rows_of_lines}
use Rattle.cal_read.specs.Standing.{TakesUpTo}
use Rattle.cal_read.proofs.ListLemmas.{none_there, some_there}
use Rattle.cal_read.proofs.ReadLemmas.{ended_none, ended_read, lines_ended, lines_none, TakesUpTo-none}
use Rattle.cal_read.proofs.stream_reader.StreamReader.end_last.Goals as goal

pub returns-then-is_empty-clause-ended : goal.returns-then-is_empty-clause-ended
returns-then-is_empty-clause-ended g c = λ bytes h.
    ended_none c.args.self.now c.args.context.now bytes h (none_there c.args.self.now.begun.items c.as_slice.result.now c.as_slice.ensures.value c.if-is_empty.ensures)

pub returns-then-is_empty-clause-taken : goal.returns-then-is_empty-clause-taken
returns-then-is_empty-clause-taken g c = λ bytes h.
    TakesUpTo-none (g.T.Taker.has_taken c.args.taker.now c.args.context.now) (g.T.Taker.has_taken c.args.taker.now c.args.context.now) (rows_before bytes) (rows_of_lines (lines_of bytes))
    (ap rows_of_lines (lines_none c.args.self.now c.args.context.now bytes h
    (none_there c.args.self.now.begun.items c.as_slice.result.now c.as_slice.ensures.value c.if-is_empty.ensures))) (λ rs k. k)

pub returns-clause-ended : goal.returns-clause-ended
returns-clause-ended g c =
    let some = some_there c.args.self.now.begun.items c.as_slice.result.now c.as_slice.ensures.value c.if-is_empty.ensures in
    on_ok_weaker c.end_begun.result (λ read bytes h. ended_read c.args.self.now c.args.context.now bytes h c.end_begun.new.self c.end_begun.new.context some (read bytes h)) c.end_begun.ensures.read

pub returns-clause-taken : goal.returns-clause-taken
returns-clause-taken g c =
    let some = some_there c.args.self.now.begun.items c.as_slice.result.now c.as_slice.ensures.value c.if-is_empty.ensures in
    on_ok_weaker c.end_begun.result (λ takes bytes h.
    subst (TakesUpTo (g.T.Taker.has_taken c.args.taker.now c.args.context.now) (g.T.Taker.has_taken c.end_begun.new.taker c.end_begun.new.context) (rows_before bytes))
    (ap rows_of_lines (sym (lines_ended c.args.self.now c.args.context.now bytes h some))) (takes bytes h)) c.end_begun.ensures.taken

pub returns-clause-fault : goal.returns-clause-fault
returns-clause-fault g c =
    let some = some_there c.args.self.now.begun.items c.as_slice.result.now c.as_slice.ensures.value c.if-is_empty.ensures in
    IfErr-weaker c.end_begun.result _ _ (λ refusal f bytes h. subst (λ ls. IsRefusalOf ls refusal) (sym (lines_ended c.args.self.now c.args.context.now bytes h some)) (f bytes h)) c.end_begun.ensures.fault
