use Rattle.std.proofs.Common.{◌∷◌, [], ◌++◌, subst}
use Rattle.std.proofs.lemmas.Result.{IfErr-weaker, on_ok_weaker}
use Rattle.cal_read.specs.Cuts.{ended_lines}
use Rattle.cal_read.specs.Lines.{bytes_in}
use Rattle.cal_read.specs.Reading.{HasRead, IsRefusalOf, rows_before}
use Rattle.cal_read.specs.Standing.{TakesUpTo}
use Rattle.cal_read.proofs.ListLemmas.{none_there}
use Rattle.cal_read.proofs.ReadLemmas.{rows_begun}
use Rattle.cal_read.proofs.stream_reader.StreamReader.end_line.Goals as goal

pub read_line-requires-clause-none : goal.read_line-requires-clause-none
read_line-requires-clause-none g c = none_there c.args.self.now.begun.items c.as_slice.result.now c.as_slice.ensures.value c.if-is_empty.ensures

pub begin-requires : goal.begin-requires
begin-requires g c = rw c.bytes.ensures c.requires.part

pub end_begun-requires : goal.end_begun-requires
end_begun-requires g c = (c.requires.read.0 ++ c.bytes.result.now, c.in_ok-begin.ensures.read c.args.context.now c.requires.read.0 c.requires.read.1)

pub returns-clause-read : goal.returns-clause-read
returns-clause-read g c =
    on_ok_weaker c.end_begun.result (λ read bytes h. subst (λ part. HasRead c.end_begun.new.self c.end_begun.new.context ((bytes ++ part) ++ 10 ∷ [])) c.bytes.ensures
    (read (bytes ++ c.bytes.result.now) (c.in_ok-begin.ensures.read c.args.context.now bytes h))) c.end_begun.ensures.read

pub returns-clause-taken : goal.returns-clause-taken
returns-clause-taken g c =
    let had = g.T.Taker.has_taken c.args.taker.now c.args.context.now in
    let has = g.T.Taker.has_taken c.end_begun.new.taker c.end_begun.new.context in
    on_ok_weaker c.end_begun.result (λ takes bytes h.
    subst (λ rs. TakesUpTo had has rs (rows_before ((bytes ++ bytes_in c.args.part) ++ 10 ∷ [])))
    (rows_begun c.args.self.now c.args.context.now bytes h (bytes_in c.args.part) c.requires.part)
    (subst (λ part. TakesUpTo had has (rows_before (bytes ++ part)) (rows_before ((bytes ++ part) ++ 10 ∷ []))) c.bytes.ensures
    (takes (bytes ++ c.bytes.result.now) (c.in_ok-begin.ensures.read c.args.context.now bytes h)))) c.end_begun.ensures.taken

pub returns-clause-fault : goal.returns-clause-fault
returns-clause-fault g c =
    IfErr-weaker c.end_begun.result _ _ (λ refusal f bytes h.
    subst (λ part. IsRefusalOf (ended_lines ((bytes ++ part) ++ 10 ∷ [])) refusal) c.bytes.ensures
    (f (bytes ++ c.bytes.result.now) (c.in_ok-begin.ensures.read c.args.context.now bytes h))) c.end_begun.ensures.fault
