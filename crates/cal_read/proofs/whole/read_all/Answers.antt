use Rattle.std.proofs.Common.{[], subst}
use Rattle.cal_line.specs.Lines.{lines_of}
use Rattle.cal_read.specs.Owned.{AppendsRows}
use Rattle.cal_read.specs.Reading.{IsRefusalOf, rows_before}
use Rattle.cal_read.proofs.ReadLemmas.{refusal_whole}
use Rattle.cal_read.proofs.WholeLemmas.{end_passes, whole}
use Rattle.cal_read.proofs.whole.read_all.Goals as goal

pub returns-in_err-feed-clause-fault : goal.returns-in_err-feed-clause-fault
returns-in_err-feed-clause-fault c =
    end_passes (IsRefusalOf (lines_of c.args.bytes.now)) c.in_err-feed.field-0.0 _ c.from_residual.ensures
    (refusal_whole c.args.bytes.now c.in_err-feed.field-0.0 (c.in_err-feed.ensures.fault [] c.requires.read))

pub returns-in_err-globals-clause-fault : goal.returns-in_err-globals-clause-fault
returns-in_err-globals-clause-fault c =
    end_passes (IsRefusalOf (lines_of c.args.bytes.now)) c.in_err-globals.field-0.0 _ c.from_residual-in_err-globals.ensures
    (c.in_err-globals.ensures.fault c.args.bytes.now (c.in_ok-feed.ensures.read [] c.requires.read))

pub returns-clause-read : goal.returns-clause-read
returns-clause-read c =
    let read = c.in_ok-feed.ensures.read [] c.requires.read in
    whole c.args.bytes.now c.feed.new.out c.finish.new.out c.in_ok-globals.globals
    (subst (λ o. AppendsRows o c.feed.new.out [] (rows_before c.args.bytes.now)) c.new-rows.ensures (c.in_ok-feed.ensures.rows [] c.requires.read))
    (c.in_ok-globals.ensures.rows c.args.bytes.now read) (c.in_ok-globals.ensures.globals c.args.bytes.now read)
