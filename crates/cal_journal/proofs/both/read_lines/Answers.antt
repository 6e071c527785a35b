use Rattle.std.proofs.Common.{rules}
use Rattle.cal_script.specs.Rests.{bytes_in}
use Rattle.cal_journal.proofs.JournalRuns.{front_on, front_falls, front_ends}
use Rattle.cal_journal.proofs.both.read_lines.Goals as goal

pub returns-in-Err-Bad-clause-fault : goal.returns-in-Err-Bad-clause-fault
returns-in-Err-Bad-clause-fault c =
    front_falls c.args.bytes.now c.loop-text.line c.loop-text.reader (bytes_in c.loop-text.rest) c.loop-text.invariant
    (bytes_in c.in-Some.text) (bytes_in c.in-Some.after) _ c.in-Some.ensures.lines c.in-Some.ensures.script (search rules)

pub loop-text-preserved : goal.loop-text-preserved
loop-text-preserved c =
    front_on c.args.bytes.now c.loop-text.line c.loop-text.reader (bytes_in c.loop-text.rest) c.loop-text.invariant
    (bytes_in c.in-Some.text) (bytes_in c.in-Some.after) c.read_rest.new.self c.in-Some.ensures.lines c.in-Some.ensures.shorter c.in-Some.ensures.script
    c.in-Ok.ensures.said c.in-Ok.ensures.kept c.in-Ok.ensures.fits

pub returns-clause-front : goal.returns-clause-front
returns-clause-front c =
    front_ends c.args.bytes.now c.loop-text.line c.loop-text.reader (bytes_in c.loop-text.rest) c.loop-text.invariant c.in_default.ensures.none
