use Rattle.std.proofs.Common.{length, rules, ap}
use Rattle.cal_script.specs.Rests.{bytes_in}
use Rattle.cal_declarations.proofs.Runs.{run_on, run_falls, run_ends}
use Rattle.cal_declarations.proofs.reading.read_lines.Goals as goal

pub returns-in-Err-Bad-clause-fault : goal.returns-in-Err-Bad-clause-fault
returns-in-Err-Bad-clause-fault c =
    run_falls c.args.bytes.now c.loop-text.line c.loop-text.reader (bytes_in c.loop-text.rest) c.loop-text.invariant
    (bytes_in c.in-Some.text) (bytes_in c.in-Some.after) _ c.in-Some.ensures.lines (search rules)

pub loop-text-preserved : goal.loop-text-preserved
loop-text-preserved c =
    run_on c.args.bytes.now c.loop-text.line c.loop-text.reader (bytes_in c.loop-text.rest) c.loop-text.invariant
    (bytes_in c.in-Some.text) (bytes_in c.in-Some.after) c.read_rest.new.self c.in-Some.ensures.lines c.in-Some.ensures.shorter
    c.in-Ok.ensures.said c.in-Ok.ensures.kept c.in-Ok.ensures.fits

pub returns-clause-read : goal.returns-clause-read
returns-clause-read c =
    run_ends c.args.bytes.now c.loop-text.line c.loop-text.reader (bytes_in c.loop-text.rest) c.loop-text.invariant (ap length c.in_default.ensures.none)
