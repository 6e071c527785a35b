use Rattle.std.proofs.Common.{refl}
use Rattle.cal_read.specs.Lines.{bytes_in}
use Rattle.cal_read.specs.Standing.{TakesLine}
use Rattle.cal_read.proofs.ReadLemmas.{read_ended, takes_ended, fault_ended}
use Rattle.cal_read.proofs.StepLemmas.{bad_refusal}
use Rattle.cal_read.proofs.stream_reader.StreamReader.read_line.Goals as goal

pub returns-in-Err-Bad-clause-fault : goal.returns-in-Err-Bad-clause-fault
returns-in-Err-Bad-clause-fault g c = λ bytes h.
    fault_ended c.args.self.now c.args.context.now bytes h c.requires.none (bytes_in c.args.line) c.requires.line c.in-Err-Bad.kind
    (bad_refusal {A = Unit {0}} (λ _. TakesLine c.read_line.new.context c.read_line.new.self (g.T.Taker.has_taken c.args.taker.now c.args.context.now)
    (g.T.Taker.has_taken c.read_line.new.taker c.read_line.new.context) h.stream) c.in-Err-Bad.field-0 c.in-Err-Bad.kind _ c.in-Err-Bad.field-0-is (c.in-Err-Bad.ensures.read h.stream h.stands))

pub returns-clause-read : goal.returns-clause-read
returns-clause-read g c = λ bytes h.
    let it = c.in-Ok.ensures.read h.stream h.stands in
    read_ended c.args.self.now c.args.context.now bytes h c.requires.none (bytes_in c.args.line) c.requires.line c.read_line.new.context _ it.0 it.1 it.2.stands refl refl refl

pub returns-clause-taken : goal.returns-clause-taken
returns-clause-taken g c = λ bytes h.
    let it = c.in-Ok.ensures.read h.stream h.stands in
    takes_ended c.args.self.now c.args.context.now bytes h c.requires.none (bytes_in c.args.line) c.requires.line
    (g.T.Taker.has_taken c.args.taker.now c.args.context.now) (g.T.Taker.has_taken c.read_line.new.taker c.read_line.new.context) it.0 it.1 it.2.taken
