use Rattle.std.proofs.Common.{[], refl}
use Rattle.cal_read.proofs.ReadLemmas.{read_nothing}
use Rattle.cal_read.proofs.stream_reader.StreamReader.new.Goals as goal

pub returns-clause-read : goal.returns-clause-read
returns-clause-read c = read_nothing _ c.new-2.new.context refl c.new-3.ensures.items refl c.in_ok-new.ensures.begun

pub returns-clause-ready : goal.returns-clause-ready
returns-clause-ready c = ([], read_nothing _ c.new-2.new.context refl c.new-3.ensures.items refl c.in_ok-new.ensures.begun)
