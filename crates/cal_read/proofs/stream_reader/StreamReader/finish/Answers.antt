use Rattle.std.proofs.Common.{sym, ap, subst}
use Rattle.cal_context.specs.Snapshots.{IsIn, meaning}
use Rattle.cal_read.proofs.ReadLemmas.{has_read, ends_of}
use Rattle.cal_read.proofs.stream_reader.StreamReader.finish.Goals as goal

pub returns-clause-within : goal.returns-clause-within
returns-clause-within g c =
    let r = has_read c.args.self.now c.args.context.now c.requires c.in_default.is in
    subst (IsIn c.end_last.new.context) (sym c.replace.ensures.value) (c.in_default-end_last.ensures.ended r.0 r.1).stands.within

pub returns-clause-globals : goal.returns-clause-globals
returns-clause-globals g c = λ bytes h.
    ends_of c.end_last.new.self c.end_last.new.context bytes (meaning c.end_last.new.context c.replace.result) (c.in_default-end_last.ensures.ended bytes h)
    (ap (meaning c.end_last.new.context) c.replace.ensures.value)
