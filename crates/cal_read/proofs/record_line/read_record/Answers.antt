use Rattle.std.proofs.Common.{length, sym, ap, ◌∙◌}
use Rattle.cal_read.specs.Fields.{id_of}
use Rattle.cal_read.specs.Keys.{values_in}
use Rattle.cal_read.proofs.EachLemmas.{each-length}
use Rattle.cal_read.proofs.record_line.read_record.Goals as goal

pub fill-requires-clause-even : goal.fill-requires-clause-even
fill-requires-clause-even c =
    let it = c.in_ok-read_ids-2.ensures in
    ap length it.2 ∙ each-length id_of (values_in c.in_ok-attributes.attributes) it.0 it.1 ∙ sym c.count_of.ensures ∙ c.if-count_of.false ∙ c.count_of-2.ensures
