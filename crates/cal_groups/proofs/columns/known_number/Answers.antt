use Rattle.std.proofs.Common.{sym}
use Rattle.cal_filter.proofs.OperandLemmas.{sought_small}
use Rattle.cal_filter.specs.Known.{sought}
use Rattle.cal_groups.proofs.columns.known_number.Goals as goal
use Rattle.cal_groups.specs.Appended.{record_of}

pub small_number-requires : goal.small_number-requires
small_number-requires c =
    sought_small (sought c.args.seeker.now)
    (record_of c.args.context.now c.args.nodes.now c.args.imms.now) c.requires.small _
    (sym (c.in-Some.ensures c.requires.knows))
