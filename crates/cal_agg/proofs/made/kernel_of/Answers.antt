use Rattle.std.proofs.Common.{rules, arith}
use Rattle.cal_agg.proofs.Lists.{room_next}
use Rattle.cal_agg.proofs.made.kernel_of.Goals as goal

pub add-requires-clause-room : goal.add-requires-clause-room
add-requires-clause-room g c =
    room_next g.K.Kernel.over g.K.Kernel.merged g.met.K.Kernel.concatenation g.K.Kernel.takes
    g.K.Kernel.has_room g.met.K.Kernel.room c.args.numbers.now _ _ _ c.loop-n.invariant
    (omega arith) (search rules) c.requires.taken c.requires.room
