use Rattle.std.proofs.Common.{◌-◌, ◌+◌, vec_len}
use Rattle.cal_read.proofs.lately.Lately.note.Given as goal

abbrev pub decreases-loop-self : goal.decreases-loop-self
decreases-loop-self l = l.place + 1 - vec_len l.self.known
