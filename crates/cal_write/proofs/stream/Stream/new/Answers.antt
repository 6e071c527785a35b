use Rattle.std.proofs.Common.{refl, rules}
use Rattle.cal_write.proofs.BuiltInLemmas.{begun}
use Rattle.cal_write.proofs.stream.Stream.new.Goals as goal

pub returns : goal.returns
returns c = begun _ c.in_ok-built_in_nodes.ensures (search rules) refl c.new.ensures
