use Rattle.cal_write.proofs.KeptLemmas.{kept-begun}
use Rattle.cal_write.proofs.node_writer.NodeWriter.new.Goals as goal

pub returns : goal.returns
returns c = λ t. kept-begun t _ c.in_ok-new.ensures c.new-2.ensures c.new-3.ensures
