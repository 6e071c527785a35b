use Rattle.cal_words.proofs.Decoded.{equal_words}
use Rattle.cal_words.proofs.laws.equal_nodes.Goals as goal

pub returns : goal.returns
returns c = equal_words
