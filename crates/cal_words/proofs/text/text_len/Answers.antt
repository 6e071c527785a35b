use Rattle.std.proofs.Common.{arith}
use Rattle.cal_words.proofs.Bytes.{length-text_words}
use Rattle.cal_words.proofs.text.text_len.Goals as goal

pub returns-clause-length : goal.returns-clause-length
returns-clause-length c = omega (arith, length-text_words c.args.text.now)
