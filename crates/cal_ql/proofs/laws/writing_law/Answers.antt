use Rattle.cal_ql.proofs.Sayings.{means_said}
use Rattle.cal_ql.proofs.WholeText.{query_text_means}
use Rattle.cal_ql.proofs.laws.writing_law.Goals as goal

pub returns : goal.returns
returns c = record { written = query_text_means; said = means_said }
