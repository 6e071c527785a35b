use Rattle.cal_spelling.proofs.Whole.{canonical_exactly}
use Rattle.cal_spelling.proofs.laws.canonical_text_law.Goals as goal

pub returns : goal.returns
returns c = canonical_exactly
