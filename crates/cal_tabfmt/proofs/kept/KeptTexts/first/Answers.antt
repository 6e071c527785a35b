use Rattle.std.proofs.Common.{refl}
use Rattle.cal_tabfmt.proofs.KeptLemmas.{AreLeft-first}
use Rattle.cal_tabfmt.proofs.kept.KeptTexts.first.Goals as goal

pub returns : goal.returns
returns c = λ texts kept. AreLeft-first c.args.self.now _ texts refl refl kept
