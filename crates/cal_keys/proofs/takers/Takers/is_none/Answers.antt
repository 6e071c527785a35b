use Rattle.cal_keys.proofs.TakerLemmas.{nothing_placed}
use Rattle.cal_keys.proofs.takers.Takers.is_none.Goals as goal

pub returns-then-is_none : goal.returns-then-is_none
returns-then-is_none c = λ names t is h. nothing_placed names c.args.self.now.places (c.is_empty.ensures.0 is) h.places.placed
