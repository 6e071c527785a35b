use Rattle.cal_once.specs.Views.{joined, new_seat}
use Rattle.cal_once.proofs.Seen.{Saw_left, Saw_right}
use Rattle.cal_names.proofs.Reading.{kept_later}
use Rattle.cal_names.proofs.laws.kept_for_good.Goals as goal

pub returns-clause-later : goal.returns-clause-later
returns-clause-later c plan v w d place more kept = kept_later plan v w d place more kept

pub returns-clause-new : goal.returns-clause-new
returns-clause-new c plan v d place kept = kept_later plan v (new_seat v) d place (λ i x saw. saw) kept

pub returns-clause-first : goal.returns-clause-first
returns-clause-first c plan v w d place kept = kept_later plan v (joined v w) d place (λ i x saw. Saw_left v.seen w.seen i x saw) kept

pub returns-clause-other : goal.returns-clause-other
returns-clause-other c plan v w d place kept = kept_later plan w (joined v w) d place (λ i x saw. Saw_right v.seen w.seen i x saw) kept
