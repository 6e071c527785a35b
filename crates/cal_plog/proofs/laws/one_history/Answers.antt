use Rattle.std.proofs.Common.{slice_index_or}
use Rattle.cal_plog.proofs.Reading.{one_op}
use Rattle.cal_plog.proofs.laws.one_history.Goals as goal

pub returns : goal.returns
returns c plan v a b sound seen_a seen_b k d in_a in_b = one_op plan v sound k (slice_index_or a k d) (slice_index_or b k d) (seen_a k d in_a) (seen_b k d in_b)
