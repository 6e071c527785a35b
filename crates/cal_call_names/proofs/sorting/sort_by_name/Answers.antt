use Rattle.cal_call_names.proofs.Ordering.{sorted_in_order}
use Rattle.cal_call_names.proofs.sorting.sort_by_name.Goals as goal

pub returns-clause-sorted : goal.returns-clause-sorted
returns-clause-sorted g c =
    sorted_in_order c.args.kept.now c.par_sort.new.s c.requires c.par_sort.ensures.permutation
    c.in_ok-par_sort.ensures.sorted
