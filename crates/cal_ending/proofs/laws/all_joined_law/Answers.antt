use Rattle.cal_ending.proofs.JoinLemmas.{log-joined, tree-joined}
use Rattle.cal_ending.proofs.laws.all_joined_law.Goals as goal

pub returns : goal.returns
returns c common tree log ts hired order all =
    (tree-joined common tree log ts hired order all, log-joined common tree log ts hired order all)
