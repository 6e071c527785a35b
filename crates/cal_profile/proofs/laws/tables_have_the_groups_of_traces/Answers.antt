use Rattle.cal_profile.proofs.TableAnswers.{rows_have_groups}
use Rattle.cal_profile.proofs.laws.tables_have_the_groups_of_traces.Goals as goal

pub returns : goal.returns
returns c = λ attributes channel trace rows is are.
    rows_have_groups attributes channel trace is rows are
