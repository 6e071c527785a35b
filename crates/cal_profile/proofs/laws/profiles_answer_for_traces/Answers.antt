use Rattle.cal_profile.proofs.ChannelRecords.{records_answer}
use Rattle.cal_profile.proofs.laws.profiles_answer_for_traces.Goals as goal

pub returns : goal.returns
returns c = λ attributes channel trace q is coarser.
    records_answer attributes channel trace q is coarser
