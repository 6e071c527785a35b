use Rattle.cal_plog.proofs.Reading.{is_among, is_once, is_own}
use Rattle.cal_plog.proofs.laws.own_operations.Goals as goal

pub returns-clause-among : goal.returns-clause-among
returns-clause-among c plan v place op sound h = is_among plan v sound place op h

pub returns-clause-once : goal.returns-clause-once
returns-clause-once c plan v place op sound h mine = is_once plan v sound place op h mine

pub returns-clause-alone : goal.returns-clause-alone
returns-clause-alone c plan v place op sound h some = is_own plan v sound place op h some
