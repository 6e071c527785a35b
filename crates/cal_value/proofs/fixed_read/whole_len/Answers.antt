use Rattle.cal_value.specs.Decimals.{is_point}
use Rattle.cal_value.proofs.Fixed.{unwrap_or-position}
use Rattle.cal_value.proofs.fixed_read.whole_len.Goals as goal

pub returns-clause-place : goal.returns-clause-place
returns-clause-place c = let at = unwrap_or-position is_point c.args.text.now in cc
