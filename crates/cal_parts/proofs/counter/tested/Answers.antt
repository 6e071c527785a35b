use Rattle.std.proofs.Common.{Some, ap, ◌∙◌, arith}
use Rattle.cal_parts.proofs.Seekers.{sought_at}
use Rattle.cal_parts.proofs.counter.tested.Goals as goal

pub returns : goal.returns
returns c =
    sought_at c.args.seekers.now c.args.place c.index-seekers-place.result (omega arith) c.index-seekers-place.is
    ∙ ap Some (c.is_of_number.ensures.is c.if-not-is_of_number.false)
