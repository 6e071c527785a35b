use Rattle.std.proofs.Common.{Some, ap, ◌∙◌}
use Rattle.cal_filter.specs.Sought.{number_of}
use Rattle.cal_parts.proofs.Seekers.{more_same}
use Rattle.cal_parts.proofs.counter.place_of.Goals as goal

pub returns-in-Some-clause-more : goal.returns-in-Some-clause-more
returns-in-Some-clause-more c = more_same c.args.seekers.now.items

pub returns-clause-place : goal.returns-clause-place
returns-clause-place c =
    c.in_ok-place.ensures.place
    ∙ ap Some (c.of_number.ensures.sought ∙ ap number_of c.in_ok-name.ensures)
