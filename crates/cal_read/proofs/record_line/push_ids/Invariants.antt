use Rattle.std.proofs.Common.{◌≡◌, Ok, take}
use Rattle.cal_read.specs.Fields.{each, id_of}
use Rattle.cal_read.proofs.record_line.push_ids.Given as goal

abbrev pub invariant-loop-place : goal.invariant-loop-place
invariant-loop-place l = each id_of (take l.place l.field.values) ≡ Ok l.ids.items
