use Rattle.std.proofs.Common.{◌≡◌, take}
use Rattle.cal_keeping.specs.Kept.{new_for}
use Rattle.cal_keeping.proofs.channels.new_channels.Given as goal

-- those before this place are made
abbrev pub invariant-loop-place : goal.invariant-loop-place
invariant-loop-place l = l.made.items ≡ take l.place (new_for l.channels l.shapes)
