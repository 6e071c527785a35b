use Rattle.std.proofs.Common.{◌≡◌, map, take}
use Rattle.cal_start.specs.Runs.{shape_for}
use Rattle.cal_start.proofs.shapes.shapes_of.Given as goal

-- those of the channels so far are made
abbrev pub invariant-loop-channel : goal.invariant-loop-channel
invariant-loop-channel l = l.shapes.items
    ≡ map (shape_for l.hashers l.context.attributes) (take l.channel-index l.script.channels)
