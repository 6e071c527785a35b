use Rattle.std.proofs.Common.{◌≡◌, map, take}
use Rattle.cal_events.specs.Worlds.{nothing_held}
use Rattle.cal_script.specs.declared.script.Channel.{Channel}
use Rattle.cal_steps.proofs.thread.none_held.Given as goal

-- one for each channel so far
abbrev pub invariant-loop-channel : goal.invariant-loop-channel
invariant-loop-channel l = l.held.items
    ≡ map (λ (c : Channel). nothing_held l.start) (take l._channel-index l.script.channels)
