use Rattle.std.proofs.Common.{◌≡◌, ◌++◌, drop, map, take}
use Rattle.cal_channel.specs.Values.{ChannelValue, started_at}
use Rattle.cal_keeping.proofs.channels.start_all.Given as goal

-- those before this one have the reading
abbrev pub invariant-loop-channel : goal.invariant-loop-channel
invariant-loop-channel l =
    l.channels ≡ map (λ (c : ChannelValue). started_at c l.reading)
    (take l.channel-index l.fn.channels) ++ drop l.channel-index l.fn.channels
