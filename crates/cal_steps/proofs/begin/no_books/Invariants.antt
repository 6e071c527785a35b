use Rattle.std.proofs.Common.{◌≡◌, [], List, map, take}
use Rattle.cal_events.specs.Worlds.{Part}
use Rattle.cal_script.specs.declared.script.Channel.{Channel}
use Rattle.cal_steps.proofs.begin.no_books.Given as goal

-- one for each channel so far
abbrev pub invariant-loop-channel : goal.invariant-loop-channel
invariant-loop-channel l = l.books.items
    ≡ map {B = List Part} (λ (c : Channel). []) (take l._channel-index l.script.channels)
