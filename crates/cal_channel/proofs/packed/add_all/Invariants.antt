use Rattle.std.proofs.Common.{◌≡◌, ◌++◌, map, take}
use Rattle.cal_channel.specs.Packed.{all_unpacked}
use Rattle.cal_channel.specs.Shown.{immediate_shown}
use Rattle.cal_channel.proofs.packed.add_all.Given as goal

-- what the entries so far mean has been added
abbrev pub invariant-loop-entry : goal.invariant-loop-entry
invariant-loop-entry l = l.imms.items ≡ l.fn.imms.items ++ map (immediate_shown l.script.values)
    (all_unpacked l.kept (take l.entry-index l.entries))
