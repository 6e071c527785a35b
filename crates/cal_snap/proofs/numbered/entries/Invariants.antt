use Rattle.std.proofs.Common.{◌≡◌, map, take}
use Rattle.cal_snap.specs.Numbered.{entry_of}
use Rattle.cal_snap.proofs.numbered.entries.Given as goal

-- the entries so far are those of the numbered ones so far
abbrev pub invariant-loop-entry : goal.invariant-loop-entry
invariant-loop-entry l = l.named.items ≡ map (entry_of l.attrs) (take l.entry-index l.numbered)
