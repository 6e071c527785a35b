use Rattle.std.proofs.Common.{◌≡◌, All, map, take}
use Rattle.cal_snap.specs.Numbered.{IsKnown, entry_of}
use Rattle.cal_table.proofs.numbering.AttributeNumbers.entries.Given as goal

-- the entries so far mean those so far
abbrev pub invariant-loop-entry : goal.invariant-loop-entry
invariant-loop-entry l = record {
  known : All (IsKnown l.self) l.entries.items;
  mean : map (entry_of l.self) l.entries.items ≡ take l.entry-index l.named;
}
