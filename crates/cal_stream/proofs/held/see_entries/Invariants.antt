use Rattle.std.proofs.Common.{take}
use Rattle.std.specs.List.{All}
use Rattle.cal_stream.specs.Readable.{IsHeldEntry}
use Rattle.cal_stream.proofs.held.see_entries.Given as goal

abbrev pub invariant-loop-entry : goal.invariant-loop-entry
invariant-loop-entry l = All IsHeldEntry (take l.entry-index l.entries)
