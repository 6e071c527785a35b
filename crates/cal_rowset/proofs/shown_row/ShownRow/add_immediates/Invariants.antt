use Rattle.std.proofs.Common.{[], map, take}
use Rattle.cal_context.specs.Snapshots.{entry_of}
use Rattle.cal_rowset.specs.Rooms.{AddsEntries}
use Rattle.cal_rowset.proofs.shown_row.ShownRow.add_immediates.Given as goal

-- the entries so far are added
abbrev pub invariant-loop-imm : goal.invariant-loop-imm
invariant-loop-imm l = AddsEntries l.context l.fn.self l.self (map (entry_of l.context) (take l.imm-index l.imms)) []
