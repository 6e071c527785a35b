use Rattle.std.proofs.Common.{subst}
use Rattle.cal_rowset.specs.Answers.{AreWithin}
use Rattle.cal_tabfmt.proofs.lines.all_lines.Goals as goal

pub snapshot_lines-requires : goal.snapshot_lines-requires
snapshot_lines-requires c = subst AreWithin c.in-Numbered.is c.requires
