use Rattle.std.proofs.Common.{subst}
use Rattle.cal_rowset.specs.Answers.{AreWithin}
use Rattle.cal_treefmt.proofs.nodes.Nodes.new.Goals as goal

pub of_numbered-requires : goal.of_numbered-requires
of_numbered-requires c = subst AreWithin c.in-Numbered.is c.requires
