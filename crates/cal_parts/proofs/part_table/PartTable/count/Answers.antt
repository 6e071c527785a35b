use Rattle.std.proofs.Common.{length, sym, ap, ◌∙◌}
use Rattle.cal_parts.proofs.PartTables.{length-first_chunks}
use Rattle.cal_parts.proofs.part_table.PartTable.count.Goals as goal

pub returns : goal.returns
returns c =
    let s = c.self.inside in
    sym (length-first_chunks s.width s.count s.parts) ∙ ap length c.self.view_is
