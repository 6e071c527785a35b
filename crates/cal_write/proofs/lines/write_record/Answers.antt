use Rattle.std.proofs.Common.{append_assoc, refl}
use Rattle.std.specs.Prelude.{codes}
use Rattle.cal_write.proofs.lines.write_record.Goals as goal

pub returns : goal.returns
returns c =
    rw (
      c.in_ok-put.ensures,
      c.in_ok-write_values.ensures,
      c.in_ok-write.ensures,
      c.in_ok-write_ids.ensures (codes "ref") refl,
      c.in_ok-write_sort.ensures,
    ) (simp append_assoc)
