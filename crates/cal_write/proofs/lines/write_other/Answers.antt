use Rattle.cal_write.proofs.EscapeLemmas.{plain-value}
use Rattle.cal_write.proofs.lines.write_other.Goals as goal

pub returns-in_default : goal.returns-in_default
returns-in_default c =
    let d = c.in_default in
    rw (plain-value c.args.value.now d.not-Text d.not-Real d.not-Usr d.not-Ptr) c.write_printed.ensures
