use Rattle.std.proofs.Common.{◌∙◌, subst}
use Rattle.cal_gen.proofs.Read.{header_read, header_stands}
use Rattle.cal_gen.proofs.making.read_header.Goals as goal
use Rattle.cal_script.specs.Faults.{IsRefusalOf}

pub returns-in-Ok : goal.returns-in-Ok
returns-in-Ok c = header_read _ _ (c.as_bytes.ensures.value ∙ c.header.ensures) c.in-Ok.ensures.read

-- src/making.rt:46:43
pub unreachable-requires : goal.unreachable-requires
unreachable-requires c =
    (c.meaning_law.ensures.said c.as_bytes.result.now).0
    (header_stands c.as_bytes.result.now (c.as_bytes.ensures.value ∙ c.header.ensures))
    c.in-Err-BadLine.field-0-0 c.in-Err-BadLine.field-0-1
    (subst (IsRefusalOf c.as_bytes.result.now) c.in-Err-BadLine.field-0-is c.in-Err-BadLine.ensures.fault)
