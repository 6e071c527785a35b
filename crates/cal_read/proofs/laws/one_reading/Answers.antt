use Rattle.std.proofs.Common.{◌≡◌}
use Rattle.std.specs.Prelude.{Result, Ok, Err}
use Rattle.cal_line.specs.FirstFault.{after_lines}
use Rattle.cal_line.proofs.FirstFaults.{falls_whole}
use Rattle.cal_line.specs.Lines.{lines_of}
use Rattle.cal_read.specs.Stream.{Stream, no_lines, line_step}
use Rattle.cal_read.specs.declared.kind.StreamKind.{StreamKind}
use Rattle.cal_read.proofs.laws.one_reading.Goals as goal

same_ok : (r : Result Stream StreamKind) (s t : Stream) → r ≡ Ok s → r ≡ Ok t → s ≡ t
same_ok r s t e f = cc

not_both : (r : Result Stream StreamKind) (s : Stream) (k : StreamKind) → r ≡ Ok s → r ≡ Err k → ⊥
not_both r s k e f = cc

pub returns-clause-one : goal.returns-clause-one
returns-clause-one c = λ bytes records others is are.
    let same = same_ok (after_lines line_step no_lines (lines_of bytes)) _ _ is.stream are.stream in
    λ j. record { rows = (same j).rows; globals = (same j).globals }

pub returns-clause-none : goal.returns-clause-none
returns-clause-none c = λ bytes records line kind is fault.
    not_both (after_lines line_step no_lines (lines_of bytes)) _ kind is.stream (falls_whole line_step no_lines (lines_of bytes) line kind fault)
