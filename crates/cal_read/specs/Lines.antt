-- Bytes that may be known to be a text (private).
use Rattle.std.specs.Prelude.{ℕ, List, Option, None, Some}
use Rattle.cal_read.specs.declared.line.Line as lines
use Rattle.cal_read.specs.declared.line.Line.TheVariants as line

abbrev pub bytes_in : lines.Line → List ℕ
bytes_in (line.Bytes bytes) = bytes.now
bytes_in (line.Text text) = text.now

-- what stands behind the first line, or all where none has ended
abbrev pub rest_in : lines.Line → Option lines.Line → List ℕ
rest_in all None = bytes_in all
rest_in all (Some rest) = bytes_in rest
