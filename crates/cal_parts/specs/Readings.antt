-- What is read of a record for a kernel.
use Rattle.std.specs.Prelude.{List, map}
use Rattle.cal_ql.specs.declared.query.Agg.{Agg}
use Rattle.cal_value.specs.declared.record.Rec.{Rec}
use Rattle.cal_parts.specs.declared.reading.Reading.{Reading}
use Rattle.cal_parts.specs.Kernels.{contributing, contributions_by}
use Rattle.cal_parts.specs.Parts.{Gathered, part_over}

-- the kernel with the names whose last numbers contribute to it
abbrev pub reading_of : Agg → Reading
reading_of agg = record { kernel = agg.kernel; names = contributing agg.kernel agg.attr }

-- what is kept of one record
abbrev pub part_of : Reading → Rec → Gathered
part_of reading r =
    part_over reading.kernel (contributions_by reading.kernel reading.names r)

abbrev pub parts_of : List Reading → Rec → List Gathered
parts_of readings r = map (λ reading. part_of reading r) readings
