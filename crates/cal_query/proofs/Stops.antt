-- Why an input isn't laid out.
use Rattle.std.proofs.Common.{ℕ, List}
use Rattle.cal_base.specs.Change.{Change}
use Rattle.cal_base.specs.ReadEnds.{ReadsAll, StopsAt}
use Rattle.cal_base.specs.declared.reading.ReadEnd as reads
use Rattle.cal_base.specs.declared.reading.ReadEnd.TheVariants as read
use Rattle.cal_line.specs.Lines.{lines_of}
use Rattle.cal_read.specs.Reading.{IsRefusalOf}
use Rattle.cal_read.specs.declared.end.StreamEnd as streams
use Rattle.cal_read.specs.declared.end.StreamEnd.TheVariants as stream
use Rattle.cal_query.specs.Ends.{end_of_stream, rows_end}
use Rattle.cal_query.specs.Layout.{StopsRows}
use Rattle.cal_query.specs.Streaming.{FallsAt}
use Rattle.cal_query.specs.declared.end.RowsEnd as ends
use Rattle.cal_query.specs.declared.end.RowsEnd.TheVariants as end

pub stops_reading : (e : reads.ReadEnd) (limit : ℕ) (input : Change) → StopsAt e limit input
    → StopsRows (rows_end e) limit input
stops_reading read.ReadFault limit input stops = stops
stops_reading read.TooLong limit input stops = stops
stops_reading read.OutOfMemory limit input stops = stops

pub falls_as_read : (e : streams.StreamEnd) (bytes : List ℕ) → IsRefusalOf (lines_of bytes) e
    → FallsAt (end_of_stream e) bytes
falls_as_read (stream.BadLine line kind) bytes refused = refused
falls_as_read stream.OutOfMemory bytes refused = tt
