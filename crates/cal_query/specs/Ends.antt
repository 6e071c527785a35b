-- Why an input has no rows is why it isn't laid out (private).
use Rattle.cal_base.specs.declared.reading.ReadEnd as reads
use Rattle.cal_base.specs.declared.reading.ReadEnd.TheVariants as read
use Rattle.cal_read.specs.declared.end.StreamEnd as streams
use Rattle.cal_read.specs.declared.end.StreamEnd.TheVariants as stream
use Rattle.cal_query.specs.declared.end.RowsEnd as ends
use Rattle.cal_query.specs.declared.end.RowsEnd.TheVariants as end

abbrev pub rows_end : reads.ReadEnd → ends.RowsEnd
rows_end read.ReadFault = end.ReadFault
rows_end read.TooLong = end.TooLong
rows_end read.OutOfMemory = end.OutOfMemory

abbrev pub end_of_stream : streams.StreamEnd → ends.RowsEnd
end_of_stream (stream.BadLine line kind) = end.BadLine line kind
end_of_stream stream.OutOfMemory = end.OutOfMemory
