use Rattle.std.specs.Prelude.{ℕ, List, take, Option}
use Rattle.std.specs.Io.KnownBytes.{Appends}
use Rattle.cal_base.specs.declared.std_source.StdSource.{StdSource}
use Rattle.cal_base.specs.declared.std_clock.StdClock.{StdClock}
use Rattle.cal_base.specs.declared.std_sink.StdSink.{StdSink}

-- the reader of std that a source reads
abbrev pub reader_of : {R : Type 0} → StdSource R → R
reader_of source = source.reader

-- the count of a source's faults
abbrev pub faults_read : {R : Type 0} → StdSource R → ℕ
faults_read source = source.faults

-- the writer of std that a sink writes
abbrev pub writer_of : {W : Type 0} → StdSink W → W
writer_of sink = sink.writer

-- the count of a sink's faults
abbrev pub faults_written : {W : Type 0} → StdSink W → ℕ
faults_written sink = sink.faults

-- what a writer of std tells of its bytes grew by some front of these
abbrev pub GrowsByFront : Option (List ℕ) → Option (List ℕ) → List ℕ → Type 0
GrowsByFront old new bytes = (count : ℕ) × Appends old new (take count bytes)

-- the clock of std that a clock asks
abbrev pub clock_of : {C : Type 0} → StdClock C → C
clock_of clock = clock.clock
