-- What a fault of `files` is told as. (Giltmoth's rule.)
use Rattle.std.specs.Prelude.{ℕ, ◌+◌, Bool, true, false, List, [], ◌++◌, Option, Some, None, codes}
use Rattle.std.specs.Prelude.{decimal}
use Rattle.cal_ql.specs.Kinds as text
use Rattle.cal_read.specs.Kinds as stream
use Rattle.cal_call_files.specs.declared.fault.FilesFault as faults
use Rattle.cal_call_files.specs.declared.fault.FilesFault.TheVariants as fault

-- a file at a place, as it is told: from 1
abbrev pub file_told : ℕ → List ℕ
file_told file = codes "file " ++ decimal (file + 1) ++ codes ": "

-- what a fault is told as: a place among the words counts from 1 there too
abbrev pub message_of : faults.FilesFault → List ℕ
message_of (fault.Usage word) = codes "usage: word " ++ decimal (word + 1)
message_of (fault.BadInput file line kind) =
    file_told file ++ codes "line " ++ decimal line ++ codes ": " ++ stream.kind_name kind
message_of (fault.BadQuery place kind) =
    codes "query: byte " ++ decimal place ++ codes ": " ++ text.kind_name kind
message_of (fault.ReadFault file) = file_told file ++ codes "read failed"
message_of fault.WriteFault = codes "write failed"
message_of fault.OutOfMemory = codes "out of memory"
message_of (fault.TooLong file) = file_told file ++ codes "input too long"
message_of (fault.OpenFault file) = file_told file ++ codes "cannot open"

-- the line that tells of a fault
abbrev pub fault_line : faults.FilesFault → List ℕ
fault_line f = codes "caliper: " ++ message_of f ++ codes "\n"

-- what is told at the end of a call: the fault's line, or nothing
abbrev pub report_of : Option faults.FilesFault → List ℕ
report_of None = []
report_of (Some f) = fault_line f

-- the status of the program
abbrev pub status_of : Option faults.FilesFault → ℕ
status_of None = 0
status_of (Some (fault.Usage word)) = 2
status_of (Some (fault.BadInput file line kind)) = 3
status_of (Some (fault.BadQuery place kind)) = 4
status_of (Some (fault.ReadFault file)) = 5
status_of (Some fault.WriteFault) = 6
status_of (Some fault.OutOfMemory) = 7
status_of (Some (fault.TooLong file)) = 8
status_of (Some (fault.OpenFault file)) = 9

-- Whether a call with this end came to write: it wrote the text whole, or the output failed.
abbrev pub writes : Option faults.FilesFault → Bool
writes None = true
writes (Some fault.WriteFault) = true
writes (Some _) = false
