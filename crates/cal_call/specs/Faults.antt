-- What a fault is told as (ours).
use Rattle.std.specs.Prelude.{ℕ, ◌+◌, Bool, true, false, List, [], ◌++◌, Option, Some, None, codes}
use Rattle.std.specs.Prelude.{decimal}
use Rattle.cal_ql.specs.Kinds as text
use Rattle.cal_read.specs.Kinds as stream
use Rattle.cal_script.specs.Kinds as script
use Rattle.cal_journal.specs.Kinds as journal
use Rattle.cal_call.specs.declared.fault.Fault as faults
use Rattle.cal_call.specs.declared.fault.Fault.TheVariants as fault
use Rattle.cal_call.specs.declared.fault.InputKind.{InputKind}
use Rattle.cal_call.specs.declared.fault.InputKind.TheVariants.{Script, Journal, Stream}

-- the name of what is wrong with an input
abbrev pub input_kind_name : InputKind → List ℕ
input_kind_name (Script kind) = script.kind_name kind
input_kind_name (Journal kind) = journal.kind_name kind
input_kind_name (Stream kind) = stream.kind_name kind

-- what a fault is told as: a place among the words counts from 1 there
abbrev pub message_of : faults.Fault → List ℕ
message_of (fault.LinesRefused lines) = codes "refused lines: " ++ decimal lines
message_of (fault.Usage word) = codes "usage: word " ++ decimal (word + 1)
message_of (fault.BadInput line kind) =
    codes "line " ++ decimal line ++ codes ": " ++ input_kind_name kind
message_of (fault.BadQuery place kind) =
    codes "query: byte " ++ decimal place ++ codes ": " ++ text.kind_name kind
message_of fault.ReadFault = codes "read failed"
message_of fault.WriteFault = codes "write failed"
message_of fault.OutOfMemory = codes "out of memory"
message_of fault.TooLong = codes "input too long"

-- the line that tells of a fault
abbrev pub fault_line : faults.Fault → List ℕ
fault_line f = codes "caliper: " ++ message_of f ++ codes "\n"

-- what is told at the end of a call: the fault's line, or nothing
abbrev pub report_of : Option faults.Fault → List ℕ
report_of None = []
report_of (Some f) = fault_line f

-- the status of the program
abbrev pub status_of : Option faults.Fault → ℕ
status_of None = 0
status_of (Some (fault.LinesRefused lines)) = 1
status_of (Some (fault.Usage word)) = 2
status_of (Some (fault.BadInput line kind)) = 3
status_of (Some (fault.BadQuery place kind)) = 4
status_of (Some fault.ReadFault) = 5
status_of (Some fault.WriteFault) = 6
status_of (Some fault.OutOfMemory) = 7
status_of (Some fault.TooLong) = 8

-- Whether a call with this end came to write: it wrote the text whole, or the output failed.
abbrev pub writes : Option faults.Fault → Bool
writes None = true
writes (Some (fault.LinesRefused lines)) = true
writes (Some fault.WriteFault) = true
writes (Some _) = false
