-- How a call of the program ends, and what a person is told.
use Rattle.std.specs.Prelude.{◌≡◌, ℕ, ◌≤◌, List, map, Option, None, Some, IfSome, IsNone, String}
use Rattle.std.specs.Prelude.{string_bytes}
use Rattle.std.specs.Global.{Global}
use Rattle.cal_base.specs.Change.{Change, HasFailed}
use Rattle.cal_base.specs.Told.{Appends, AppendsFront}
use Rattle.cal_call.specs.Causes.{Answers, BytesDecide}
use Rattle.cal_call.specs.Clocks.{AskedClocks}
use Rattle.cal_call.specs.Faults.{report_of, status_of}
use Rattle.cal_call.specs.Tasks.{tasked}
use Rattle.cal_call.specs.Words.{told_about}
use Rattle.cal_script.specs.declared.journal.Journal.{Journal}
use Rattle.cal_call.specs.declared.fault.Fault as faults
use Rattle.cal_call.specs.declared.fault.Fault.TheVariants.{OutOfMemory, Usage, WriteFault}
use Rattle.cal_call.specs.declared.words_end.WordsEnd as ends
use Rattle.cal_call.specs.declared.words_end.WordsEnd.TheVariants as end

-- This text was put behind what a stream has: whole, or a front of it where the stream failed.
pub record Tells (text : List ℕ) (stream : Change) : Type 0 where
  pub whole : (HasFailed stream → ⊥) → Appends stream.old stream.new text
  pub front : AppendsFront stream.old stream.new text
  pub later : stream.faults_before ≤ stream.faults_now

-- A text for people was put behind what the output has: whole, or the output failed.
abbrev pub Shows : List ℕ → Change → Option faults.Fault → Type 0
Shows text output None = Appends output.old output.new text
Shows text output (Some f) =
    (f ≡ WriteFault) × HasFailed output × AppendsFront output.old output.new text

-- What is answered where the words of a command line can't be had: those that are no text break the
-- word rule at the first. (Giltmoth's rule.)
abbrev pub fault_of : ends.WordsEnd → faults.Fault
fault_of end.NotText = Usage 0
fault_of end.OutOfMemory = OutOfMemory

-- The program ends with the status of an answer, whose line it tells: it shows the help or the
-- version where the words ask for one of these texts, and else answers them as a command.
pub record Serves {K : Type 0} (help version : List ℕ) (words : List (String Global))
    (status : ℕ) (input output errors : Change) (given : K → Option (List ℕ)) (was is : List K)
    : Type 0 where
  pub answer : Option faults.Fault
  pub journal : Journal
  pub meant : status ≡ status_of answer
  pub told : Tells (report_of answer) errors
  pub shown : IfSome (told_about help version (map string_bytes words)) (λ text.
      Shows text output answer)
  pub unasked : IfSome (told_about help version (map string_bytes words)) (λ text. is ≡ was)
  pub ran : IsNone (told_about help version (map string_bytes words))
      → Answers (tasked words) input output journal answer
  pub decided : IsNone (told_about help version (map string_bytes words))
      → BytesDecide (tasked words) input output answer
  pub asked : IsNone (told_about help version (map string_bytes words))
      → AskedClocks given (tasked words) journal answer was is
