-- What `names` answers, and why, by what it did to the input and the output that it was lent.
use Rattle.std.specs.Prelude.{◌≡◌, ℕ, ◌<◌, List, Option, None, Some, Result, Ok, Err}
use Rattle.cal_base.specs.Change.{Change, HasFailed}
use Rattle.cal_base.specs.ReadEnds.{StopsAt}
use Rattle.cal_base.specs.Told.{Appends, AppendsFront}
use Rattle.cal_base.specs.declared.reading.ReadEnd.TheVariants as end
use Rattle.cal_call.specs.Causes.{ReadsInput, input_limit}
use Rattle.cal_call.specs.declared.fault.Fault as faults
use Rattle.cal_call.specs.declared.fault.Fault.TheVariants as fault
use Rattle.cal_call.specs.declared.fault.InputKind as kinds
use Rattle.cal_call.specs.declared.fault.InputKind.TheVariants as kind
use Rattle.cal_declarations.specs.Reading.{HasFault, Means}
use Rattle.cal_naming.specs.declared.reply.NameReply.{NameReply}
use Rattle.cal_value.specs.declared.attribute.Attribute.{Attribute}
use Rattle.cal_call_names.specs.Listing.{IsListed, refused_lines}

-- the first fault of the bytes is at this line, of this kind
abbrev pub IsFaultOf : List ℕ → ℕ → kinds.InputKind → Type 0
IsFaultOf bytes line (kind.Script k) = HasFault bytes line k
IsFaultOf bytes line _ = ⊥

-- the bytes mean declarations by threads, which come to these replies and this text
abbrev pub Makes : List ℕ → (text : List ℕ) → List (List NameReply) → Type 0
Makes bytes text replies =
    (threads : List (List Attribute)) × Means bytes threads × IsListed threads replies text

-- The input was read to its end, within the limit, and the text of its declarations was put behind
-- what the output has.
abbrev pub Writes : Change → Change → List (List NameReply) → Type 0
Writes input output replies = ReadsInput input (λ bytes. (text : List ℕ)
    × Makes bytes text replies × Appends output.old output.new text)

-- some front of it was
abbrev pub WritesFront : Change → Change → List (List NameReply) → Type 0
WritesFront input output replies = ReadsInput input (λ bytes. (text : List ℕ)
    × Makes bytes text replies × AppendsFront output.old output.new text)

-- Which fault has which cause, where the words keep the word rule. Where declarations were refused,
-- the text was written whole. Of want of memory it says only that no more than the limit was read.
abbrev pub Causes : Change → Change → List (List NameReply) → faults.Fault → Type 0
Causes input output replies (fault.LinesRefused lines) =
    Writes input output replies × (lines ≡ refused_lines replies) × (0 < lines)
Causes input output replies (fault.Usage word) = ⊥
Causes input output replies (fault.BadInput line kind) =
    ReadsInput input (λ bytes. IsFaultOf bytes line kind)
Causes input output replies (fault.BadQuery place kind) = ⊥
Causes input output replies fault.ReadFault = StopsAt end.ReadFault input_limit input
Causes input output replies fault.WriteFault =
    HasFailed output × WritesFront input output replies
Causes input output replies fault.OutOfMemory = StopsAt end.OutOfMemory input_limit input
Causes input output replies fault.TooLong = StopsAt end.TooLong input_limit input

-- What is answered, with these replies: to words that break the word rule at a place, that place;
-- and else nothing where the text was written whole and no declaration was refused, or a fault that
-- has its cause.
abbrev pub Answers : Result (Unit {0}) ℕ → Change → Change → List (List NameReply)
    → Option faults.Fault → Type 0
Answers (Err place) input output replies answer = answer ≡ Some (fault.Usage place)
Answers (Ok _) input output replies None =
    Writes input output replies × (refused_lines replies ≡ 0)
Answers (Ok _) input output replies (Some f) = Causes input output replies f
