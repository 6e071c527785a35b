-- What the steps of the reader answer (private).
use Rattle.std.specs.Prelude.{◌≡◌, Result, Ok, Err}
use Rattle.cal_read.specs.declared.end.LineEnd as ends
use Rattle.cal_read.specs.declared.end.LineEnd.TheVariants as end
use Rattle.cal_read.specs.declared.kind.StreamKind.{StreamKind}

-- A step answers what a definition gives, unless memory ran out.
abbrev pub Answers : {A : Type 0} → Result A ends.LineEnd → Result A StreamKind → Type 0
Answers (Ok answer) given = given ≡ Ok answer
Answers (Err (end.Bad kind)) given = given ≡ Err kind
Answers (Err end.OutOfMemory) given = Unit {0}

-- The same where what is answered stands for what is given.
abbrev pub AnswersFor : {A B : Type 0} → (A → B → Type 0) → Result A ends.LineEnd
    → Result B StreamKind → Type 0
AnswersFor {A} {B} StandsFor (Ok answer) given = (b : B) × (given ≡ Ok b) × StandsFor answer b
AnswersFor StandsFor (Err (end.Bad kind)) given = given ≡ Err kind
AnswersFor StandsFor (Err end.OutOfMemory) given = Unit {0}
