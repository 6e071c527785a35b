-- The kinds of a journal's faults.
use Rattle.std.specs.Prelude.{ℕ, List, codes}
use Rattle.cal_journal.specs.declared.kind.JournalKind.{JournalKind}
use Rattle.cal_journal.specs.declared.kind.JournalKind.TheVariants as kind

-- the name of a kind (Giltmoth's rule)
abbrev pub kind_name : JournalKind → List ℕ
kind_name kind.Form = codes "Form"
kind_name kind.Cut = codes "Cut"
kind_name kind.After = codes "After"
kind_name kind.Shape = codes "Shape"
kind_name kind.OpStranger = codes "OpStranger"
kind_name kind.OpOrder = codes "OpOrder"
kind_name kind.SeenFalls = codes "SeenFalls"
kind_name kind.SeenPast = codes "SeenPast"
kind_name kind.SeenOwn = codes "SeenOwn"
kind_name kind.SeenFixed = codes "SeenFixed"
kind_name kind.Reading = codes "Reading"
kind_name kind.Reply = codes "Reply"
