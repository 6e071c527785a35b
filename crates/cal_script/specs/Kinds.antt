-- The kinds of a script's faults.
use Rattle.std.specs.Prelude.{ℕ, List, codes}
use Rattle.cal_script.specs.declared.kind.ScriptKind.{ScriptKind}
use Rattle.cal_script.specs.declared.kind.ScriptKind.TheVariants as kind

-- the name of a kind (Giltmoth's rule)
abbrev pub kind_name : ScriptKind → List ℕ
kind_name kind.NotText = codes "NotText"
kind_name kind.UnknownWord = codes "UnknownWord"
kind_name kind.Misplaced = codes "Misplaced"
kind_name kind.WrongArity = codes "WrongArity"
kind_name kind.NotAggregate = codes "NotAggregate"
kind_name kind.BadName = codes "BadName"
kind_name kind.DuplicateName = codes "DuplicateName"
kind_name kind.BadKind = codes "BadKind"
kind_name kind.BadProps = codes "BadProps"
kind_name kind.BadService = codes "BadService"
kind_name kind.UnknownName = codes "UnknownName"
kind_name kind.BadEscape = codes "BadEscape"
kind_name kind.BadValue = codes "BadValue"
kind_name kind.TooMany = codes "TooMany"
kind_name kind.NotGlobal = codes "NotGlobal"
