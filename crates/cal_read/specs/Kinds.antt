use Rattle.std.specs.Prelude.{ℕ, List, codes}
use Rattle.cal_read.specs.declared.kind.StreamKind.{StreamKind}
use Rattle.cal_read.specs.declared.kind.StreamKind.TheVariants as kind

-- the name of what is wrong, as a fault's text has it (Giltmoth's rule)
abbrev pub kind_name : StreamKind → List ℕ
kind_name kind.NotText = codes "NotText"
kind_name kind.BadField = codes "BadField"
kind_name kind.NoRecord = codes "NoRecord"
kind_name kind.MissingField = codes "MissingField"
kind_name kind.Uneven = codes "Uneven"
kind_name kind.BadNumber = codes "BadNumber"
kind_name kind.UnknownNode = codes "UnknownNode"
kind_name kind.NotAttribute = codes "NotAttribute"
kind_name kind.BadValue = codes "BadValue"
kind_name kind.NoKind = codes "NoKind"
kind_name kind.TooDeep = codes "TooDeep"
kind_name kind.Redefined = codes "Redefined"
