use Rattle.std.specs.Prelude.{ℕ, List, codes}
use Rattle.cal_ql.specs.declared.kind.QueryKind.{QueryKind}
use Rattle.cal_ql.specs.declared.kind.QueryKind.TheVariants.{BadToken, OpenQuote, ExpectedClause, ExpectedName, ExpectedSign, DuplicateClause, UnknownKernel, UnknownOp, BadArity, BadNumber, UnknownFormat, ExpectedBy}

-- the name of a fault's kind
abbrev pub kind_name : QueryKind → List ℕ
kind_name BadToken = codes "BadToken"
kind_name OpenQuote = codes "OpenQuote"
kind_name ExpectedClause = codes "ExpectedClause"
kind_name ExpectedName = codes "ExpectedName"
kind_name ExpectedSign = codes "ExpectedSign"
kind_name DuplicateClause = codes "DuplicateClause"
kind_name UnknownKernel = codes "UnknownKernel"
kind_name UnknownOp = codes "UnknownOp"
kind_name BadArity = codes "BadArity"
kind_name BadNumber = codes "BadNumber"
kind_name UnknownFormat = codes "UnknownFormat"
kind_name ExpectedBy = codes "ExpectedBy"
