use Rattle.std.proofs.Common.{map, sym}
use Rattle.cal_line.specs.Tokens.{character}
use Rattle.cal_line.proofs.TokenSteps.{bytes_of-characters}
use Rattle.cal_line.proofs.Written.{IsPiece-escaped}
use Rattle.cal_line.proofs.laws.escaped_spells_the_text.Goals as goal

pub returns-clause-alone : goal.returns-clause-alone
returns-clause-alone c = λ text. (map character text, IsPiece-escaped text, sym (bytes_of-characters text))

pub returns-clause-in_line : goal.returns-clause-in_line
returns-clause-in_line c = IsPiece-escaped
