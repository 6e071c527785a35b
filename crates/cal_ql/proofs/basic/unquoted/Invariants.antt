use Rattle.std.proofs.Common.{◌≡◌, ◌++◌}
use Rattle.std.specs.Str.Iter.{chars_rest}
use Rattle.cal_ql.specs.Tokens.{unquoted}
use Rattle.cal_ql.proofs.Quotes.{unread}
use Rattle.cal_ql.proofs.basic.unquoted.Given as goal

-- the text so far, and what the rest says behind it, are what the whole says
abbrev pub invariant-loop-character : goal.invariant-loop-character
invariant-loop-character l = l.text ++ unquoted (unread l.behind_backslash (chars_rest l.character-iterator)) ≡ unquoted l.raw
