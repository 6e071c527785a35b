use Rattle.std.specs.Str.{IsUtf8}
use Rattle.std.proofs.Common.{rules}
use Rattle.std.proofs.lemmas.List.Elements.{All-nil}
use Rattle.cal_tabfmt.proofs.kept.KeptTexts.new.Goals as goal

pub returns : goal.returns
returns c = record { all = search rules; ends = search rules; utf8 = All-nil IsUtf8 }
