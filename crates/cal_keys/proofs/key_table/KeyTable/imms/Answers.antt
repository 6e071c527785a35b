use Rattle.std.proofs.Common.{List, sym, ap, ◌∙◌}
use Rattle.cal_keys.specs.KeyTables.{keys_of}
use Rattle.cal_keys.specs.Keys.{nth_key}
use Rattle.cal_keys.specs.declared.key.GroupKey.{GroupKey}
use Rattle.cal_keys.proofs.SingleKeys.{single-imms}
use Rattle.cal_keys.proofs.key_table.KeyTable.imms.Goals as goal

pub returns-in-Single : goal.returns-in-Single
returns-in-Single c =
    sym (ap (λ (keys : List GroupKey). (nth_key keys c.args.number).imms) (sym c.self.view_is ∙ ap keys_of c.in-Single.is)
    ∙ single-imms _ c.args.number)
