use Rattle.std.proofs.Common.{List, sym, ap, subst, ◌∙◌}
use Rattle.cal_context.specs.Lists.{AreApart}
use Rattle.cal_keys.specs.KeyTables.{keys_of}
use Rattle.cal_keys.specs.declared.key.GroupKey.{GroupKey}
use Rattle.cal_keys.proofs.SingleKeys.{single-apart}
use Rattle.cal_keys.proofs.key_table.KeyTable.count.Goals as goal

pub returns-in-Single-clause-apart : goal.returns-in-Single-clause-apart
returns-in-Single-clause-apart c =
    subst (λ (keys : List GroupKey). AreApart keys) (ap keys_of (sym c.in-Single.is) ∙ c.self.view_is)
    (single-apart _ c.as_slice.ensures.apart)
