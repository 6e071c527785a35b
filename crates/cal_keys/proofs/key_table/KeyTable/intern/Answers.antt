use Rattle.std.proofs.Common.{List, map, sym, ap, subst, ◌∙◌}
use Rattle.std.proofs.lemmas.Result.{IfOk-weaker}
use Rattle.cal_context.specs.Lists.{Interns}
use Rattle.cal_keys.specs.KeyTables.{keys_of}
use Rattle.cal_keys.specs.Keys.{single_key}
use Rattle.cal_keys.specs.declared.key.GroupKey.{GroupKey}
use Rattle.cal_keys.proofs.SingleKeys.{single-interns}
use Rattle.cal_keys.proofs.key_table.KeyTable.intern.Goals as goal

pub returns-in-Some-clause-interned : goal.returns-in-Some-clause-interned
returns-in-Some-clause-interned c =
    let key = c.args.key.now in
    let new = c.intern.new.self in
    IfOk-weaker c.intern.result _ _
    (λ number h. subst (λ (keys : List GroupKey). Interns keys key (map single_key new) number)
    (ap keys_of (sym c.in-Single.is) ∙ c.self.view_is)
    (single-interns _ c.in-Some.node new number key c.in-Some.ensures h))
    c.intern.ensures.interned
