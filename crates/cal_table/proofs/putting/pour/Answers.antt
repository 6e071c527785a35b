use Rattle.std.proofs.Common.{List, sym, ap, ◌∙◌, subst}
use Rattle.cal_table.specs.Held.{MayPour}
use Rattle.cal_table.specs.Rows.{both_held, rows_of, tally}
use Rattle.cal_table.specs.declared.key.TableKey.{TableKey}
use Rattle.cal_table.proofs.putting.pour.Goals as goal

pub pour_back-requires-clause-may : goal.pour_back-requires-clause-may
pour_back-requires-clause-may c = subst
    (λ (ks : List TableKey). MayPour c.args.keys.now.keys c.args.rows.now.items ks c.args.more_rows.items)
    (sym c.into_iter-more_keys.ensures.into_iter_gives.0) c.requires.may

pub returns-clause-poured : goal.returns-clause-poured
returns-clause-poured c asked = c.pour_back.ensures.poured asked
    ∙ ap (λ (ks : List TableKey). both_held
    (tally asked (rows_of c.args.keys.now.keys c.args.rows.now.items))
    (tally asked (rows_of ks c.args.more_rows.items))) c.into_iter-more_keys.ensures.into_iter_gives.0
