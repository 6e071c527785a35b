use Rattle.std.proofs.Common.{List, sym, subst, arith}
use Rattle.std.proofs.lemmas.Option.{slice_get_within}
use Rattle.cal_agg.specs.declared.row.AggRow.{AggRow}
use Rattle.cal_table.specs.declared.key.TableKey.{TableKey}
use Rattle.cal_table.specs.Held.{Puts}
use Rattle.cal_table.proofs.Holding.{Puts-merged, Puts-push, fits}
use Rattle.cal_table.proofs.putting.put.Goals as goal

pub merge-requires-clause-alike : goal.merge-requires-clause-alike
merge-requires-clause-alike c =
    let may = c.requires.may in
    let long = may.long in
    let in_keys = slice_get_within c.args.keys.now.keys c.in-Some.number c.args.key c.in-Some.ensures.there.1 in
    (fits c.args.keys.now.keys c.args.rows.now.items c.args.row c.in-Some.number c.index_mut.result.now c.index_mut.result.now may (omega arith) c.index_mut.ensures.value).0

pub merge-requires-clause-room : goal.merge-requires-clause-room
merge-requires-clause-room c =
    let may = c.requires.may in
    let long = may.long in
    let in_keys = slice_get_within c.args.keys.now.keys c.in-Some.number c.args.key c.in-Some.ensures.there.1 in
    (fits c.args.keys.now.keys c.args.rows.now.items c.args.row c.in-Some.number c.index_mut.result.now c.index_mut.result.now may (omega arith) c.index_mut.ensures.value).1

pub returns-in-Some-clause-puts : goal.returns-in-Some-clause-puts
returns-in-Some-clause-puts c =
    Puts-merged c.args.keys.now.keys c.args.rows.now.items c.args.key c.args.row c.in-Some.number c.index_mut.result.now c.index_mut.result.now c.merge.new.self _ c.requires.may c.in-Some.ensures.there.0 c.in-Some.ensures.there.1 c.index_mut.ensures.value c.merge.ensures

pub returns-in-Ok-clause-puts : goal.returns-in-Ok-clause-puts
returns-in-Ok-clause-puts c =
    subst (λ (z : List TableKey × List AggRow). Puts c.args.keys.now.keys c.args.rows.now.items c.args.key c.args.row z.0 z.1) (λ i. (sym c.in-None.ensures.added i, sym c.in-Ok.ensures.items i))
    (Puts-push c.args.keys.now.keys c.args.rows.now.items c.args.key c.args.row c.requires.may.long)
