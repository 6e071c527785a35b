use Rattle.std.proofs.Common.{refl, arith}
use Rattle.std.proofs.lemmas.Option.{slice_get_within}
use Rattle.cal_table.proofs.Holding.{Puts-merged, fits}
use Rattle.cal_table.proofs.putting.add.Goals as goal

pub merge-requires-clause-alike : goal.merge-requires-clause-alike
merge-requires-clause-alike c =
    let may = c.requires in
    let long = may.long in
    let in_keys = slice_get_within c.args.keys.now.keys c.in-Some.number c.args.key.now c.in-Some.ensures in
    (fits c.args.keys.now.keys c.args.rows.now.items c.args.row.now c.in-Some.number c.index_mut.result.now c.index_mut.result.now may (omega arith) c.index_mut.ensures.value).0

pub merge-requires-clause-room : goal.merge-requires-clause-room
merge-requires-clause-room c =
    let may = c.requires in
    let long = may.long in
    let in_keys = slice_get_within c.args.keys.now.keys c.in-Some.number c.args.key.now c.in-Some.ensures in
    (fits c.args.keys.now.keys c.args.rows.now.items c.args.row.now c.in-Some.number c.index_mut.result.now c.index_mut.result.now may (omega arith) c.index_mut.ensures.value).1

pub returns-in-Some-clause-puts : goal.returns-in-Some-clause-puts
returns-in-Some-clause-puts c =
    Puts-merged c.args.keys.now.keys c.args.rows.now.items c.args.key.now c.args.row.now c.in-Some.number c.index_mut.result.now c.index_mut.result.now c.merge.new.self c.args.keys.now.keys c.requires refl c.in-Some.ensures c.index_mut.ensures.value c.merge.ensures
