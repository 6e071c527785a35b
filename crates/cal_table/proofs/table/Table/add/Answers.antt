use Rattle.cal_table.proofs.Places.{numbers-kept}
use Rattle.cal_table.proofs.table.Table.add.Goals as goal

pub add_numbered-requires-clause-numbers : goal.add_numbered-requires-clause-numbers
add_numbered-requires-clause-numbers c =
    numbers-kept c.args.attrs.now c.args.snap.now c.in_ok-numbered.numbered c.in_ok-numbered.ensures c.requires.may.numbers
