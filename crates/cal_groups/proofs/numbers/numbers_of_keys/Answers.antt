use Rattle.std.proofs.Common.{◌<◌, length, sym, subst, arith}
use Rattle.std.specs.List.{All}
use Rattle.cal_groups.specs.Keys.{IsKeyNumbered}
use Rattle.cal_nodes.specs.Numbers.{IsNumbered}
use Rattle.cal_groups.proofs.numbers.numbers_of_keys.Goals as goal

pub add_numbers-requires : goal.add_numbers-requires
add_numbers-requires c =
    let nodes = c.args.nodes.now in
    let i = c.loop-key.key-index in
    let test = c.loop-key-test.true in
    let less : i < length c.args.keys.now = omega arith in
    subst (All (IsNumbered nodes)) (sym c.as_slice.ensures)
    (subst (IsKeyNumbered nodes) (sym c.key-item.is) (c.requires i c.key-item.result less))
