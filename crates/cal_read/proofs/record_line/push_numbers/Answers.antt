use Rattle.std.proofs.Common.{◌≤◌, length, sym, subst, arith}
use Rattle.std.proofs.lemmas.Option.{slice_get-get_or}
use Rattle.cal_read.specs.Columns.{AreNumbers}
use Rattle.cal_read.specs.NodeLines.{as_attribute}
use Rattle.cal_read.proofs.ColumnLemmas.{numbers_at, no_attribute_at, found_length}
use Rattle.cal_read.proofs.EachLemmas.{each_all}
use Rattle.cal_read.proofs.record_line.push_numbers.Goals as goal

pub returns-in_default : goal.returns-in_default
returns-in_default c = λ t nodes are.
    let before = c.loop-number.invariant t nodes are in
    no_attribute_at t c.args.found.now nodes are c.loop-number.number-index _ (slice_get-get_or c.args.found.now c.loop-number.number-index _ c.loop-number-test.true) before.0 before.1 c.in_default.is

pub loop-number-preserved : goal.loop-number-preserved
loop-number-preserved c = λ t nodes are.
    let before = c.loop-number.invariant t nodes are in
    let now = numbers_at t c.args.found.now nodes are c.loop-number.number-index _ (slice_get-get_or c.args.found.now c.loop-number.number-index _ c.loop-number-test.true) before.0 before.1
    c.loop-number.numbers.items c.in-Some.number before.2 c.in-Some.is in
    (now.0, now.1, subst (λ l. AreNumbers t l now.0) (sym c.in_ok-push.ensures.items) now.2)

pub returns : goal.returns
returns c = λ t nodes are.
    let before = c.loop-number.invariant t nodes are in
    let past : length nodes ≤ c.loop-number.number-index = omega (arith, found_length t c.args.found.now nodes are, c.loop-number-test.false) in
    (before.0, each_all as_attribute nodes c.loop-number.number-index before.0 past before.1, before.2)
