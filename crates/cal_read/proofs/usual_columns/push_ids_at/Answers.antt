use Rattle.std.proofs.Common.{◌≡◌, ◌<◌, ◌+◌, length, get_or, ap, arith}
use Rattle.cal_read.proofs.NumberLemmas.{id_is}
use Rattle.cal_read.proofs.UsualLemmas.{ids_more}
use Rattle.cal_read.proofs.usual_columns.push_ids_at.Goals as goal

pub loop-place-preserved : goal.loop-place-preserved
loop-place-preserved c =
    let at = c.in-Some.at in
    let within : c.loop-place.place < length c.args.line.now = omega (arith, ap length c.as_bytes-bytes.ensures.value) in
    let sign : get_or c.args.line.now c.loop-place.place 0 ≡ 61 = rw c.as_bytes-bytes.ensures.value at c.if-bytes-place-eq61.true in
    let number = c.in-Some.ensures in
    ids_more c.args.line.now c.args.start c.loop-place.place at.end c.loop-place.ids.items c.push.new.self.items at.number c.loop-place.invariant within sign number.plain
    (id_is c.args.line.now (c.loop-place.place + 1) at.end at.number number) c.in_ok-push.ensures.items
