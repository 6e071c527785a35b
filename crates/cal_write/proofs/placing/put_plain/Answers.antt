use Rattle.std.proofs.Common.{◌+◌, get_or, ◌∙◌, arith}
use Rattle.std.proofs.lemmas.List.{take-set-le}
use Rattle.cal_write.proofs.PlacingLemmas.{plain-more, put-more}
use Rattle.cal_write.proofs.placing.put_plain.Goals as goal

pub loop-place-preserved : goal.loop-place-preserved
loop-place-preserved c =
    let place = c.loop-place.place in
    let text = c.args.text.now in
    record {
      front = take-set-le c.args.at c.loop-place.bytes (c.args.at + place) (get_or text place 0)
          (omega arith) ∙ c.loop-place.invariant.front;
      written = put-more c.args.bytes.now c.loop-place.bytes text c.args.at place (omega arith)
          c.loop-place-test.true c.loop-place.invariant.written;
      plain = plain-more text place c.loop-place-test.true c.loop-place.invariant.plain
          (c.is_escaped.ensures c.if-is_escaped.false);
    }
