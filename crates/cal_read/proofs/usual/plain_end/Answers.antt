use Rattle.std.proofs.Common.{◌≡◌, ◌<◌, ◌||◌, eqb, false, length, get_or, sym, ap, ◌∙◌, arith}
use Rattle.cal_read.proofs.UsualLemmas.{plain_more}
use Rattle.cal_read.proofs.usual.plain_end.Goals as goal

pub loop-place-preserved : goal.loop-place-preserved
loop-place-preserved c =
    let line = c.args.line.now in
    let within : c.loop-place.place < length line = omega (arith, ap length c.as_bytes-bytes.ensures.value) in
    let none : (eqb (get_or line c.loop-place.place 0) 10 || (eqb (get_or line c.loop-place.place 0) 92 || eqb (get_or line c.loop-place.place 0) 44 || eqb (get_or line c.loop-place.place 0) 61)) ≡ false =
    rw c.as_bytes-bytes.ensures.value at (sym c.is_special.ensures ∙ c.if-not-is_special.true)
    in
    record {
      order = omega (arith, c.loop-place.invariant.order);
      within = omega arith;
      written = plain_more line c.args.start c.loop-place.place c.loop-place.invariant.order within none c.loop-place.invariant.written;
    }
