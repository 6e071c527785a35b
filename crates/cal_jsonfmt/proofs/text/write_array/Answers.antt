use Rattle.std.proofs.Common.{◌<◌, List, length, map, subst, arith}
use Rattle.std.proofs.lemmas.List.{take_all}
use Rattle.cal_value.specs.declared.record.Rec.{Rec}
use Rattle.cal_rowset.specs.Answers.{nth_row}
use Rattle.cal_jsonfmt.specs.Json.{row_json}
use Rattle.cal_jsonfmt.specs.Writing.{WritesEach}
use Rattle.cal_jsonfmt.proofs.ObjectLemmas.{rows-more}
use Rattle.cal_jsonfmt.proofs.WritingLemmas.{WritesValue-array}
use Rattle.cal_jsonfmt.proofs.text.write_array.Goals as goal

pub loop-place-preserved : goal.loop-place-preserved
loop-place-preserved g c =
    let kept = c.loop-place.invariant in
    let columns = c.args.columns.now in
    let rows = (g.A.Answer.answer c.args.answer.now).rows.rows in
    let place = c.loop-place.place in
    let within : place < length rows = omega (arith, c.row_count-place-end.ensures, c.loop-place-test.true) in
    let shows = c.in_ok-show.ensures.shows columns kept.shown in
    record {
      each = rows-more columns rows place c.begin_array.new.self c.loop-place.writer c.write.new.writer within kept.each (c.in_ok-write.ensures.written (nth_row rows place) shows);
      objects = c.write.ensures.stays;
      shown = shows.is;
      ready = c.in_ok-show.ensures.ready;
    }

pub returns : goal.returns
returns g c =
    let columns = c.args.columns.now in
    let rows = (g.A.Answer.answer c.args.answer.now).rows.rows in
    let each = subst (λ (rs : List Rec). WritesEach c.begin_array.new.self c.loop-place.writer (map (row_json columns) rs))
    (take_all c.loop-place.place rows (omega (arith, c.row_count-place-end.ensures, c.loop-place-test.false))) c.loop-place.invariant.each in
    WritesValue-array c.args.writer.now c.begin_array.new.self c.loop-place.writer c.end_array.new.self (map (row_json columns) rows)
    (c.in_ok-begin_array.ensures.room.0, c.in_ok-begin_array.ensures.ok) each (c.in_ok-end_array.ensures.room.0, c.in_ok-end_array.ensures.ok)
