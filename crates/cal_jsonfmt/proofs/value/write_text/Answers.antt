use Rattle.cal_jsonfmt.proofs.WritingLemmas.{WritesValue-string}
use Rattle.cal_jsonfmt.proofs.value.write_text.Goals as goal

pub returns : goal.returns
returns c =
    WritesValue-string c.args.writer.now c.string.new.self c.args.text.now (c.in_ok-string.ensures.room.0, rw c.as_str.ensures at c.in_ok-string.ensures.ok)
