use Rattle.std.proofs.Common.{◌≡◌, ◌%◌, ◌^◌, get_or, length, arith}
use Rattle.cal_names.proofs.Reading.{content_back}
use Rattle.cal_names.proofs.read.read_content.Goals as goal

pub returns-clause-here : goal.returns-clause-here
returns-clause-here c =
    let low : get_or c.args.words.now 2 0 % 2 ^ 32 ≡ length c.args.rec.now.name.now = omega arith in
    let long = c.text_len-i-end.ensures.length in
    let done = c.loop-i-test.false in
    content_back c.args.words.now c.args.rec.now.name.now c.kind_of_node.result c.requires.words c.requires.size low (λ i l. c.loop-i.invariant i (omega arith)) c.kind_of_node.ensures
