use Rattle.std.proofs.Common.{arith}
use Rattle.std.proofs.lemmas.List.FromFn.{fill_by_all}
use Rattle.cal_words.specs.Back.{byte_of}
use Rattle.cal_words.proofs.back.read_bytes.Goals as goal

pub returns : goal.returns
returns c =
    let inv = c.loop-k.invariant in
    let long = inv.long in
    fill_by_all (byte_of c.args.words.now) c.loop-k.bytes.items c.args.count 0 (omega arith) (λ j h. inv.each j (omega arith))
