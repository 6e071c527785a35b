use Rattle.std.proofs.Common.{length}
use borrow.Author.Tests.{lt-ltb, le-ltb}
use Rattle.cal_context.specs.LinkHash.{number}
use Rattle.cal_context.proofs.link_hasher.number.Goals as goal

pub returns-then-bytes-lt4 : goal.returns-then-bytes-lt4
unfolding number
returns-then-bytes-lt4 c = rw (lt-ltb (length c.args.bytes.now) 4 c.if-bytes-lt4.true)

pub returns : goal.returns
unfolding number
returns c = rw (le-ltb (length c.args.bytes.now) 4 c.if-bytes-lt4.false, c.from_le_bytes.ensures)
