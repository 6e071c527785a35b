use Rattle.std.proofs.Common.{◌++◌}
use Rattle.tests_thread.proofs.ends.place.Goals as goal

pub take_own-requires-clause-placed : goal.take_own-requires-clause-placed
take_own-requires-clause-placed c =
    let n = c.requires.next in
    let m = c.in_ok-_reply.ensures.meets n.0 n.1 n.2 n.3 n.4 in
    (c.args.op, n.1 ++ m.ops, n.2, m.placed)

pub returns-clause-behind : goal.returns-clause-behind
returns-clause-behind c =
    let n = c.requires.next in
    let m = c.in_ok-_reply.ensures.meets n.0 n.1 n.2 n.3 n.4 in
    let t = c.in_ok-take_own.ensures.takes c.args.op (n.1 ++ m.ops) n.2 m.placed in
    (_, n.2, t.kept)
