use Rattle.std.proofs.Common.{[], ◌∷◌, ◌++◌}
use Rattle.tests_thread.proofs.lines.do_shared.Goals as goal

pub take_own-requires-clause-placed : goal.take_own-requires-clause-placed
take_own-requires-clause-placed c =
    let t = c.requires.next in
    let m = c.in_ok-reply.ensures.meets t.0 t.1 t.2 t.3 t.4 in
    (c.args.op, t.1 ++ m.ops, t.2, m.placed)

pub returns-clause-behind : goal.returns-clause-behind
returns-clause-behind c =
    let t = c.requires.next in
    let op = c.args.op in
    let m = c.in_ok-reply.ensures.meets t.0 t.1 t.2 t.3 t.4 in
    let k = c.in_ok-take_own.ensures.takes op (t.1 ++ m.ops) t.2 m.placed in
    ((t.1 ++ m.ops) ++ op ∷ [], t.2, k.kept)
