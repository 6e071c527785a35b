use Rattle.cal_read.proofs.KnownValueLemmas.{known_put}
use Rattle.cal_read.proofs.known_value.put_known.Goals as goal

pub returns-clause-read : goal.returns-clause-read
returns-clause-read c = λ text named s known are there is.
    known_put c.args.context.now c.args.nodes.now c.args.ids.now c.args.site.now text c.args.number known c.child_by_number.new.self c.in_ok-node.node c.in_ok-node.ensures.added
    c.in_ok-node.ensures.grows c.insert.new.self named s are there is c.in_ok-insert.ensures
