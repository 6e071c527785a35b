use Rattle.cal_channel.proofs.ClosingLemmas.{own_value-read}
use Rattle.cal_once.specs.Seats.{view}
use Rattle.cal_tree.proofs.Walks.{known_of_path}
use Rattle.cal_tree.specs.Seats.{slots_of}
use Rattle.cal_channel.proofs.closing.own_value.Goals as goal

pub read-requires-clause-known : goal.read-requires-clause-known
read-requires-clause-known c =
    let r = c.requires.node in
    known_of_path (slots_of c.args.tree.now) (view c.args.seat.now) _ c.args.node.0 r.1.has_path

pub returns-clause-own : goal.returns-clause-own
returns-clause-own c =
    let found = c.in_ok-found.found in
    own_value-read c.args.tree.now c.read.new.seat c.args.node found.attr found.value
    (λ path e way. (c.in_ok-found.ensures.path path e way).1)
