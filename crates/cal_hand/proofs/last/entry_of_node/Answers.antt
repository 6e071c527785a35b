use Rattle.std.proofs.Common.{◌≡◌, ap, subst, sym, ◌∙◌, arith, map, ◌++◌, ◌∷◌, []}
use Rattle.cal_board.proofs.SlotLemmas.{IfOk-then}
use Rattle.cal_board.specs.PathBoards.{entry_in}
use Rattle.cal_hand.proofs.LastLemmas.{entry_read, path_later}
use Rattle.cal_hand.specs.Nodes.{node_entry}
use Rattle.cal_once.specs.Seats.{view}
use Rattle.cal_tree.proofs.Walks.{known_of_path}
use Rattle.cal_tree.specs.Paths.{NodeEntry}
use Rattle.cal_tree.specs.Seats.{slots_of}
use Rattle.cal_value.specs.declared.attribute.Entry.{Entry}
use Rattle.cal_hand.proofs.last.entry_of_node.Goals as goal

pub read-requires-clause-known : goal.read-requires-clause-known
read-requires-clause-known c =
    let r = c.requires.node in
    known_of_path (slots_of c.args.tree.now) (view c.args.seat.now) _ c.args.node.0 r.2.has_path

pub entry-requires : goal.entry-requires
entry-requires c =
    let r = c.requires.node in
    let found = c.in_ok-found.found in
    let way = path_later (slots_of c.args.tree.now) (view c.args.seat.now) (view c.read.new.seat)
    c.args.node r.0 r.1 c.read.ensures.learns.more r.2 in
    let told = c.in_ok-found.ensures.path (map node_entry r.0) (node_entry r.1) way in
    let listed = r.3 in
    omega (arith, listed, ap (λ (e : NodeEntry). e.attr) told.1)

pub returns-clause-entry : goal.returns-clause-entry
returns-clause-entry c path o at =
    let found = c.in_ok-found.found in
    let attrs = c.args.attrs.now in
    let way = path_later (slots_of c.args.tree.now) (view c.args.seat.now) (view c.read.new.seat)
    c.args.node path o c.read.ensures.learns.more at in
    let told = c.in_ok-found.ensures.path (map node_entry path) (node_entry o) way in
    IfOk-then c.entry.result
    (λ (entry : Entry)
    (is : entry ≡ entry_in attrs (record { attribute = found.attr; value = found.value })).
    is ∙ entry_read attrs o found.attr found.value told.1)
    c.entry.ensures
