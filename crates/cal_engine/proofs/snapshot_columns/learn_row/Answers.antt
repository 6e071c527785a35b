use Rattle.std.proofs.Common.{◌<◌, false, true, length, map, ap, subst, sym, ◌∙◌}
use Rattle.std.specs.List.{All}
use Rattle.cal_context.specs.Snapshots.{IsBelowRoot, entry_of}
use Rattle.cal_context.specs.Tree.{path_at}
use Rattle.cal_rowset.specs.NumberedRows.{meant, nth_numbered}
use Rattle.cal_rowset.proofs.NumberedLemmas.{nth_within}
use Rattle.cal_value.specs.Flat.{joined}
use Rattle.cal_engine.specs.Learning.{learned, names_beside}
use Rattle.cal_engine.proofs.Learned.{learned_row}
use Rattle.cal_engine.proofs.Visiting.{met_kept}
use Rattle.cal_engine.proofs.snapshot_columns.learn_row.Goals as goal

pub learn_nodes-requires-clause-within : goal.learn_nodes-requires-clause-within
learn_nodes-requires-clause-within c =
    subst (All (IsBelowRoot c.args.context.now)) (sym c.nodes.ensures)
    (nth_within c.args.context.now c.args.rows.now c.args.place c.requires.within).nodes

pub learn_immediates-requires-clause-within : goal.learn_immediates-requires-clause-within
learn_immediates-requires-clause-within c =
    subst (All (λ i. i.attribute.0 < length c.args.context.now.attributes)) (sym c.imms.ensures)
    (nth_within c.args.context.now c.args.rows.now c.args.place c.requires.within).imms

pub returns-clause-met : goal.returns-clause-met
returns-clause-met c =
    met_kept c.args.context.now c.learn_nodes.new.visits c.learn_nodes.new.shown.names.keys
    (names_beside false (map (entry_of c.args.context.now) c.imms.result.now)) c.learn_immediates.new.self.names.keys
    c.in_ok-learn_immediates.ensures.learned c.in_ok-learn_nodes.ensures.met

pub returns-clause-learned : goal.returns-clause-learned
returns-clause-learned c =
    let t = c.args.context.now in
    let names = c.args.shown.now.names.keys in
    let mid = c.learn_nodes.new.shown.names.keys in
    learned_row names mid c.learn_immediates.new.self.names.keys (meant t (nth_numbered c.args.rows.now c.args.place))
    (c.in_ok-learn_nodes.ensures.learned ∙ ap (λ ns. learned names (names_beside true (joined (map (path_at t) ns)))) c.nodes.ensures)
    (c.in_ok-learn_immediates.ensures.learned ∙ ap (λ is. learned mid (names_beside false (map (entry_of t) is))) c.imms.ensures)
