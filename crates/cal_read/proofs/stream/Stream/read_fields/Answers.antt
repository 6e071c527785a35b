use Rattle.std.proofs.Common.{Ok, refl, sym, ap, ◌∙◌}
use Rattle.cal_read.proofs.StreamLemmas.{node_line_taken}
use Rattle.cal_read.proofs.stream.Stream.read_fields.Goals as goal

pub returns-in-OfNode-clause-read : goal.returns-in-OfNode-clause-read
returns-in-OfNode-clause-read g c = λ s stands.
    node_line_taken c.args.context.now c.read_node.new.context c.read_node.ensures.grows c.args.self.now
    (record { nodes = c.read_node.new.nodes; globals = c.args.self.now.globals; columns = c.args.self.now.columns; row = c.args.self.now.row; recent = c.read_node.new.recent })
    (g.T.Taker.has_taken c.args.taker.now c.args.context.now) (g.T.Taker.has_taken c.args.taker.now c.read_node.new.context) s c.args.fields.now stands refl
    (λ rs h. g.met.T.Taker.stays _ _ _ _ h c.read_node.ensures.grows) (sym c.in_ok-repeats_key.ensures ∙ c.if-branch.false) (c.in_ok-sort_of.ensures ∙ ap Ok c.in-OfNode.is)
    c.read_node.result (c.read_node.ensures.read s.nodes stands.nodes)
