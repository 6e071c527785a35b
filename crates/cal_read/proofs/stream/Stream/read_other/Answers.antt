use Rattle.std.proofs.Common.{List, Result, refl, sym, subst}
use Rattle.cal_read.specs.Held.{AreHeld}
use Rattle.cal_read.specs.Nodes.{Named}
use Rattle.cal_read.specs.Standing.{TakesLine}
use Rattle.cal_read.specs.Steps.{AnswersFor}
use Rattle.cal_read.specs.Stream as streams
use Rattle.cal_read.specs.declared.kind.StreamKind.{StreamKind}
use Rattle.cal_read.specs.declared.stream.Stream.{Stream}
use Rattle.cal_read.proofs.StreamLemmas.{list_made, node_line_taken}
use Rattle.cal_read.proofs.stream.Stream.read_other.Goals as goal

pub returns-in-Ok-clause-read : goal.returns-in-Ok-clause-read
returns-in-Ok-clause-read g c = λ s stands.
    let it = c.in-Ok.ensures in
    let held : Stream = record { nodes = c.add_node.new.nodes; globals = c.args.self.now.globals; columns = c.args.self.now.columns; row = c.args.self.now.row; recent = c.add_node.new.recent } in
    let had = g.T.Taker.has_taken c.args.taker.now c.args.context.now in
    let has = g.T.Taker.has_taken c.args.taker.now c.add_node.new.context in
    subst (λ (o : Result streams.Stream StreamKind). AnswersFor (λ _. TakesLine c.add_node.new.context held had has s) c.add_node.result o)
    (sym (list_made s c.args.line.now it.fields it.are))
    (node_line_taken c.args.context.now c.add_node.new.context c.add_node.ensures.grows c.args.self.now held had has s it.fields stands refl
    (λ rs h. g.met.T.Taker.stays _ _ _ _ h c.add_node.ensures.grows) it.once it.sorted c.add_node.result
    (subst (λ (o : Result (List Named) StreamKind). AnswersFor (λ _. AreHeld c.add_node.new.context c.add_node.new.nodes) c.add_node.result o)
    (sym (it.step s.nodes)) (c.add_node.ensures.read s.nodes stands.nodes)))
