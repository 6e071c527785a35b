use Rattle.std.proofs.Common.{sym, ◌∙◌}
use Rattle.cal_read.proofs.SiteLemmas.{put_same, put_new}
use Rattle.cal_read.proofs.node_line.put_node.Goals as goal

pub returns-then-has_content-clause-read : goal.returns-then-has_content-clause-read
returns-then-has_content-clause-read c = λ named n are be.
    put_same c.args.context.now c.args.nodes.now named are c.args.ids.now c.args.value.now c.in-Some.old n c.in-Some.ensures be.id be.value be.parent
    (λ m is. sym c.if-has_content.true ∙ c.has_content.ensures m n is be.id be.value be.parent)

pub returns-in_ok-insert-in-None-clause-read : goal.returns-in_ok-insert-in-None-clause-read
returns-in_ok-insert-in-None-clause-read c = λ named n are be.
    put_new c.args.context.now c.args.nodes.now named are c.held_there.new.context c.insert.new.self c.args.ids.now.id c.in_ok-held-in-None.held n c.held_there.ensures.grows c.in-None.ensures
    (c.in_ok-held-in-None.ensures.held n be) c.in_ok-insert-in-None.ensures
