use Rattle.cal_read.proofs.SiteLemmas.{not_too_deep}
use Rattle.cal_read.proofs.node_line.add_node.Goals as goal

pub put_node-result-requires-clause-depth : goal.put_node-result-requires-clause-depth
put_node-result-requires-clause-depth c =
    let site = c.in_ok-site.ensures c.requires.0 c.requires.1 in
    not_too_deep c.args.ids.now.attribute c.in_ok-site.site.above.depth site.0.above site.2.above.depth (c.in_default.ensures c.args.context.now site.0.above site.2.above)

pub put_known-requires-clause-known : goal.put_known-requires-clause-known
put_known-requires-clause-known c = (c.args.text.now, c.in-Some.ensures)

pub returns-in-Some-clause-read : goal.returns-in-Some-clause-read
returns-in-Some-clause-read c = λ named are.
    let site = c.in_ok-site.ensures named are in
    c.put_known.ensures.read c.args.text.now named site.0 c.in-Some.ensures are site.1 site.2
