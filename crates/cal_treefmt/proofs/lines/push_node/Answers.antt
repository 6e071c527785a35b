use Rattle.std.proofs.Common.{ℕ, ◌++◌, Option, map, subst, sym, ap, arith, ◌∙◌}
use Rattle.std.proofs.lemmas.Result.{on_ok_weaker}
use Rattle.cal_context.specs.Tree.{path_at}
use Rattle.cal_treefmt.specs.Lines.{label}
use Rattle.cal_treefmt.specs.Plans.{IsPlaceOf, shown}
use Rattle.cal_treefmt.proofs.Lining.{first_lines, node_lines-first, place-first}
use Rattle.cal_treefmt.proofs.Ordering.{counted_in}
use Rattle.cal_treefmt.proofs.lines.push_node.Goals as goal

pub push_rows-requires-clause-node : goal.push_rows-requires-clause-node
push_rows-requires-clause-node c = omega (arith, c.requires.place, c.in_ok-node.ensures, counted_in c.args.plan.now.context c.requires.plan.1.context)

pub push_line-requires : goal.push_line-requires
push_line-requires c = omega (arith, c.requires.place, c.in_ok-node.ensures, counted_in c.args.plan.now.context c.requires.plan.1.context)

pub push_rows-requires-clause-from : goal.push_rows-requires-clause-from
push_rows-requires-clause-from c =
    subst (λ (place : Option ℕ). IsPlaceOf c.args.plan.now place) c.in-Some.is
    (place-first c.args.plan.now c.in_ok-node.node c.first-first.result c.requires.plan
    (omega (arith, c.requires.place, c.in_ok-node.ensures, counted_in c.args.plan.now.context c.requires.plan.1.context)) c.first-first.ensures)

pub returns-in-Some-clause-shown : goal.returns-in-Some-clause-shown
returns-in-Some-clause-shown c = on_ok_weaker c.push_rows.result (λ pushed rows plan.
    let t = c.args.plan.now.context in
    pushed rows plan ∙ ap (λ lines. map (shown t rows) c.args.lines.now.items ++ lines) (
    ap (first_lines (label (path_at t c.in_ok-node.node)) rows) (sym c.in-Some.is)
    ∙ node_lines-first c.args.plan.now rows c.args.place c.in_ok-node.node c.first-first.result plan c.requires.place c.in_ok-node.ensures c.first-first.ensures))
    c.push_rows.ensures.shown

pub returns-in-None-clause-shown : goal.returns-in-None-clause-shown
returns-in-None-clause-shown c = on_ok_weaker c.push_line.result (λ pushed rows plan.
    let t = c.args.plan.now.context in
    pushed rows ∙ ap (λ lines. map (shown t rows) c.args.lines.now.items ++ lines) (
    ap (first_lines (label (path_at t c.in_ok-node.node)) rows) (sym c.in-None.is)
    ∙ node_lines-first c.args.plan.now rows c.args.place c.in_ok-node.node c.first-first.result plan c.requires.place c.in_ok-node.ensures c.first-first.ensures))
    c.push_line.ensures.shown
