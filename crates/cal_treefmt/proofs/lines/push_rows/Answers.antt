use Rattle.std.proofs.Common.{◌≡◌, ℕ, ◌<◌, ◌++◌, List, length, map, Option, subst, sym}
use Rattle.cal_context.specs.Tree.{path_at}
use Rattle.cal_treefmt.specs.Lines as lines
use Rattle.cal_treefmt.specs.Lines.{label, row_lines}
use Rattle.cal_treefmt.specs.Plans.{IsPlaceOf, left_rows, shown}
use Rattle.cal_treefmt.proofs.Lining.{lines-more, place-next, place-smaller, places_from, within-more}
use Rattle.cal_treefmt.proofs.lines.push_rows.Goals as goal

pub loop-from-preserved : goal.loop-from-preserved
loop-from-preserved c =
    let plan = c.args.plan.now in
    let t = plan.context in
    let within = subst (λ (place : Option ℕ). IsPlaceOf plan place) c.in-Some.is c.loop-from.invariant.from in
    record {
      from = place-next plan c.in-Some.row c.next-from.result c.requires.plan within c.next-from.ensures;
      within = λ all. within-more t c.loop-from.lines.items c.push.new.self.items _ c.in_ok-push.ensures.items c.requires.node (c.loop-from.invariant.within all);
      lines = λ rows is.
          let whole : List lines.Line = map (shown t rows) c.args.lines.now.items ++ row_lines (label (path_at t c.args.node)) (left_rows rows c.args.from) in
          lines-more plan c.in-Some.row c.next-from.result rows c.args.node c.loop-from.lines.items c.push.new.self.items whole is within c.next-from.ensures c.in_ok-push.ensures.items
          (subst (λ (place : Option ℕ). map (shown t rows) c.loop-from.lines.items ++ row_lines (label (path_at t c.args.node)) (left_rows rows place) ≡ whole)
          c.in-Some.is (c.loop-from.invariant.lines rows is));
    }

pub loop-from-smaller : goal.loop-from-smaller
loop-from-smaller c =
    let within = subst (λ (place : Option ℕ). IsPlaceOf c.args.plan.now place) c.in-Some.is c.loop-from.invariant.from in
    let count = length c.args.plan.now.rows.next.items in
    subst (λ (place : Option ℕ). places_from count c.next-from.result < places_from count place) (sym c.in-Some.is)
    (place-smaller c.args.plan.now c.in-Some.row c.next-from.result c.requires.plan within c.next-from.ensures)
