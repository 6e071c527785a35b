use Rattle.std.proofs.Common.{All, subst, sym}
use Rattle.std.proofs.lemmas.List.Elements.{All-nil}
use Rattle.cal_context.proofs.CallerLemmas.{root_within}
use Rattle.cal_treefmt.specs.Plans.{IsWithin}
use Rattle.cal_treefmt.proofs.Lining.{lines-start, place-first}
use Rattle.cal_treefmt.proofs.lines.lines.Goals as goal

pub push_rows-requires-clause-from : goal.push_rows-requires-clause-from
push_rows-requires-clause-from c =
    place-first c.args.plan.now (record { 0 = 0 }) c.first-first.result c.requires (root_within c.requires.1.context) c.first-first.ensures

pub push_rows-requires-clause-node : goal.push_rows-requires-clause-node
push_rows-requires-clause-node c = root_within c.requires.1.context

pub loop-place-init : goal.loop-place-init
loop-place-init c =
    let within = IsWithin c.args.plan.now.context in
    record {
      within = c.in_ok-push_rows.ensures.within (subst (All within) (sym c.new-lines.ensures.items) (All-nil within));
      lines = λ rows plan.
          lines-start c.args.plan.now rows c.first-first.result c.new-lines.result.items _ plan c.first-first.ensures c.new-lines.ensures.items (c.in_ok-push_rows.ensures.shown rows plan);
    }
