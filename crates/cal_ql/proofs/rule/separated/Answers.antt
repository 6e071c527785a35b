use Rattle.std.proofs.Common.{◌≡◌, ◌∙◌, [], ◌∷◌, arith, sym, refl}
use Rattle.std.proofs.lemmas.Result.{err_from_is_err_and}
use Rattle.cal_ql.specs.Reading.{count}
use Rattle.cal_ql.specs.Steps.{tokens_ahead}
use Rattle.cal_ql.proofs.Lists.{Reads-done, Reads-fails, Reads-more, separated-begins, separated-fails}
use Rattle.cal_ql.proofs.rule.separated.Goals as goal

pub returns-in_err-first-clause-read : goal.returns-in_err-first-clause-read
returns-in_err-first-clause-read g c =
    let p = err_from_is_err_and c.from_residual.result c.from_residual.ensures.1 in
    rw (p.1, p.2) (separated-fails c.in_err-first.field-0.0 (g.R.Rule.item_at c.args.rule.now) (tokens_ahead c.args.ahead) c.in_err-first.ensures.read)

pub loop-behind-init : goal.loop-behind-init
loop-behind-init g c =
    let first : c.push.new.self ≡ c.in_ok-first.first ∷ [] = c.in_ok-push.ensures.ok ∙ rw c.new-items.ensures refl in (
      record {
        most = count (tokens_ahead c.in_ok-first.rest);
        enough = omega arith;
        all = rw first (separated-begins (g.R.Rule.item_at c.args.rule.now) (tokens_ahead c.args.ahead) (tokens_ahead c.in_ok-first.rest) c.in_ok-first.first c.in_ok-first.ensures.read);
      },
      c.in_ok-first.ensures.further,
    )

pub returns-in_err-item-clause-read : goal.returns-in_err-item-clause-read
returns-in_err-item-clause-read g c =
    let p = err_from_is_err_and c.from_residual-in_err-item.result c.from_residual-in_err-item.ensures.1 in
    rw (p.1, p.2)
    (Reads-fails c.in_err-item.field-0.0 (g.R.Rule.item_at c.args.rule.now) c.loop-behind.items (tokens_ahead c.loop-behind.rest) (tokens_ahead c.in-Some.behind) _ (sym c.in-Some.ensures.behind) (rw c.len.ensures at c.in_err-item.ensures.read) c.loop-behind.invariant.0)

pub loop-behind-smaller : goal.loop-behind-smaller
loop-behind-smaller g c = omega (arith, c.in_ok-item.ensures.further, c.in-Some.ensures.further)

pub loop-behind-preserved : goal.loop-behind-preserved
loop-behind-preserved g c = (
  Reads-more (g.R.Rule.item_at c.args.rule.now) c.loop-behind.items c.push-in-Some.new.self (tokens_ahead c.loop-behind.rest) (tokens_ahead c.in-Some.behind) (tokens_ahead c.in_ok-item.next) c.in_ok-item.item _
      (sym c.in-Some.ensures.behind) (rw c.len.ensures at c.in_ok-item.ensures.read) c.in_ok-push-2.ensures.ok c.in_ok-item.ensures.further c.loop-behind.invariant.0,
  omega (arith, c.in_ok-item.ensures.further, c.in-Some.ensures.further, c.loop-behind.invariant.1),
)

pub returns-clause-read : goal.returns-clause-read
returns-clause-read g c = Reads-done (g.R.Rule.item_at c.args.rule.now) c.loop-behind.items (tokens_ahead c.loop-behind.rest) _ (sym c.in_default.ensures.behind) c.loop-behind.invariant.0
