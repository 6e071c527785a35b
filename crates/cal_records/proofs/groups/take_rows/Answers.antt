use Rattle.std.proofs.Common.{ℕ, List, [], ◌∷◌, map, subst, sym, refl, ◌∙◌}
use Rattle.std.proofs.lemmas.List.{map_more, take_all}
use Rattle.cal_context.proofs.CallerLemmas.{TakesMore-trans}
use Rattle.cal_context.specs.Taking.{TakesMore}
use Rattle.cal_rowset.specs.Answers.{nth_row}
use Rattle.cal_value.specs.declared.record.Rec.{Rec}
use Rattle.cal_records.proofs.TakingLemmas.{takes-none}
use Rattle.cal_records.proofs.groups.take_rows.Goals as goal

pub loop-number-init : goal.loop-number-init
loop-number-init g c = record {
  taken = λ aggs rs made. takes-none (g.T.Taker.has_taken c.args.taker.now c.args.context.now);
  about = refl;
}

pub loop-number-preserved : goal.loop-number-preserved
loop-number-preserved g c = record {
  taken = λ aggs rs made.
      let has_taken = g.T.Taker.has_taken in
      let t = c.args.context.now in
      let then = has_taken c.loop-number.taker t in
      let has = has_taken c.take.new.self t in
      subst (TakesMore (has_taken c.args.taker.now t) has)
      (sym (map_more (nth_row rs) c.args.order.now c.loop-number.number-index 0
      c.loop-number-test.true))
      (TakesMore-trans (has_taken c.args.taker.now t) then has _ _
      (c.loop-number.invariant.taken aggs rs made)
      (subst (λ (r : Rec). TakesMore then has (r ∷ [])) (c.in_ok-fill.ensures.row aggs rs made)
      c.in_ok-take.ensures.taken));
  about = c.in_ok-take.ensures.about ∙ c.loop-number.invariant.about;
}

pub returns-clause-about : goal.returns-clause-about
returns-clause-about g c = c.loop-number.invariant.about

pub returns-clause-taken : goal.returns-clause-taken
returns-clause-taken g c = λ aggs rs made.
    let has_taken = g.T.Taker.has_taken in
    let t = c.args.context.now in
    subst (λ (l : List ℕ). TakesMore (has_taken c.args.taker.now t)
    (has_taken c.loop-number.taker t) (map (nth_row rs) l))
    (take_all c.loop-number.number-index c.args.order.now c.loop-number-test.false)
    (c.loop-number.invariant.taken aggs rs made)
