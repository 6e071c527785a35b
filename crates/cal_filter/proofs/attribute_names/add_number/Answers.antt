use Rattle.std.proofs.Common.{◌≡◌, ◌++◌, ◌∷◌, [], length, take, ap, arith, subst, sym, ◌∙◌}
use Rattle.std.proofs.lemmas.List.{take-append-le, take_all}
use Rattle.cal_filter.specs.Memo.{AreRows}
use Rattle.cal_filter.proofs.RowLemmas.{on_err, rows_named, rows_stay, rows_unnamed}
use Rattle.cal_filter.proofs.attribute_names.add_number.Goals as goal

pub returns-in_err-push-clause-err : goal.returns-in_err-push-clause-err
returns-in_err-push-clause-err c =
    on_err c.from_residual.result
    (subst (λ numbers. AreRows numbers c.args.rows.now.items) (sym c.in_err-push.ensures.items)
    c.requires)

pub returns-in-None-clause-ok : goal.returns-in-None-clause-ok
returns-in-None-clause-ok c =
    let numbers = c.args.numbers.now.items in
    let rows = c.args.rows.now.items in
    subst (λ numbers. AreRows numbers rows)
    (sym (c.in_ok-push.ensures.items ∙ ap (λ o. numbers ++ o ∷ []) c.in-None.is))
    (rows_unnamed numbers rows c.requires)

pub returns-in-Ok-clause-ok : goal.returns-in-Ok-clause-ok
returns-in-Ok-clause-ok c =
    let numbers = c.args.numbers.now.items in
    let rows = c.add_to_row.new.rows.items in
    subst (λ numbers. AreRows numbers rows)
    (sym (c.in_ok-push.ensures.items ∙ ap (λ o. numbers ++ o ∷ []) c.in-Some.is))
    (rows_named numbers c.args.rows.now.items c.requires rows c.in-Some.name c.len-place.result
    (c.len-place.ensures ∙ c.args.numbers.now.ok.0) c.in-Ok.ensures.ok)

pub returns-in-Err-clause-err : goal.returns-in-Err-clause-err
returns-in-Err-clause-err c =
    let numbers = c.args.numbers.now.items in
    let rows = c.add_to_row.new.rows.items in
    let place = c.len-place.result in
    let next : place ≡ length numbers = c.len-place.ensures ∙ c.args.numbers.now.ok.0 in
    let same : c.truncate.new.self.items ≡ numbers =
    c.truncate.ensures.items ∙ ap (take place) c.in_ok-push.ensures.items
    ∙ take-append-le place numbers (c.args.number ∷ []) (omega (arith, next))
    ∙ take_all place numbers (omega (arith, next)) in
    subst (λ numbers. AreRows numbers rows) (sym same)
    (rows_stay numbers c.args.rows.now.items c.requires rows c.in-Err.ensures.err)
