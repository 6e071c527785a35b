use Rattle.std.proofs.Common.{List, not, ◌∙◌, sym, ap}
use Rattle.std.specs.List.{list_any}
use Rattle.std.proofs.lemmas.Bool.{cond-false, cond-true}
use Rattle.std.specs.BTreeMap.{is_at}
use Rattle.cal_value.specs.Texts.{text_cmp}
use Rattle.cal_ql.specs.Once.{has_name}
use Rattle.cal_ql.specs.declared.query.Agg.{Agg}
use Rattle.cal_ql.proofs.Onces.{known_name, names_more}
use Rattle.cal_ql.proofs.once.Kept.add.Goals as goal

pub returns-in_ok-push-clause-kept : goal.returns-in_ok-push-clause-kept
returns-in_ok-push-clause-kept c = λ name.
    names_more c.args.self.now.names c.insert.new.self c.args.self.now.aggs c.args.agg
    c.in_ok-copy.field-0 c.in_ok-copy.ensures c.in_ok-insert.ensures.updates.0 c.requires name
    ∙ ap (λ (aggs : List Agg). has_name aggs name) (sym c.in_ok-push.ensures.ok)

pub returns-in_ok-push-clause-added : goal.returns-in_ok-push-clause-added
returns-in_ok-push-clause-added c =
    let known = known_name c.args.self.now.names c.args.self.now.aggs c.args.agg.name
    c.in_ok-insert.field-0 c.requires (rw c.in_ok-copy.ensures at c.in_ok-insert.ensures.added) in
    c.in_ok-push.ensures.ok ∙ sym (cond-false _ _ _ (known ∙ ap not c.if-branch.true))

pub returns-else-branch-clause-kept : goal.returns-else-branch-clause-kept
returns-else-branch-clause-kept c = λ name.
    ap (list_any (is_at (text_cmp name)))
    (rw c.if-branch.false at c.in_ok-insert.ensures.unchanged)
    ∙ c.requires name

pub returns-else-branch-clause-added : goal.returns-else-branch-clause-added
returns-else-branch-clause-added c =
    let known = known_name c.args.self.now.names c.args.self.now.aggs c.args.agg.name
    c.in_ok-insert.field-0 c.requires (rw c.in_ok-copy.ensures at c.in_ok-insert.ensures.added) in
    sym (cond-true _ _ _ (known ∙ ap not c.if-branch.false))
