use Rattle.std.proofs.Common.{◌≡◌, List, ◌++◌, refl, sym, ap, ◌∙◌}
use Rattle.std.specs.BTreeMap.{is_at}
use Rattle.std.specs.List.{list_any}
use Rattle.cal_value.specs.Texts.{text_cmp}
use Rattle.cal_ql.proofs.Onces.{names_more}
use Rattle.cal_ql.specs.Kernels.{result_name}
use Rattle.cal_ql.specs.Once.{has_name}
use Rattle.cal_ql.specs.declared.query.Agg.{Agg}
use Rattle.cal_records.proofs.QueryLemmas.{kept_new, kept_old}
use Rattle.cal_records.proofs.query.Kept.add.Goals as goal

pub returns-in_ok-push-clause-added : goal.returns-in_ok-push-clause-added
returns-in_ok-push-clause-added c =
    let attr = c.args.attr.now in
    let name : c.push_str.new.self ≡ result_name c.args.kernel attr =
    c.in_ok-push_str.ensures.ok ∙ ap (λ front. front ++ attr) c.in_ok-name.ensures
    ∙ c.requires.front in
    c.in_ok-push.ensures.ok
    ∙ kept_new c.args.self.now.names c.args.self.now.aggs c.args.kernel attr _
    c.push_str.new.self c.in_ok-insert.field-0 c.requires.named c.in_ok-from_str.ensures name
    (rw c.in_ok-copy.ensures at c.in_ok-insert.ensures.added) c.if-branch.true

pub returns-else-branch-clause-added : goal.returns-else-branch-clause-added
returns-else-branch-clause-added c =
    let attr = c.args.attr.now in
    let name : c.push_str.new.self ≡ result_name c.args.kernel attr =
    c.in_ok-push_str.ensures.ok ∙ ap (λ front. front ++ attr) c.in_ok-name.ensures
    ∙ c.requires.front in
    kept_old c.args.self.now.names c.args.self.now.aggs c.args.kernel attr attr
    c.push_str.new.self c.in_ok-insert.field-0 c.requires.named refl name
    (rw c.in_ok-copy.ensures at c.in_ok-insert.ensures.added) c.if-branch.false

pub returns-in_ok-push-clause-named : goal.returns-in_ok-push-clause-named
returns-in_ok-push-clause-named c = λ name.
    names_more c.args.self.now.names c.insert.new.self c.args.self.now.aggs _
    c.in_ok-copy.field-0 c.in_ok-copy.ensures c.in_ok-insert.ensures.updates.0
    c.requires.named name
    ∙ ap (λ (aggs : List Agg). has_name aggs name) (sym c.in_ok-push.ensures.ok)

pub returns-else-branch-clause-named : goal.returns-else-branch-clause-named
returns-else-branch-clause-named c = λ name.
    ap (list_any (is_at (text_cmp name)))
    (rw c.if-branch.false at c.in_ok-insert.ensures.unchanged)
    ∙ c.requires.named name
