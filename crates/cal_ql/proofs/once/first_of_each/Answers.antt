use Rattle.std.proofs.Common.{List, ◌∙◌, ap, sym}
use Rattle.std.specs.BTreeMap.{is_at}
use Rattle.std.specs.List.{list_any}
use Rattle.cal_value.specs.Texts.{text_cmp}
use Rattle.cal_ql.specs.declared.query.Agg.{Agg}
use Rattle.cal_ql.specs.Once.{has_name, with_all_new}
use Rattle.cal_ql.proofs.Onces.{all_once}
use Rattle.cal_ql.proofs.once.first_of_each.Goals as goal

pub add_all-requires : goal.add_all-requires
add_all-requires c = λ name.
    ap (list_any (is_at (text_cmp name))) c.new.ensures.empty
    ∙ sym (ap (λ (aggs : List Agg). has_name aggs name) c.new-2.ensures)

pub returns : goal.returns
returns c =
    c.in_ok-add_all-2.ensures.added
    ∙ ap (λ (kept : List Agg). with_all_new kept c.args.others) (c.in_ok-add_all.ensures.added ∙ ap (λ (kept : List Agg). with_all_new kept c.args.selected) c.new-2.ensures)
    ∙ all_once c.args.selected c.args.others
