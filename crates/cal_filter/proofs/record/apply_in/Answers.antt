use Rattle.std.proofs.Common.{◌≡◌, Option}
use Rattle.cal_ql.specs.declared.query.Query.{Query}
use Rattle.cal_value.specs.declared.record.Rec.{Rec}
use Rattle.cal_filter.specs.Kept.{kept}
use Rattle.cal_filter.specs.Ready.{IsFilter}
use Rattle.cal_filter.proofs.ReadyLemmas.{weaker}
use Rattle.cal_filter.proofs.record.apply_in.Goals as goal

pub returns : goal.returns
returns c =
    weaker
    (λ (answer : Option Rec). (q : Query) → IsFilter c.new.new.context q c.in_ok-filter.filter
    → answer ≡ kept q c.args.rec)
    (λ answer. answer ≡ kept c.args.query.now c.args.rec) c.apply_by.result
    (λ answer h. h c.args.query.now c.in_ok-filter.ensures.ready)
    c.apply_by.ensures
