use Rattle.std.proofs.Common.{◌≡◌, Option}
use Rattle.cal_context.specs.Snapshots.{meaning}
use Rattle.cal_ql.specs.declared.query.Query.{Query}
use Rattle.cal_value.specs.declared.record.Rec.{Rec}
use Rattle.cal_filter.specs.Kept.{kept}
use Rattle.cal_filter.specs.Named.{HasSmallNumbers}
use Rattle.cal_filter.specs.Ready.{IsFilter}
use Rattle.cal_filter.proofs.FlatOnly.{flattened}
use Rattle.cal_filter.proofs.Growing.{filter-Grows}
use Rattle.cal_filter.proofs.ReadyLemmas.{weaker}
use Rattle.cal_filter.proofs.record.apply_by.Goals as goal

pub returns : goal.returns
returns c =
    let t = c.flat_snapshot.new.context in
    let rec = c.args.rec in
    let filter = c.args.filter.now in
    let s = c.in_ok-snapshot.snapshot in
    weaker
    (λ (answer : Option Rec). (q : Query) → IsFilter t q filter → HasSmallNumbers rec
    → meaning t s ≡ flattened rec → answer ≡ kept q rec)
    (λ answer. (q : Query) → IsFilter c.args.context.now q filter → answer ≡ kept q rec)
    c.filtered.result
    (λ answer h q is. h q (filter-Grows c.in_ok-snapshot.ensures.grows q filter is)
    c.requires c.in_ok-snapshot.ensures.means)
    c.filtered.ensures
