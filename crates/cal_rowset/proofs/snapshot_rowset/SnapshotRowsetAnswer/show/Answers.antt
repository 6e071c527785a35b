use Rattle.std.proofs.Common.{◌≡◌, ◌<◌, length, map, sym, subst, ◌∙◌, arith}
use Rattle.std.specs.List.{All}
use Rattle.std.proofs.lemmas.Result.{on_ok_weaker}
use Rattle.cal_value.specs.declared.record.Rec.{Rec}
use Rattle.cal_context.specs.Snapshots.{IsBelowRoot}
use Rattle.cal_context.specs.declared.snapshot.Immediate.{Immediate}
use Rattle.cal_rowset.specs.Answers.{nth_row}
use Rattle.cal_rowset.specs.NumberedRows.{in_order, meant}
use Rattle.cal_rowset.specs.Showing.{ShowsRow}
use Rattle.cal_rowset.proofs.NumberedLemmas.{in_order-counted, nth_in_order, nth_within}
use Rattle.cal_rowset.proofs.snapshot_rowset.SnapshotRowsetAnswer.show.Goals as goal

pub fill_numbered-requires-clause-within : goal.fill_numbered-requires-clause-within
fill_numbered-requires-clause-within c =
    let s = c.args.self.now in
    let row = nth_within s.context s.rows c.index-row.result.now s.within in
    record {
      nodes = subst (All (IsBelowRoot s.context)) (sym c.nodes.ensures) row.nodes;
      imms = subst (All (λ (i : Immediate). i.attribute.0 < length s.context.attributes)) (sym c.imms.ensures) row.imms;
    }

pub returns-clause-shows : goal.returns-clause-shows
returns-clause-shows c =
    let s = c.args.self.now in
    let within : c.args.place < length s.order.items =
    omega (arith, c.requires.place, in_order-counted s.context s.rows s.order.items) in
    let same : meant s.context (record { nodes = c.nodes.result.now; imms = c.imms.result.now })
    ≡ nth_row (map (meant s.context) (in_order s.rows s.order.items)) c.args.place =
    (λ i. meant s.context (record { nodes = c.nodes.ensures i; imms = c.imms.ensures i }))
    ∙ nth_in_order s.context s.rows s.order.items c.args.place c.index-row.result.now _ within c.index-row.ensures in
    on_ok_weaker c.fill_numbered.result
    (λ shows columns is. subst (λ (r : Rec). ShowsRow c.fill_numbered.new.self columns r) same (shows columns is))
    c.fill_numbered.ensures.shows
