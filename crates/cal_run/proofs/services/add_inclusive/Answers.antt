use Rattle.std.proofs.Common.{◌≡◌, ◌-◌, false, List, sym, subst, ◌∙◌, rules}
use Rattle.std.proofs.lemmas.Result.{on_ok_weaker}
use Rattle.cal_board.specs.Readings.{last_reading}
use Rattle.cal_run.proofs.AddingLemmas.{adds-number, inclusive-closed}
use Rattle.cal_run.specs.Adding.{AddsEntries}
use Rattle.cal_run.specs.Lines.{is_shared}
use Rattle.cal_run.specs.Snapshots.{inclusive_duration}
use Rattle.cal_value.specs.declared.attribute.Entry.{Entry}
use Rattle.cal_words.specs.declared.op.OpCode.TheVariants as code
use Rattle.cal_run.proofs.services.add_inclusive.Goals as goal

pub returns-then-not-is_shared : goal.returns-then-not-is_shared
returns-then-not-is_shared g c =
    let script = c.args.script.now in
    let op = c.args.op in
    let old = g.S.ImmediateSink.imms c.args.out.now script.values in
    let new = g.S.ImmediateSink.imms c.push_number.new.self script.values in
    let end : op.code ≡ code.End = search rules in
    let own : is_shared script op ≡ false = cc in
    on_ok_weaker c.push_number.result (λ added attributes named s shows.
    subst (λ (es : List Entry). AddsEntries attributes old new es)
    (sym (inclusive-closed script s op end own))
    (adds-number attributes old new c.args.numbers.now.inclusive inclusive_duration
    c.saturating_sub-inclusive.result _ named.inclusive
    (c.saturating_sub-inclusive.ensures
    ∙ (λ j. shows.reading j - (c.last-opened.ensures
    ∙ (λ k. last_reading (shows.readings c.requires.timed k) (c.attr_ref.ensures k))) j))
    (added script.values))) c.push_number.ensures
