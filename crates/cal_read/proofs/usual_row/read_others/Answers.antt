use Rattle.std.proofs.Common.{subst}
use Rattle.cal_read.specs.Known.{SpellsIds}
use Rattle.cal_read.specs.UsualValues.{ReadsEntries}
use Rattle.cal_read.proofs.KnownLemmas.{values_order}
use Rattle.cal_read.proofs.UsualLemmas.{some_values}
use Rattle.cal_read.proofs.UsualValueLemmas.{entries_named}
use Rattle.cal_read.proofs.usual_row.read_others.Goals as goal

pub note-requires-clause-order : goal.note-requires-clause-order
note-requires-clause-order c =
    let read = c.in_ok-last.ensures in
    values_order c.args.line.now c.args.start c.in_ok-last.last read.texts c.requires.start read.values

pub note-requires-clause-spelled : goal.note-requires-clause-spelled
note-requires-clause-spelled c =
    let read = c.in_ok-last.ensures in
    record { read = read; some = some_values c.args.line.now c.args.start c.in_ok-last.last read.texts c.requires.start read.values c.if-last-start.false }

pub returns : goal.returns
returns c =
    let t = c.args.context.now in
    let nodes = c.args.nodes.now in
    let line = c.args.line.now in
    let ids = c.push_ids_at.new.ids.items in
    let imms = c.put_values_at.new.imms.items in
    let read = c.in_ok-last.ensures in
    let spelled : SpellsIds line c.args.start c.in_ok-last.last ids =
    record { read = read; some = some_values line c.args.start c.in_ok-last.last read.texts c.requires.start read.values c.if-last-start.false } in
    entries_named t nodes line c.args.start c.in_ok-place.place c.in_ok-end.end ids imms (record { last = c.in_ok-last.last; spelled = spelled; key = c.in_ok-place.ensures })
    (subst (λ l. ReadsEntries t nodes l line c.in_ok-place.place c.in_ok-end.end imms) c.deref.ensures.value c.in_ok-end.ensures)
