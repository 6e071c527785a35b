use Rattle.std.proofs.Common.{List, [], ◌∷◌, ◌++◌, map, take, sym, ap, subst, ◌∙◌}
use Rattle.std.proofs.lemmas.List.{map-append, take_more}
use Rattle.cal_value.specs.declared.attribute.Entry.{Entry}
use Rattle.cal_context.specs.Snapshots.{entry_of}
use Rattle.cal_context.specs.declared.snapshot.Immediate.{Immediate}
use Rattle.cal_rowset.specs.Rooms.{AddsEntries}
use Rattle.cal_rowset.proofs.Rooms.{AddsEntries-more, AddsEntries-none}
use Rattle.cal_rowset.proofs.shown_row.ShownRow.add_immediates.Goals as goal

pub loop-imm-init : goal.loop-imm-init
loop-imm-init c = AddsEntries-none c.args.context.now c.args.self.now

pub loop-imm-preserved : goal.loop-imm-preserved
loop-imm-preserved c =
    let t = c.args.context.now in
    let all = c.args.imms.now in
    let index = c.loop-imm.imm-index in
    let imm = c.imm-item.result in
    let more =
    sym (map-append (entry_of t) (take index all) (imm ∷ []))
    ∙ ap (λ (i : Immediate). map (entry_of t) (take index all ++ i ∷ [])) c.imm-item.is
    ∙ ap (map (entry_of t)) (sym (take_more all index imm c.loop-imm-test.true)) in
    subst (λ (es : List Entry). AddsEntries t c.args.self.now c.add_entry.new.self es []) more
    (AddsEntries-more t c.args.self.now c.loop-imm.self c.add_entry.new.self _ [] _ [] c.loop-imm.invariant c.in_ok-add_entry.ensures.added)
