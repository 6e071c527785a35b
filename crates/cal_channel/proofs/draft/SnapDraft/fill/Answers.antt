use Rattle.std.proofs.Common.{◌<◌, List, [], ◌++◌, length, map, ap, subst, sym, ◌∙◌}
use Rattle.std.specs.List.{AllZip}
use Rattle.std.proofs.lemmas.List.Elements.{All-nil}
use Rattle.cal_board.specs.PathBoards.{entries_of}
use Rattle.cal_board.specs.Standing.{last_nodes}
use Rattle.cal_channel.proofs.MeaningLemmas.{boards-shown, entries-alike, within-alike}
use Rattle.cal_channel.specs.Channels.{IsPathShown}
use Rattle.cal_channel.specs.Shown.{immediate_shown}
use Rattle.cal_channel.specs.declared.shown.ShownEntry.{ShownEntry}
use Rattle.cal_context.specs.declared.snapshot.Immediate.{Immediate}
use Rattle.cal_run.specs.Adding.{AreWithin, entry_by}
use Rattle.cal_run.specs.Snapshots.{event_entries, probe_entries, snapshot_of, time_entries}
use Rattle.cal_run.specs.Snapshots.{value_entries}
use Rattle.cal_words.specs.declared.node.NodeId.{NodeId}
use Rattle.cal_channel.proofs.draft.SnapDraft.fill.Goals as goal

pub returns : goal.returns
unfolding snapshot_of
returns g c attributes s named shows =
    let script = c.args.script.now in
    let values = script.values in
    let m = c.args.moment.now in
    let tree = c.args.nodes.now.tree.now in
    let seat = c.args.nodes.now.seat.now in
    let entries = c.add_immediates.new.out.entries.items in
    let parts = event_entries script s c.args.op
    ++ time_entries script s c.args.channel.now.timer c.args.op
    ++ probe_entries script s c.args.channel.now.probes ++ value_entries script s in
    let adds = c.in_ok-add_immediates.ensures attributes named s shows in
    let none : AreWithin attributes [] =
    All-nil (λ (i : Immediate). i.attribute.0 < length attributes) in
    record {
      paths = subst (λ (ns : List NodeId). AllZip (IsPathShown attributes script tree seat) ns
          (entries_of script.attributes s.mine.references
          ++ entries_of script.attributes s.process.references))
          (sym (c.in_ok-refs-2.ensures.ok ∙ ap (λ ns. ns ++ last_nodes m.process.now)
          (c.in_ok-refs.ensures.ok ∙ ap (λ ns. ns ++ last_nodes m.board.now)
          c.clear-2.ensures.items)))
          (boards-shown attributes script tree seat m.board.now m.process.now s.mine s.process
          shows.mine shows.process c.has_few_slots.ensures.references
          c.has_few_slots-2.ensures.references);
      within = within-alike attributes values entries
          (adds.within (subst (λ (es : List ShownEntry).
          AreWithin attributes (map (immediate_shown values) es))
          (sym c.clear.ensures.items) none));
      imms = entries-alike attributes values entries ∙ adds.means
          ∙ ap (λ (es : List ShownEntry).
          map (entry_by attributes) (map (immediate_shown values) es) ++ parts)
          c.clear.ensures.items;
    }
