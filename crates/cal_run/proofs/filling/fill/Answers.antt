use Rattle.std.proofs.Common.{◌<◌, [], ◌++◌, length, map, ap, subst, sym, ◌∙◌}
use Rattle.std.proofs.lemmas.List.Elements.{All-nil}
use Rattle.cal_context.specs.Snapshots.{entry_of}
use Rattle.cal_context.specs.declared.snapshot.Immediate.{Immediate}
use Rattle.cal_run.specs.Adding.{AreWithin}
use Rattle.cal_run.specs.Snapshots.{event_entries, probe_entries, snapshot_of, time_entries}
use Rattle.cal_run.specs.Snapshots.{value_entries}
use Rattle.cal_run.proofs.FillLemmas.{any-asked, both-below, both-paths}
use Rattle.cal_run.proofs.filling.fill.Goals as goal

pub add_immediates-requires-clause-named : goal.add_immediates-requires-clause-named
add_immediates-requires-clause-named c = (
  c.args.context.now.attributes,
  c.requires.numbered.named,
)

pub add_immediates-requires-clause-asked : goal.add_immediates-requires-clause-asked
add_immediates-requires-clause-asked c =
    any-asked c.args.script.now c.args.moment.now c.args.op

pub returns-clause-inside : goal.returns-clause-inside
returns-clause-inside c =
    let s = c.requires.shown.0 in
    let shows = c.requires.shown.1 in
    let t = c.args.context.now in
    let m = c.args.moment.now in
    let named = c.requires.numbered.named in
    let none : AreWithin t.attributes [] =
    All-nil (λ (i : Immediate). i.attribute.0 < length t.attributes) in
    record {
      nodes = both-below t c.args.script.now named.front m.board.now
          m.process.now s.mine s.process shows.mine shows.process
          c.has_few_slots.ensures.references c.has_few_slots-2.ensures.references _
          c.in_ok-snapshot.ensures.nodes;
      imms = subst (AreWithin t.attributes) (sym c.in_ok-snapshot.ensures.imms)
          ((c.in_ok-add_immediates.ensures t.attributes named s shows).within
          (subst (AreWithin t.attributes) (sym c.clear.ensures) none));
    }

pub returns-clause-means : goal.returns-clause-means
unfolding snapshot_of
returns-clause-means c = λ s shows.
    let t = c.args.context.now in
    let script = c.args.script.now in
    let m = c.args.moment.now in
    let named = c.requires.numbered.named in
    let parts = event_entries script s c.args.op
    ++ time_entries script s c.args.channel.now.timer c.args.op
    ++ probe_entries script s c.args.channel.now.probes ++ value_entries script s in
    let paths = both-paths t script named.front m.board.now
    m.process.now s.mine s.process shows.mine shows.process
    c.has_few_slots.ensures.references c.has_few_slots-2.ensures.references _
    c.in_ok-snapshot.ensures.nodes in
    let imms = ap (map (entry_of t)) c.in_ok-snapshot.ensures.imms
    ∙ (c.in_ok-add_immediates.ensures t.attributes named s shows).means
    ∙ ap (λ is. map (entry_of t) is ++ parts) c.clear.ensures in
    λ j. record { paths = paths j; imms = imms j }
