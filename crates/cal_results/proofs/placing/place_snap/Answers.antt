use Rattle.std.proofs.Common.{◌++◌, map, ap, ◌∙◌}
use Rattle.cal_channel.specs.Shown.{immediate_shown}
use Rattle.cal_channel.specs.Traces.{ShownSnap}
use Rattle.cal_context.proofs.ListLemmas.{IsFront-trans}
use Rattle.cal_context.specs.declared.snapshot.Snapshot.{Snapshot}
use Rattle.cal_results.proofs.Meanings.{can_number, record_later, snapshot_lies, snapshot_means}
use Rattle.cal_results.proofs.placing.place_snap.Goals as goal

pub number_all-requires-clause-nodes : goal.number_all-requires-clause-nodes
number_all-requires-clause-nodes c =
    let m = c.requires.means.1 in
    can_number m.attributes c.args.script.now c.args.tree.now c.args.seat.now c.args.context.now
    c.requires.named c.args.shown.nodes.now c.requires.means.0.paths m.traced.paths

pub returns-clause-lies : goal.returns-clause-lies
returns-clause-lies c =
    let shown : ShownSnap = record {
      nodes = c.args.shown.nodes.now;
      entries = c.args.shown.entries;
    } in
    let made : Snapshot = record {
      nodes = c.add_numbers.new.numbers;
      imms = c.add_immediates.new.imms;
    } in
    let done = c.number_all.ensures in
    let imms = c.in_ok-add_immediates.ensures ∙ ap (λ is. is ++ map (immediate_shown
    c.args.script.now.values) c.args.shown.entries) c.clear.ensures.imms in
    let later = record_later c.args.script.now c.args.tree.now shown c.args.context.now
    c.number_all.new.context done.grows.attributes c.args.seat.now c.number_all.new.seat
    done.learns.more c.requires.means.0 c.requires.means.1 in
    snapshot_lies c.args.script.now c.args.tree.now shown c.number_all.new.context
    c.number_all.new.seat c.number_all.new.self done.numbered made c.in_ok-add_numbers.ensures
    imms c.requires.means.0 later

pub returns-clause-means : goal.returns-clause-means
returns-clause-means c rec means =
    let shown : ShownSnap = record {
      nodes = c.args.shown.nodes.now;
      entries = c.args.shown.entries;
    } in
    let made : Snapshot = record {
      nodes = c.add_numbers.new.numbers;
      imms = c.add_immediates.new.imms;
    } in
    let done = c.number_all.ensures in
    let imms = c.in_ok-add_immediates.ensures ∙ ap (λ is. is ++ map (immediate_shown
    c.args.script.now.values) c.args.shown.entries) c.clear.ensures.imms in
    let later = record_later c.args.script.now c.args.tree.now shown c.args.context.now
    c.number_all.new.context done.grows.attributes c.args.seat.now c.number_all.new.seat
    done.learns.more rec means in
    let named = IsFront-trans c.args.script.now.attributes c.args.context.now.attributes
    c.number_all.new.context.attributes c.requires.named done.grows.attributes in
    snapshot_means c.args.script.now c.args.tree.now shown c.number_all.new.context
    c.number_all.new.seat c.number_all.new.self done.numbered made c.in_ok-add_numbers.ensures
    imms rec later done.seat named
