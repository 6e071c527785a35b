use Rattle.std.proofs.Common.{[]}
use Rattle.cal_context.specs.declared.snapshot.Snapshot.{Snapshot}
use Rattle.cal_value.specs.Flat.{joined}
use Rattle.cal_filter.proofs.InternedLemmas.{entries_none, flat_means}
use Rattle.cal_filter.proofs.record.flat_snapshot.Goals as goal

pub returns-clause-within : goal.returns-clause-within
returns-clause-within c =
    let t = c.intern_entries.new.context in
    let s : Snapshot =
    record { nodes = c.new-snapshot.result.nodes; imms = c.intern_entries.new.imms } in
    let first = c.in_ok-intern_paths.ensures.adds []
    (entries_none c.args.context.now c.new-snapshot.result.imms.items c.new-snapshot.ensures.imms) in
    let all = c.in_ok-intern_entries.ensures.adds (joined c.as_slice.result.now) first in
    (flat_means t s c.args.rec.now c.as_slice.result.now c.as_slice-2.result.now
    c.new-snapshot.ensures.nodes c.as_slice.ensures c.as_slice-2.ensures all).within

pub returns-clause-means : goal.returns-clause-means
returns-clause-means c =
    let t = c.intern_entries.new.context in
    let s : Snapshot =
    record { nodes = c.new-snapshot.result.nodes; imms = c.intern_entries.new.imms } in
    let first = c.in_ok-intern_paths.ensures.adds []
    (entries_none c.args.context.now c.new-snapshot.result.imms.items c.new-snapshot.ensures.imms) in
    let all = c.in_ok-intern_entries.ensures.adds (joined c.as_slice.result.now) first in
    (flat_means t s c.args.rec.now c.as_slice.result.now c.as_slice-2.result.now
    c.new-snapshot.ensures.nodes c.as_slice.ensures c.as_slice-2.ensures all).means
