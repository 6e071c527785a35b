use Rattle.std.proofs.Common.{◌<◌, List, ◌∷◌, length, get_or, ap, sym, ◌∙◌, arith}
use Rattle.std.specs.Prelude.{slice_range}
use Rattle.cal_channel.specs.Traces.{no_end}
use Rattle.cal_channel.specs.declared.ends.TraceEnd.{TraceEnd}
use Rattle.cal_channel.proofs.TraceLemmas.{ends-within, snap-at, snaps-long}
use Rattle.cal_channel.proofs.trace.Trace.snap.Goals as goal

pub end_before-from-requires : goal.end_before-from-requires
end_before-from-requires c =
    let t = c.self.inside in
    let long = snaps-long t.nodes.items t.entries no_end t.ends.items in
    let same = ap length c.self.view_is in
    let l = c.requires in
    let d = ap length c.deref.ensures.value in
    omega (arith, long, same, l, d)

pub end_at-to-requires : goal.end_at-to-requires
end_at-to-requires c =
    let t = c.self.inside in
    let long = snaps-long t.nodes.items t.entries no_end t.ends.items in
    let same = ap length c.self.view_is in
    let l = c.requires in
    let d = ap length c.deref-2.ensures.value in
    omega (arith, long, same, l, d)

pub nodes_between-requires-clause-rises : goal.nodes_between-requires-clause-rises
nodes_between-requires-clause-rises c =
    let t = c.self.inside in
    let long = snaps-long t.nodes.items t.entries no_end t.ends.items in
    let same = ap length c.self.view_is in
    let below : c.args.place < length t.ends.items =
    let l = c.requires in omega (arith, long, same, l) in
    let within = ends-within t.nodes.items t.entries no_end t.ends.items c.args.place
    no_end c.self.invariant below in
    let from = c.end_before-from.ensures
    ∙ ap (λ (es : List TraceEnd). get_or (no_end ∷ es) c.args.place no_end)
    c.deref.ensures.value in
    let to = c.end_at-to.ensures
    ∙ ap (λ (es : List TraceEnd). get_or es c.args.place no_end) c.deref-2.ensures.value in
    let n = ap (λ (e : TraceEnd). e.nodes) from in
    let m = ap (λ (e : TraceEnd). e.nodes) to in
    let r = within.0 in
    omega (arith, r, n, m)

pub nodes_between-requires-clause-within : goal.nodes_between-requires-clause-within
nodes_between-requires-clause-within c =
    let t = c.self.inside in
    let long = snaps-long t.nodes.items t.entries no_end t.ends.items in
    let same = ap length c.self.view_is in
    let below : c.args.place < length t.ends.items =
    let l = c.requires in omega (arith, long, same, l) in
    let within = ends-within t.nodes.items t.entries no_end t.ends.items c.args.place
    no_end c.self.invariant below in
    let to = c.end_at-to.ensures
    ∙ ap (λ (es : List TraceEnd). get_or es c.args.place no_end) c.deref-2.ensures.value in
    let m = ap (λ (e : TraceEnd). e.nodes) to in
    let r = within.2 in
    let d = ap length c.deref-3.ensures.value in
    omega (arith, r, m, d)

pub between-requires-clause-rises : goal.between-requires-clause-rises
between-requires-clause-rises c =
    let t = c.self.inside in
    let long = snaps-long t.nodes.items t.entries no_end t.ends.items in
    let same = ap length c.self.view_is in
    let below : c.args.place < length t.ends.items =
    let l = c.requires in omega (arith, long, same, l) in
    let within = ends-within t.nodes.items t.entries no_end t.ends.items c.args.place
    no_end c.self.invariant below in
    let from = c.end_before-from.ensures
    ∙ ap (λ (es : List TraceEnd). get_or (no_end ∷ es) c.args.place no_end)
    c.deref.ensures.value in
    let to = c.end_at-to.ensures
    ∙ ap (λ (es : List TraceEnd). get_or es c.args.place no_end) c.deref-2.ensures.value in
    let n = ap (λ (e : TraceEnd). e.entries) from in
    let m = ap (λ (e : TraceEnd). e.entries) to in
    let r = within.1 in
    omega (arith, r, n, m)

pub between-requires-clause-within : goal.between-requires-clause-within
between-requires-clause-within c =
    let t = c.self.inside in
    let long = snaps-long t.nodes.items t.entries no_end t.ends.items in
    let same = ap length c.self.view_is in
    let below : c.args.place < length t.ends.items =
    let l = c.requires in omega (arith, long, same, l) in
    let within = ends-within t.nodes.items t.entries no_end t.ends.items c.args.place
    no_end c.self.invariant below in
    let to = c.end_at-to.ensures
    ∙ ap (λ (es : List TraceEnd). get_or es c.args.place no_end) c.deref-2.ensures.value in
    let m = ap (λ (e : TraceEnd). e.entries) to in
    let r = within.3 in
    omega (arith, r, m)

pub returns : goal.returns
returns c d =
    let t = c.self.inside in
    let place = c.args.place in
    let long = snaps-long t.nodes.items t.entries no_end t.ends.items in
    let same = ap length c.self.view_is in
    let below : place < length t.ends.items = let l = c.requires in omega (arith, long, same, l) in
    let from = c.end_before-from.ensures
    ∙ ap (λ (es : List TraceEnd). get_or (no_end ∷ es) place no_end) c.deref.ensures.value in
    let to = c.end_at-to.ensures
    ∙ ap (λ (es : List TraceEnd). get_or es place no_end) c.deref-2.ensures.value in
    let nodes = c.nodes_between.ensures
    ∙ (λ i. slice_range (c.deref-3.ensures.value i) (from i).nodes (to i).nodes) in
    let entries = c.between.ensures
    ∙ (λ i. slice_range t.entries (from i).entries (to i).entries) in
    ap (λ snaps. get_or snaps place d) (sym c.self.view_is)
    ∙ snap-at t.nodes.items t.entries no_end t.ends.items place d no_end below
    ∙ sym (λ i. record { nodes = nodes i; entries = entries i })
