use Rattle.std.proofs.Common.{List, [], ◌∷◌, ◌++◌, length, ap, subst, sym, ◌∙◌}
use Rattle.cal_channel.specs.Traces.{CoverFrom, ShownSnap, no_end, snaps_from}
use Rattle.cal_channel.specs.declared.ends.TraceEnd.{TraceEnd}
use Rattle.cal_channel.specs.declared.shown.ShownEntry.{ShownEntry}
use Rattle.cal_channel.proofs.TraceLemmas.{cover-more, snaps-more}
use Rattle.cal_words.specs.declared.node.NodeId.{NodeId}
use Rattle.cal_channel.proofs.trace.Trace.push.Goals as goal

pub invariant_of-self : goal.invariant_of-self
invariant_of-self c =
    let t = c.self.inside in
    let d = c.args.draft.now in
    let e = c.in-Ok.ensures in
    let ends = e.ends ∙ (λ i. t.ends.items ++ record {
      nodes = length (e.nodes i);
      entries = length (e.entries i);
    } ∷ []) in
    subst (λ (us : List TraceEnd).
    CoverFrom c.add.new.nodes.items c.add.new.entries no_end us)
    (sym ends) (subst (λ (ns : List NodeId). CoverFrom ns c.add.new.entries no_end
    (t.ends.items ++ record {
      nodes = length (t.nodes.items ++ d.nodes.items);
      entries = length (t.entries ++ d.entries.items);
    } ∷ [])) (sym e.nodes) (subst (λ (es : List ShownEntry).
    CoverFrom (t.nodes.items ++ d.nodes.items) es no_end (t.ends.items ++ record {
      nodes = length (t.nodes.items ++ d.nodes.items);
      entries = length (t.entries ++ d.entries.items);
    } ∷ [])) (sym e.entries)
    (cover-more t.nodes.items t.entries d.nodes.items d.entries.items no_end t.ends.items
    c.self.invariant)))

pub returns-in-Ok-clause-added : goal.returns-in-Ok-clause-added
returns-in-Ok-clause-added c =
    let t = c.self.inside in
    let d = c.args.draft.now in
    let e = c.in-Ok.ensures in
    let ends = e.ends ∙ (λ i. t.ends.items ++ record {
      nodes = length (e.nodes i);
      entries = length (e.entries i);
    } ∷ []) in
    (λ i. snaps_from (e.nodes i) (e.entries i) no_end (ends i))
    ∙ snaps-more t.nodes.items t.entries d.nodes.items d.entries.items no_end t.ends.items
    c.self.invariant
    ∙ ap (λ (snaps : List ShownSnap). snaps ++ record {
      nodes = d.nodes.items;
      entries = d.entries.items;
    } ∷ []) c.self.view_is
