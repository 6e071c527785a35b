use Rattle.std.proofs.Common.{◌≡◌, ◌-◌, List, ap, drop, take, sym, ◌∙◌}
use Rattle.std.specs.Prelude.{slice_range}
use Rattle.std.proofs.lemmas.List.{drop-map, take-map}
use Rattle.cal_channel.specs.Packed.{all_unpacked, unpacked}
use Rattle.cal_channel.specs.declared.shown.ShownEntry.{ShownEntry}
use Rattle.cal_channel.proofs.packed.EntryList.between.Goals as goal

pub returns : goal.returns
returns c =
    let l = c.self.inside in
    let from = c.args.from in
    let to = c.args.to in
    let both : all_unpacked c.deref-2.result.now (slice_range c.deref.result.now from to)
    ≡ all_unpacked l.kept.items (slice_range l.entries.items from to) =
    λ i. all_unpacked (c.deref-2.ensures.value i)
    (slice_range (c.deref.ensures.value i) from to) in
    let ranged = sym (ap (take (to - from)) (drop-map (unpacked l.kept.items) from l.entries.items)
    ∙ take-map (unpacked l.kept.items) (to - from) (drop from l.entries.items)) in
    both ∙ ranged ∙ ap (λ (es : List ShownEntry). slice_range es from to) c.self.view_is
