use Rattle.std.proofs.Common.{ap, take, sym, ◌∙◌}
use Rattle.std.proofs.lemmas.List.{take-map}
use Rattle.cal_channel.specs.Packed.{all_unpacked, unpacked}
use Rattle.cal_channel.proofs.packed.EntryList.truncate.Goals as goal

pub returns : goal.returns
returns c =
    let l = c.self.inside in
    ap (all_unpacked l.kept.items) c.truncate.ensures.items
    ∙ sym (take-map (unpacked l.kept.items) c.args.count l.entries.items)
    ∙ ap (take c.args.count) c.self.view_is
