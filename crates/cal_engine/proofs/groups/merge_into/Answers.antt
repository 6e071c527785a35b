use Rattle.std.proofs.Common.{length, take, ap, ◌∙◌}
use Rattle.cal_engine.proofs.InPlace.{merged_cut}
use Rattle.cal_engine.proofs.groups.merge_into.Goals as goal

pub returns : goal.returns
returns c =
    c.from_vec.ensures
    ∙ merged_cut c.args.parts.now c.truncate.new.self.items c.args.fresh.now c.merge_all.new.parts.items
    (c.truncate.ensures.items ∙ ap (take (length c.args.fresh.now)) (c.into_vec-merged.ensures ∙ c.replace.ensures.value))
    c.in_ok-merge_all.ensures
