use Rattle.std.proofs.Common.{length, sym, ap, ◌∙◌}
use Rattle.cal_filter.proofs.MemoLemmas.{length-marked}
use Rattle.cal_filter.proofs.attribute_memo.AttributeMemo.len.Goals as goal

pub returns : goal.returns
returns c =
    sym (length-marked c.self.inside.places.items c.self.inside.count) ∙ ap length c.self.view_is
