use Rattle.std.proofs.Common.{◌∙◌}
use Rattle.cal_filter.proofs.MemoLemmas.{found_among}
use Rattle.cal_filter.proofs.attribute_memo.is_among.Goals as goal

pub returns : goal.returns
returns c =
    c.is_ok.ensures.value
    ∙ found_among c.args.places.now c.args.place c.binary_search.result c.requires
    c.binary_search.ensures.position
