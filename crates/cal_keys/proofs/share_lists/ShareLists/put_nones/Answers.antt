use Rattle.std.proofs.Common.{◌≤◌, length, map, sym, ap, ◌∙◌, arith}
use Rattle.std.proofs.lemmas.List.{length-map}
use Rattle.cal_keys.specs.Shares.{spanned, with_nones}
use Rattle.cal_keys.proofs.ShareLemmas.{with_nones-more}
use Rattle.cal_keys.proofs.share_lists.ShareLists.put_nones.Goals as goal

pub returns : goal.returns
returns c =
    let s = c.self.inside in
    let lists = map (spanned s.shares.items) s.spans.items in
    let short : length lists ≤ s.count = omega (arith, c.self.invariant.0, length-map s.spans.items (spanned s.shares.items)) in
    sym (with_nones-more lists s.count c.args.count short (omega arith))
    ∙ ap (λ ls. with_nones ls c.args.count) c.self.view_is
