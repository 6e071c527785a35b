use Rattle.std.proofs.Common.{◌≡◌, ◌+◌, arith, map, ap, ◌∙◌, get_or}
use Rattle.cal_keys.specs.Shares.{spanned, with_nones}
use Rattle.cal_keys.proofs.ShareLemmas.{no_span, pushed_with}
use Rattle.cal_keys.proofs.share_lists.ShareLists.push_with.Goals as goal

pub returns : goal.returns
returns c =
    let s = c.self.inside in
    let now = c.put_list.new.shares.items in
    let e : c.in-Some.count ≡ s.count + 1 = omega arith in
    ap (λ n. with_nones (map (spanned now) c.add_span.new.spans.items) n) e
    ∙ c.in_ok-add_span.ensures.added now
    ∙ pushed_with s.shares.items now s.spans.items s.count c.in_ok-span.span c.span_at.result c.args.like.0 c.args.share c.args.self.now
    c.self.invariant.1 c.put_list.ensures.front (c.span_at.ensures ∙ ap (λ xs. get_or xs c.args.like.0 no_span) c.deref.ensures.value) c.self.view_is
    c.in_ok-span.ensures.spanned
