use Rattle.std.proofs.Common.{◌∙◌, ap, arith, get_or, subst, sym}
use Rattle.cal_keys.specs.Shares.{IsSpanIn}
use Rattle.cal_keys.proofs.ShareLemmas.{no_span, span_in}
use Rattle.cal_keys.proofs.share_lists.ShareLists.push_same.Goals as goal

pub invariant_of-self-2 : goal.invariant_of-self-2
invariant_of-self-2 c =
    let s = c.self.inside in
    let read = c.span_at-span.ensures ∙ ap (λ xs. get_or xs c.args.like.0 no_span) c.deref.ensures.value in (
      omega (arith, c.in_ok-add_span.ensures.short),
      c.add_span.ensures.within s.shares.items c.self.invariant.1
          (subst (IsSpanIn s.shares.items) (sym read) (span_in s.shares.items s.spans.items c.args.like.0 c.self.invariant.1)),
    )
