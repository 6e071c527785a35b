use Rattle.std.proofs.Common.{◌-◌, [], ◌∷◌, ◌++◌, arith, length, ap, ◌∙◌}
use Rattle.cal_keys.proofs.ShareLemmas.{padded_spans, range_none, spans_end, spans_pushed}
use Rattle.cal_keys.proofs.share_lists.add_span.Goals as goal

pub returns-then-span-clause-added : goal.returns-then-span-clause-added
returns-then-span-clause-added c = λ shares.
    spans_end shares c.args.spans.now.items c.args.count c.args.span c.requires
    (range_none shares c.args.span.from c.args.span.to (omega (arith, c.if-span.true)))

pub returns-clause-added : goal.returns-clause-added
returns-clause-added c = λ shares.
    padded_spans shares c.args.spans.now.items c.push.new.self.items c.args.count c.args.span c.requires
    (c.in_ok-push.ensures.items ∙ ap (λ xs. xs ++ c.args.span ∷ []) c.in_ok-pad.ensures.ok)

pub returns-clause-within : goal.returns-clause-within
returns-clause-within c = λ shares all within.
    spans_pushed shares c.args.spans.now.items c.push.new.self.items (c.args.count - length c.args.spans.now.items) c.args.span all within
    (c.in_ok-push.ensures.items ∙ ap (λ xs. xs ++ c.args.span ∷ []) c.in_ok-pad.ensures.ok)
