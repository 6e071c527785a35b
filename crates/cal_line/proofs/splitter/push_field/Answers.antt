use Rattle.std.proofs.Common.{inl, inr, sym, ◌∙◌}
use Rattle.cal_line.proofs.SplitSteps.{fields_of-no_field, PushesField-values}
use Rattle.cal_line.proofs.splitter.push_field.Goals as goal
use Rattle.cal_line.proofs.splitter.push_field.Goals.{then-key-start-via-then-key-start, then-key-start-via-else-key-start+then-after-first}

pub returns-then-key-start-clause-refused : goal.returns-then-key-start-clause-refused
returns-then-key-start-clause-refused c = λ _.
    fields_of-no_field c.args.line.now c.args.start c.in-Some.key c.in_ok-end.end c.args.values.now.items c.push_values.new.values.items
    c.in-Some.ensures.span c.in-Some.ensures.start c.in-Some.ensures.read c.in_ok-end.ensures.found c.in_ok-end.ensures.stop
    (elim c.then-key-start.branch [
      | then-key-start-via-then-key-start w ↦ inl w.if-key-start.true
      | then-key-start-via-else-key-start+then-after-first w ↦ inr (sym (c.len-after.ensures ∙ c.push_values.new.values.ok.0) ∙ w.if-after-first.true ∙ c.len-first.ensures ∙ c.args.values.now.ok.0)
    ])

pub returns-clause-found : goal.returns-clause-found
returns-clause-found c =
    rw c.in_ok-push.ensures
    (PushesField-values c.args.line.now c.args.start c.in-Some.key c.len-first.result c.len-after.result c.in_ok-end.end c.args.fields.now.items c.args.values.now.items c.push_values.new.values.items
    c.in-Some.ensures.span c.in-Some.ensures.start c.in-Some.ensures.read c.in_ok-end.ensures.found c.in_ok-end.ensures.stop (c.len-first.ensures ∙ c.args.values.now.ok.0) (c.len-after.ensures ∙ c.push_values.new.values.ok.0) c.if-key-start.false c.if-after-first.false)
