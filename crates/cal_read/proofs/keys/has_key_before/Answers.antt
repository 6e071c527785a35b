use Rattle.std.proofs.Common.{sym, ◌∙◌, ◌||◌}
use Rattle.cal_read.proofs.FieldLemmas.{has_key_at, has_key_front}
use Rattle.cal_read.proofs.keys.has_key_before.Goals as goal

pub returns-then-branch : goal.returns-then-branch
returns-then-branch c =
    sym (has_key_front c.args.key.now c.args.fields.now c.loop-place.place c.get-field.result c.args.count c.get-field.ensures c.loop-place-test.true (sym c.in_ok-has_key.ensures ∙ c.if-branch.true))

pub loop-place-preserved : goal.loop-place-preserved
loop-place-preserved c =
    has_key_at c.args.fields.now c.loop-place.place c.get-field.result c.get-field.ensures c.args.key.now
    ∙ (λ j. c.loop-place.invariant j || (sym c.in_ok-has_key.ensures ∙ c.if-branch.false) j)
