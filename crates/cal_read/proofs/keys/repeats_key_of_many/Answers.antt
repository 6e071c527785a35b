use Rattle.std.proofs.Common.{length, sym, ap, ◌∙◌, subst}
use Rattle.cal_context.specs.Lists.{Adds}
use Rattle.cal_read.proofs.FieldLemmas.{keys_found, keys_none}
use Rattle.cal_read.proofs.keys.repeats_key_of_many.Goals as goal

pub returns-then-as_slice-place : goal.returns-then-as_slice-place
returns-then-as_slice-place c =
    sym (keys_found c.args.fields.now c.loop-place.place c.get-field.result c.get-field.ensures c.loop-place.keys c.intern.new.self c.loop-place.invariant.keys
    (subst (λ k. Adds c.loop-place.keys k c.intern.new.self) (c.in_ok-to_text.ensures ∙ c.key.ensures) c.in_ok-intern.ensures.interned.adds)
    (ap length (sym c.as_slice.ensures.items) ∙ c.if-as_slice-place.true))

pub loop-place-preserved : goal.loop-place-preserved
loop-place-preserved c =
    let so = keys_none c.args.fields.now c.loop-place.place c.get-field.result c.get-field.ensures c.loop-place.keys c.intern.new.self c.loop-place.invariant.keys
    (subst (λ k. Adds c.loop-place.keys k c.intern.new.self) (c.in_ok-to_text.ensures ∙ c.key.ensures) c.in_ok-intern.ensures.interned.adds)
    (λ short. c.if-as_slice-place.false (ap length c.as_slice.ensures.items ∙ short)) c.loop-place.invariant.none in
    record { keys = so.0; none = so.1 }
