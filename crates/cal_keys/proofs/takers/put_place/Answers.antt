use Rattle.std.proofs.Common.{Some, sym, ◌∙◌}
use Rattle.std.specs.Prelude.{cond}
use Rattle.std.specs.Ordering.{eq_by_cmp}
use Rattle.indexmap.specs.IndexMap.{get}
use Rattle.cal_value.specs.Texts.{text_cmp}
use Rattle.cal_keys.proofs.TakerLemmas.{placed_again, placed_next}
use Rattle.cal_keys.proofs.takers.put_place.Goals as goal

pub returns-then-contains_key : goal.returns-then-contains_key
returns-then-contains_key c = λ names at h.
    placed_again names c.args.name.now c.args.places.now h (sym c.contains_key.ensures ∙ c.if-contains_key.true)

pub returns : goal.returns
returns c = λ names at h.
    placed_next names c.args.name.now c.args.places.now c.insert.new.self h (sym c.contains_key.ensures ∙ c.if-contains_key.false)
    (λ x. c.in_ok-insert.ensures.updates.0 x
    ∙ (λ i. cond (eq_by_cmp text_cmp (c.in_ok-copy.ensures i) x) (Some ((c.in-Ok.ensures.1 ∙ at) i)) (get (eq_by_cmp text_cmp) c.args.places.now x)))
