use Rattle.std.proofs.Common.{◌≡◌, true, false, sym, ap, ◌∙◌}
use Rattle.cal_rowset.specs.Cells.{is_path}
use Rattle.cal_keys.proofs.TakerLemmas.{taker_named, taker_of_path}
use Rattle.cal_keys.proofs.takers.Takers.named.Goals as goal

pub returns-then-eq : goal.returns-then-eq
returns-then-eq c = λ names h.
    let is : is_path c.args.attribute.now.name ≡ true = ap is_path (sym c.as_str.ensures) ∙ sym c.eq.ensures ∙ c.if-eq.true in
    sym (taker_of_path names c.args.attribute.now is)

pub returns : goal.returns
returns c = λ names h.
    let isnt : is_path c.args.attribute.now.name ≡ false = ap is_path (sym c.as_str.ensures) ∙ sym c.eq.ensures ∙ c.if-eq.false in
    c.copied.ensures ∙ c.get.ensures.value ∙ h.placed c.args.attribute.now.name ∙ sym (taker_named names c.args.attribute.now isnt)
