use Rattle.std.proofs.Common.{◌≡◌, ◌==◌, false, [], get_or, sym, ap, ◌∙◌, arith}
use Rattle.std.specs.List.{list_any}
use Rattle.std.proofs.lemmas.Grind.{common_steps}
use Rattle.cal_filter.proofs.MemoLemmas.{read-marked}
use Rattle.cal_filter.proofs.attribute_memo.AttributeMemo.is_none.Goals as goal

pub returns : goal.returns
returns c = λ is n.
    let none : c.self.inside.places.items ≡ [] = grind (arith, common_steps, is) in
    ap (λ xs. get_or xs n false) (sym c.self.view_is)
    ∙ read-marked c.self.inside.places.items c.self.inside.count n c.self.invariant
    ∙ ap (list_any (λ place. place == n)) none
