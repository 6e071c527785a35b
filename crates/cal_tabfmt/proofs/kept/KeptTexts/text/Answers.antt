use Rattle.std.proofs.Common.{ℕ, ◌+◌, ◌∷◌, ◌∙◌, ap, length}
use Rattle.std.specs.List.{concat}
use Rattle.cal_tabfmt.proofs.KeptLemmas.{All-rest, concat-utf8}
use Rattle.cal_tabfmt.proofs.kept.KeptTexts.text.Goals as goal

pub returns : goal.returns
returns c =
    λ text texts left.
    c.part.ensures left.front text (concat texts) (c.as_str.ensures ∙ left.all) left.start
    (c.end.ensures text texts left ∙ ap (λ (n : ℕ). n + length text) left.start)
    (concat-utf8 (text ∷ texts) left.utf8) (concat-utf8 texts (All-rest text texts left.utf8))
