use Rattle.std.proofs.Common.{ℕ, ◌∷◌, [], ◌++◌, ap, ◌∙◌}
use Rattle.cal_tabfmt.proofs.KeptLemmas.{Keeps-push}
use Rattle.cal_tabfmt.proofs.kept.KeptTexts.push.Goals as goal

pub returns : goal.returns
returns c =
    λ texts kept.
    Keeps-push c.args.self.now _ texts c.args.text.now kept c.utf8.text c.in_ok-push_str.ensures.ok
    (c.in_ok-push.ensures.items ∙ ap (λ (n : ℕ). c.args.self.now.ends.items ++ n ∷ []) c.len.ensures)
