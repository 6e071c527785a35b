use Rattle.std.proofs.Common.{ℕ, ◌+◌, ◌∙◌, ap, length, sym, arith}
use Rattle.std.proofs.lemmas.List.{get_or_default}
use Rattle.cal_tabfmt.proofs.KeptLemmas.{front-of-drop}
use Rattle.cal_tabfmt.proofs.kept.KeptTexts.end.Goals as goal

pub returns-then-mark-len : goal.returns-then-mark-len
returns-then-mark-len c =
    λ text texts left.
    let at = front-of-drop c.args.self.now.ends.items c.args.mark.place _ _ 0 left.ends in
    absurd (omega (arith, at.0))

pub returns : goal.returns
returns c =
    λ text texts left.
    let ends = c.args.self.now.ends.items in
    let at = front-of-drop ends c.args.mark.place _ _ 0 left.ends in
    c.index.ensures ∙ get_or_default ends c.args.mark.place _ 0 at.0 ∙ at.1 ∙ ap (λ (n : ℕ). n + length text) (sym left.start)
