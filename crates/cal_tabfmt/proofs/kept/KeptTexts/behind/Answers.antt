use Rattle.std.proofs.Common.{refl, ◌∙◌, arith}
use Rattle.std.proofs.lemmas.List.{get_or_default}
use Rattle.cal_tabfmt.proofs.KeptLemmas.{AreLeft-behind, front-of-drop}
use Rattle.cal_tabfmt.proofs.kept.KeptTexts.behind.Goals as goal

pub returns-then-mark-len : goal.returns-then-mark-len
returns-then-mark-len c =
    λ text texts left.
    let at = front-of-drop c.args.self.now.ends.items c.args.mark.place _ _ 0 left.ends in
    absurd (omega (arith, at.0))

pub returns : goal.returns
returns c =
    λ text texts left.
    let ends = c.args.self.now.ends.items in
    let at = front-of-drop ends c.args.mark.place _ _ 0 left.ends in
    AreLeft-behind c.args.self.now c.args.mark _ text texts left refl (c.index.ensures ∙ get_or_default ends c.args.mark.place _ 0 at.0)
