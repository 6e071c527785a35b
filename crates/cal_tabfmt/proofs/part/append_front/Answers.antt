use Rattle.std.proofs.Common.{ℕ, List, [], ◌∷◌, ◌++◌, ap, ◌∙◌, append_assoc}
use Rattle.std.proofs.lemmas.Result.{on_ok_weaker}
use Rattle.cal_line.specs.Escapes.{escaped}
use Rattle.cal_tabfmt.proofs.part.append_front.Goals as goal

pub returns : goal.returns
returns c =
    on_ok_weaker c.push_str.result
    (λ pushed. pushed ∙ ap (λ (t : List ℕ). t ++ 61 ∷ []) (rw c.as_str.ensures at c.in_ok-append_written.ensures) ∙ append_assoc c.args.out.now (escaped c.args.header.now) (61 ∷ []))
    c.push_str.ensures.ok
