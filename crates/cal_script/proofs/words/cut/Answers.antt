use Rattle.std.proofs.Common.{◌≡◌, ℕ, ◌+◌, List, ◌∷◌, length, take, drop, get_or, sym, ap, ◌∙◌, arith}
use Rattle.std.proofs.lemmas.Bool.{eqb-true}
use Rattle.std.proofs.lemmas.Str.{IsCharBoundary-after_ascii}
use Rattle.indexmap.proofs.MapLemmas.{take_zero}
use Rattle.cal_script.specs.Lines.{pieces}
use Rattle.cal_script.proofs.Cuts.{pieces_at, pieces_of_all}
use Rattle.cal_script.proofs.words.cut.Goals as goal

pub range_from-requires : goal.range_from-requires
range_from-requires c = λ _.
    let mark : get_or c.as_bytes.result.now c.in-Some.end 0 ≡ c.args.mark = eqb-true _ _ c.in-Some.ensures.1 in
    let at : get_or c.args.text.now c.in-Some.end 0 ≡ c.args.mark = rw c.as_bytes.ensures.value at mark in
    IsCharBoundary-after_ascii c.args.text.now c.in-Some.end c.utf8.text (omega (arith, c.in-Some.ensures.0.high, ap length c.as_bytes.ensures.value)) (omega (arith, at, c.requires))

pub returns-in-Some-clause-pieces : goal.returns-in-Some-clause-pieces
returns-in-Some-clause-pieces c =
    let front : take c.in-Some.end c.args.text.now ≡ c.range.result.now = take_zero c.args.text.now c.in-Some.end ∙ sym c.range.ensures.value in
    let behind : drop (c.in-Some.end + 1) c.args.text.now ≡ c.range_from.result.now = sym c.range_from.ensures.value in
    pieces_at c.args.mark c.as_bytes.result.now c.args.text.now c.in-Some.end c.as_bytes.ensures.value c.in-Some.ensures.0 c.in-Some.ensures.1
    ∙ ap (λ (first : List ℕ). first ∷ pieces c.args.mark (drop (c.in-Some.end + 1) c.args.text.now)) front
    ∙ ap (λ (rest : List ℕ). c.range.result.now ∷ pieces c.args.mark rest) behind

pub returns-in-None-clause-pieces : goal.returns-in-None-clause-pieces
returns-in-None-clause-pieces c = pieces_of_all c.args.mark c.as_bytes.result.now c.args.text.now c.as_bytes.ensures.value c.in-None.ensures
