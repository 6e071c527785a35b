use Rattle.std.proofs.Common.{◌≡◌, ◌+◌, ◌<◌, ◌++◌, ◌∷◌, [], length, refl, ap, ◌∙◌, arith}
use Rattle.std.specs.Simd.{first_chunks}
use Rattle.cal_parts.proofs.PartTables.{chunks-push}
use Rattle.cal_parts.proofs.part_table.PartTable.push.Goals as goal
use Rattle.cal_parts.proofs.part_table.PartTable.push.Goals.{else-self-gt0-via-then-self-gt0+else-self-width, else-self-gt0-via-else-self-gt0}

pub returns-clause-ok : goal.returns-clause-ok
returns-clause-ok c =
    let s = c.self.inside in
    let xs = s.parts in
    let ys = c.args.parts.now in
    let w = length c.args.parts.now in
    let count : c.in-Some.count ≡ s.count + 1 = omega (arith, c.in-Some.ensures) in
    let wide : length ys ≡ w = refl in
    let alike : 0 < s.count → s.width ≡ w = λ some. elim c.else-self-gt0.branch [
      | else-self-gt0-via-then-self-gt0+else-self-width w ↦ w.if-self-width.false
      | else-self-gt0-via-else-self-gt0 w ↦ absurd (omega (arith, some, w.if-self-gt0.false))
    ] in
    (λ i. first_chunks w (count i) (c.in_ok-put_all.ensures.ok i))
    ∙ chunks-push s.width w s.count xs ys c.self.invariant wide alike
    ∙ ap (λ ps. ps ++ ys ∷ []) c.self.view_is
