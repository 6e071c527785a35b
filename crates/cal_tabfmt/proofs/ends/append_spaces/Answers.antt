use Rattle.std.proofs.Common.{◌≡◌, ℕ, ◌+◌, ◌-◌, List, ◌++◌, ap, ◌∙◌, append_assoc, arith}
use Rattle.std.proofs.lemmas.List.{replicate-append-replicate}
use Rattle.std.proofs.lemmas.Result.{on_ok_weaker}
use Rattle.cal_tabfmt.specs.Grid.{spaces}
use Rattle.cal_tabfmt.proofs.ends.append_spaces.Goals as goal

pub loop-left-preserved : goal.loop-left-preserved
loop-left-preserved c =
    let n = c.loop-left.left - 64 in
    let is : 64 + n ≡ c.loop-left.left = omega (arith, c.loop-left-test.true) in
    ap (λ (text : List ℕ). text ++ spaces n) c.in_ok-push_str.ensures.ok
    ∙ append_assoc c.loop-left.out (spaces 64) (spaces n)
    ∙ ap (λ (text : List ℕ). c.loop-left.out ++ text) (replicate-append-replicate 64 n 32)
    ∙ ap (λ (k : ℕ). c.loop-left.out ++ spaces k) is
    ∙ c.loop-left.invariant

pub returns : goal.returns
returns c =
    on_ok_weaker c.push_str-2.result
    (λ written. written ∙ ap (λ (text : List ℕ). c.loop-left.out ++ text) c.first_of.ensures ∙ c.loop-left.invariant) c.push_str-2.ensures.ok
