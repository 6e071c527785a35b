use Rattle.std.proofs.Common.{◌≡◌, ℕ, ◌-◌, take, ap, ◌∙◌, arith}
use Rattle.std.proofs.lemmas.List.{take-replicate}
use Rattle.cal_tabfmt.proofs.EndLemmas.{spaces-boundary}
use Rattle.cal_tabfmt.proofs.ends.first_of.Goals as goal

pub range-requires-clause-end_boundary : goal.range-requires-clause-end_boundary
range-requires-clause-end_boundary c = spaces-boundary c.args.blank.now 64 c.args.count c.requires.blank c.requires.count

pub returns : goal.returns
returns c =
    let same : c.args.count - 0 ≡ c.args.count = omega arith in
    c.range.ensures.value
    ∙ ap (λ (n : ℕ). take n c.args.blank.now) same
    ∙ ap (take c.args.count) c.requires.blank
    ∙ take-replicate c.args.count 64 32 c.requires.count
