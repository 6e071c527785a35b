use Rattle.std.proofs.Common.{◌≡◌, ℕ, ◌<◌, ◌≤◌, ◌++◌, [], ◌∷◌, length, take, ap, sym, ◌∙◌, arith}
use Rattle.cal_board.specs.Blackboard.{Blackboard, depths, own_depths}
use Rattle.cal_board.specs.Slots.{opened_in}
use Rattle.cal_board.proofs.LimitLemmas.{opened_in-short, take-set_first}
use Rattle.cal_board.proofs.board.BoardWithRoom.depths.Goals as goal

pub overflow_cast-out : goal.overflow_cast-out
overflow_cast-out g c =
    let few = opened_in-short 0 c.self.inside.references c.self.invariant.references in
    let same = ap length c.opened.ensures in
    omega (arith, few, same)

pub returns-clause-depths : goal.returns-clause-depths
returns-clause-depths g c =
    let long : 0 < length c.args.out.now = omega arith in
    let nested = take-set_first c.args.out.now (length c.opened.result.now) long in
    c.add_depths.ensures.added
    ∙ (λ j. (c.add_depths-count.ensures.added ∙ (λ i. nested i ++ own_depths (c.as_slice.ensures i))) j ++ own_depths (c.as_slice-2.ensures j))
    ∙ ap (λ (n : ℕ). n ∷ (own_depths c.self.inside.references ++ own_depths c.self.inside.as_values)) (ap length c.opened.ensures)
    ∙ ap (λ (h : Blackboard g.row.N.Denot). depths h) c.self.view_is
