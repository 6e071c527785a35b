use Rattle.std.proofs.Common.{List, ◌≡◌, subst, sym}
use Rattle.std.specs.Option.{option_copied}
use Rattle.cal_context.specs.Children.{AddsLinked}
use Rattle.cal_context.specs.declared.numbers.NodeNumber.{NodeNumber}
use Rattle.cal_board.proofs.ContextLemmas.{IsAtParent, child_stands}
use Rattle.cal_board.proofs.SlotLemmas.{IfOk-then}
use Rattle.cal_board.specs.Contexts.{NodeStands}
use Rattle.cal_board.specs.Standing.{IsParent}
use Rattle.cal_board.specs.declared.opened.Opened.{Opened}
use Rattle.cal_value.specs.declared.variant.Variant.{Variant}
use Rattle.cal_board.proofs.maker.ContextNodeMakerValueNumberNodeNumber.child.Goals as goal
use Rattle.cal_board.proofs.maker.ContextNodeMakerValueNumberNodeNumber.child.Goals.{in-Some, in-None}

pub returns-clause-made : goal.returns-clause-made
returns-clause-made c =
    let old = c.args.self.now in
    let new = c.child_by_number.new.self in
    let p = c.match-parent.parent in
    let at : IsAtParent (option_copied c.args.parent) p = elim c.match-parent.branch [
      | in-Some w ↦ subst (λ o. IsAtParent (option_copied o) p) (sym w.in-Some.is) w.parent-is
      | in-None w ↦ subst (λ o. IsAtParent (option_copied o) p) (sym w.in-None.is) w.parent-is
    ] in
    IfOk-then c.child_by_number.result
    (λ (n : NodeNumber) (added : AddsLinked old (record { parent = p; attribute = record { 0 = c.args.attribute }; value = c.args.value }) new n)
    (path : List (Opened Variant)) (s : IsParent (NodeStands old) (option_copied c.args.parent) path).
    child_stands c.has_each_once.ensures c.child_by_number.ensures.grows (option_copied c.args.parent) p _ _ n path at added.child s)
    c.child_by_number.ensures.added
