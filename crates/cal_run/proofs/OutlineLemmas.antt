-- An operation does to the outline of a board what it does to the board.
use Rattle.std.proofs.Common.{◌≡◌, Some, slice_get, subst, sym, refl}
use Rattle.std.proofs.lemmas.Option.{get_or_from_slice_get}
use Rattle.cal_board.proofs.StandingLemmas.{ended-Stands}
use Rattle.cal_board.specs.Blackboard.{Blackboard, board_after, ended}
use Rattle.cal_board.specs.declared.attr.AttrRef.{AttrRef}
use Rattle.cal_run.specs.History.{board_with}
use Rattle.cal_run.specs.Lines.{attr_ref, value_of}
use Rattle.cal_context.specs.Tree.{no_value}
use Rattle.cal_run.specs.Noting.{Outlines, OutlinesThen}
use Rattle.cal_run.specs.declared.operation.Operation.{Operation}
use Rattle.cal_run.specs.declared.outline.Nothing.{Nothing}
use Rattle.cal_script.specs.declared.script.Script.{Script}
use Rattle.cal_value.specs.declared.variant.Variant.{Variant}
use Rattle.cal_words.specs.declared.op.OpCode as codes
use Rattle.cal_words.specs.declared.op.OpCode.TheVariants as code

-- the outline of a board is one of the changed board after the board's own call
outlined : (script : Script) (held new : Blackboard Nothing) (op : Operation)
    (c : codes.OpCode) (a : AttrRef) (v : Variant) → op.code ≡ c → a ≡ attr_ref script op.attr
    → v ≡ value_of script op → OutlinesThen held new (λ b. board_after b c a v v)
    → OutlinesThen held new (λ b. board_with script b op)
outlined script held new op c a v ec ea ev after b is =
    subst (Outlines new) (λ j. board_after b (sym ec j) (ea j) (ev j) (ev j)) (after b is)

pub ended-outlined : (script : Script) (held new : Blackboard Nothing) (op : Operation)
    (a : AttrRef) → op.code ≡ code.End → a ≡ attr_ref script op.attr → new ≡ ended held a
    → OutlinesThen held new (λ b. board_with script b op)
ended-outlined script held new op a ec ea after =
    outlined script held new op code.End a (value_of script op) ec ea refl
    (λ b is. subst (λ (h : Blackboard Nothing). Outlines h
    (board_after b code.End a (value_of script op) (value_of script op)))
    (sym after) (ended-Stands (λ _ _. Unit {0}) held b a (value_of script op) is))

-- the value that an operation opens stands at its place
pub value_there : (script : Script) (op : Operation) (v : Variant)
    → slice_get script.values op.value ≡ Some v → v ≡ value_of script op
value_there script op v is = sym (get_or_from_slice_get script.values op.value v no_value is)
