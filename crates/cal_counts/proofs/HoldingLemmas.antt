-- Operations are done to a board one after another, and what it holds behind each is held.
use Rattle.std.proofs.Common.{◌≡◌, ℕ, ◌+◌, ◌<◌, ◌≤◌, List, [], ◌++◌, length, get_or, drop, map}
use Rattle.std.proofs.Common.{refl, sym, subst}
use Rattle.std.specs.Prelude.{Option}
use Rattle.cal_board.specs.Blackboard.{Blackboard, nothing_open}
use Rattle.cal_context.proofs.CallerLemmas.{Grows-refl}
use Rattle.cal_context.specs.Tree.{Tree}
use Rattle.cal_context.specs.declared.numbers.NodeNumber.{NodeNumber}
use Rattle.cal_run.proofs.LineLemmas.{nothing-holds}
use Rattle.cal_run.proofs.PathLemmas.{held_from-drop, held_from-end, holds-both, holds-none}
use Rattle.cal_run.specs.Held.{Holds, HoldsThen}
use Rattle.cal_run.specs.History.{board_placed}
use Rattle.cal_run.specs.Holding.{HoldsPaths}
use Rattle.cal_run.specs.Paths.{held_behind, held_from}
use Rattle.cal_run.specs.declared.operation.Operation.{Operation}
use Rattle.cal_script.specs.declared.script.Script.{Script}
use Rattle.cal_value.specs.declared.attribute.Entry.{Entry}
use Rattle.cal_value.specs.declared.variant.Variant.{Variant}

-- A board of nodes is kept behind some operations: what was held behind those is held, and makes,
-- with what is held behind those that are left, all paths.
pub record IsHeldSoFar (script : Script) (was is : Tree) (old new : List NodeNumber)
    (board : Blackboard NodeNumber) (left : List (Option Operation)) (all : List (List Entry))
    : Type 0 where
  pub b : Blackboard Variant
  pub some : List (List Entry)
  pub holds : Holds is script board b
  pub held : HoldsPaths was is old new some
  pub whole : some ++ held_from script b left ≡ all

-- before the first operation
pub held-start : (script : Script) (t : Tree) (nodes : List NodeNumber)
    (board : Blackboard NodeNumber) (left : List (Option Operation)) → board ≡ nothing_open
    → IsHeldSoFar script t t nodes nodes board left (held_from script nothing_open left)
held-start script t nodes board left empty = record {
  b = nothing_open;
  some = [];
  holds = subst (λ (h : Blackboard NodeNumber). Holds t script h nothing_open) (sym empty)
      (nothing-holds t script);
  held = holds-none (Grows-refl t) nodes;
  whole = refl;
}

module _ {A : Type 0} (script : Script) (f : A → Option Operation) (xs : List A) (i : ℕ) where
  -- behind one operation more
  pub held-more : (x : A) (op : Option Operation) (was mid is : Tree)
      (old now new : List NodeNumber) (before after : Blackboard NodeNumber)
      (all : List (List Entry))
      → x ≡ get_or xs i x → i < length xs → op ≡ f x
      → HoldsThen mid is script before after (λ b. board_placed script b op)
      → ((b : Blackboard Variant) → Holds mid script before b
      → HoldsPaths mid is now new (held_behind script b op))
      → IsHeldSoFar script was mid old now before (map f (drop i xs)) all
      → IsHeldSoFar script was is old new after (map f (drop (i + 1) xs)) all
  held-more x op was mid is old now new before after all at below same changed held so_far =
      record {
        b = board_placed script so_far.b op;
        some = so_far.some ++ held_behind script so_far.b op;
        holds = changed so_far.b so_far.holds;
        held = holds-both was mid is old now new so_far.some (held_behind script so_far.b op)
            so_far.held (held so_far.b so_far.holds);
        whole = held_from-drop script f xs i x at below op same so_far.b so_far.some all
            so_far.whole;
      }

  -- behind the last
  pub held-end : (was is : Tree) (old new : List NodeNumber) (board : Blackboard NodeNumber)
      (all : List (List Entry)) → length xs ≤ i
      → IsHeldSoFar script was is old new board (map f (drop i xs)) all
      → HoldsPaths was is old new all
  held-end was is old new board all past so_far =
      subst (HoldsPaths was is old new)
      (held_from-end script f xs i so_far.b so_far.some all past so_far.whole) so_far.held
