-- How a run keeps boards in a context: by nodes.
use Rattle.std.specs.Prelude.{◌≡◌, ℕ, ◌<◌, ◌≤◌, List, length, true, All}
use Rattle.cal_board.specs.Blackboard.{Blackboard, reply_to}
use Rattle.cal_board.specs.Contexts.{NodeStands}
use Rattle.cal_board.specs.PathBoards.{AreKnown}
use Rattle.cal_board.specs.Standing.{Stands}
use Rattle.cal_board.specs.declared.opened.Opened.{Opened}
use Rattle.cal_board.specs.declared.opened.Slot.{Slot}
use Rattle.cal_board.specs.declared.reply.BoardReply.TheVariants as reply
use Rattle.cal_context.specs.Tree.{Tree}
use Rattle.cal_context.specs.declared.numbers.NodeNumber.{NodeNumber}
use Rattle.cal_run.specs.History.{process_board}
use Rattle.cal_run.specs.Lines.{attr_ref}
use Rattle.cal_run.specs.Snapshots.{Sight}
use Rattle.cal_run.specs.declared.operation.Operation.{Operation}
use Rattle.cal_run.specs.declared.moment.Moment.{Moment}
use Rattle.cal_run.specs.declared.process.Process.{Process}
use Rattle.cal_script.specs.declared.journal.Placed.{Placed}
use Rattle.cal_script.specs.declared.script.Script.{Script}
use Rattle.cal_value.specs.declared.variant.Variant.{Variant}
use Rattle.cal_words.specs.declared.op.OpCode as codes
use Rattle.cal_words.specs.declared.op.OpCode.TheVariants as code

-- an operation's attribute is one of the script's, and so is the value that it opens
abbrev pub IsOpened : Script → codes.OpCode → ℕ → Type 0
IsOpened script code.Begin value = value < length script.values
IsOpened script code.End value = Unit {0}
IsOpened script code.Set value = value < length script.values

pub record HasPlaces (script : Script) (op : Operation) : Type 0 where
  pub attr : op.attr < length script.attributes
  pub value : IsOpened script op.code op.value

-- a board accepts an operation
abbrev pub Accepts : {V : Type 0} → Script → Blackboard V → Operation → Type 0
Accepts script b op = reply_to b op.code (attr_ref script op.attr) ≡ reply.Done

-- the attribute of each open value is one of the script's
pub record IsKnown (script : Script) (b : Blackboard Variant) : Type 0 where
  pub references : All (λ (s : Slot Variant). AreKnown script.attributes s.opened) b.references
  pub as_values : All (λ (s : Slot Variant). AreKnown script.attributes s.opened) b.as_values

-- A board of nodes stands for this board, by which open values a node stands for.
pub record HoldsBy {N : Type 0} (is_node : N → List (Opened Variant) → Type 0) (script : Script)
    (held : Blackboard N) (b : Blackboard Variant) : Type 0 where
  pub stands : Stands is_node held b
  pub known : IsKnown script b

-- the nodes are those of a context
abbrev pub Holds : Tree → Script → Blackboard NodeNumber → Blackboard Variant → Type 0
Holds t script held b = HoldsBy (NodeStands t) script held b

-- for some board
abbrev pub HoldsSome : Tree → Script → Blackboard NodeNumber → Type 0
HoldsSome t script held = (b : Blackboard Variant) × Holds t script held b

-- what the board stood for before, changed so, it stands for now
abbrev pub HoldsThen : (was is : Tree) → Script → (old new : Blackboard NodeNumber)
    → (Blackboard Variant → Blackboard Variant) → Type 0
HoldsThen was is script old new change =
    (b : Blackboard Variant) → Holds was script old b → Holds is script new (change b)

-- The process's board after so many operations of a history.
pub record IsProcess (t : Tree) (script : Script) (history : List Placed) (p : Process)
    : Type 0 where
  pub holds : Holds t script p.board (process_board script history p.count)
  pub within : p.count ≤ length history

-- what a moment shows is what a snapshot sees
pub record Shows {N : Type 0} (is_node : N → List (Opened Variant) → Type 0) (script : Script)
    (m : Moment N) (s : Sight) : Type 0 where
  pub mine : HoldsBy is_node script m.board.now s.mine
  pub process : HoldsBy is_node script m.process.now s.process
  pub readings : m.timed ≡ true → m.readings.now ≡ s.readings
  pub reading : m.reading ≡ s.reading
  pub previous : m.previous ≡ s.previous
