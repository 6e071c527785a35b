-- What all threads of a run share: what is made of its script before the first line.
use Rattle.std.specs.Prelude.{◌≡◌, ℕ, Bool, List, All, length, map}
use Rattle.std.specs.declared.random_state.RandomState.{RandomState}
use Rattle.cal_book.specs.Seats.{shape_of as shape_of_book, threads_of}
use Rattle.cal_plog.specs.Seats as history
use Rattle.cal_replay.specs.Flushing.{BookOf}
use Rattle.cal_replay.specs.Workers.{IsShared, script_of}
use Rattle.cal_run.specs.Numbers.{AreNumbered}
use Rattle.cal_run.specs.RunAttributes.{AreOfRun}
use Rattle.cal_script.specs.Shapes.{history_shape, tree_shape}
use Rattle.cal_script.specs.declared.script.Channel.{Channel}
use Rattle.cal_script.specs.declared.script.Script.{Script}
use Rattle.cal_start.specs.declared.run.Run.{Run}
use Rattle.cal_table.specs.Shapes.{shape_of}
use Rattle.cal_table.specs.declared.shape.TableShape.{TableShape}
use Rattle.cal_tree.specs.Seats as nodes
use Rattle.cal_value.specs.declared.attribute.Attribute.{Attribute}

-- the shape of a channel's tables, with attributes by their numbers in a list
abbrev pub shape_for : RandomState → List Attribute → Channel → TableShape
shape_for hashers attributes channel =
    shape_of hashers channel.query.keys channel.query.values attributes

-- one for each channel of a script
abbrev pub shapes_for : RandomState → List Attribute → Script → List TableShape
shapes_for hashers attributes script = map (shape_for hashers attributes) script.channels

-- Books are made for so many threads, and their tables have these shapes, one for each book.
pub record AreBooks (threads : ℕ) (shapes : List TableShape) (books : List BookOf) : Type 0 where
  pub made : map shape_of_book books ≡ shapes
  pub room : All (λ (book : BookOf). threads_of book ≡ threads) books

-- Workers share what is a run's; the tree and the history have the layouts of the script; the
-- attributes and values of the script, and the attributes that services add, have their numbers in
-- the context, which has no other; and each channel has the shape of its tables by these
-- attributes, and its book for all threads.
pub record IsRun (run : Run) : Type 0 where
  pub shared : IsShared run.shared
  pub tree : (nodes.plan_of run.shared.common.tree).shape ≡ tree_shape (script_of run.shared)
  pub history : (history.plan_of run.shared.common.log).shape
      ≡ history_shape (script_of run.shared)
  pub numbered : AreNumbered run.context (script_of run.shared) run.numbers
  pub only : AreOfRun (script_of run.shared) run.context.attributes
  pub hashers : RandomState
  pub shapes : run.shapes.items
      ≡ shapes_for hashers run.context.attributes (script_of run.shared)
  pub books : AreBooks (length (script_of run.shared).threads) run.shapes.items run.books.items

-- the run of a script, with readings off real clocks or by the script's
pub record IsRunOf (script : Script) (real : Bool) (run : Run) : Type 0 where
  pub is : IsRun run
  pub script_is : script_of run.shared ≡ script
  pub real_is : run.shared.real ≡ real
