-- What threads have taken in a channel, by the parts that they gave to its book and by the tables
-- that they have left.
use Rattle.std.specs.Prelude.{◌≡◌, ℕ, List, ◌++◌, Some, length, slice_get}
use Rattle.std.specs.List.{AllZip}
use Rattle.cal_book.specs.declared.view.Account.{Account}
use Rattle.cal_channel.specs.Channels.{Counts}
use Rattle.cal_closing.specs.Parts.{AreOfShape}
use Rattle.cal_once.specs.declared.seat.RowSeat.{RowSeat}
use Rattle.cal_replay.specs.Channels.{joined}
use Rattle.cal_script.specs.declared.script.Script.{Script}
use Rattle.cal_table.specs.Tables.{TableValue}
use Rattle.cal_table.specs.declared.shape.TableShape.{TableShape}
use Rattle.cal_tree.specs.declared.tree.Tree.{Tree}
use Rattle.cal_value.specs.declared.attribute.Attribute.{Attribute}
use Rattle.cal_value.specs.declared.record.Rec.{Rec}
use Rattle.cal_words.specs.declared.sort.NodeSort.{NodeSort}

-- By the attributes of a run's numbers, by its script, and by what a seat knows of the tree:
module _ (attributes : List Attribute) (script : Script) (tree : Tree)
    (seat : RowSeat NodeSort) (shape : TableShape) where
  -- A thread has taken exactly these records: each part that it gave stands for a stretch of them,
  -- one behind another, and the table that it has left for the rest. All are of one shape.
  pub record IsShare (given : List TableValue) (left : TableValue) (taken : List Rec) : Type 0
    where
      pub flushed : List (List Rec)
      pub unflushed : List Rec
      pub whole : joined flushed ++ unflushed ≡ taken
      pub parts : AllZip (Counts attributes script tree seat) given flushed
      pub rest : Counts attributes script tree seat left unflushed
      pub made : AreOfShape shape given
      pub left_made : left.shape ≡ shape

  -- of each thread of a run what it has done at the book, its table, and what it has taken
  pub record AreShares (accounts : List (Account TableValue)) (lefts : List TableValue)
      (takens : List (List Rec)) : Type 0 where
    pub lefts_are : length lefts ≡ length accounts
    pub takens_are : length takens ≡ length accounts
    pub each : (k : ℕ) (account : Account TableValue) (left : TableValue) (taken : List Rec)
        → slice_get accounts k ≡ Some account → slice_get lefts k ≡ Some left
        → slice_get takens k ≡ Some taken → IsShare account.given left taken
