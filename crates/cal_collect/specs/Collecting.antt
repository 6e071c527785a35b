-- What a collector has merged.
use Rattle.std.specs.Prelude.{◌≡◌, ℕ, ◌+◌, ◌≤◌, ◌^◌, Some, List, [], length, map}
use Rattle.std.specs.Prelude.{slice_get, slice_index_or, slice_set}
use Rattle.cal_collect.specs.Parts.{AreMergesOf, snapshots_of, tables_for}
use Rattle.cal_collect.specs.declared.collector.PartCollector.{PartCollector}
use Rattle.cal_collect.specs.declared.law.PartLaw.{PartLaw}
use Rattle.cal_collect.specs.declared.part.Part.{Part}
use Rattle.cal_collect.specs.declared.sender.PartSender.{PartSender}
use Rattle.cal_mail.specs.Ends.{received_by, senders_of}
use Rattle.cal_mail.specs.Messages.{parts_of}
use Rattle.cal_mail.specs.declared.mail.Received.{Received}
use Rattle.cal_mail.specs.declared.sender.Sender.{Sender}
use Rattle.cal_table.specs.Tables.{Same, TableValue, merged_tables}
use Rattle.cal_table.specs.declared.shape.TableShape.{TableShape}

-- the table of a part's channel is of the part's shape, and has room for it
pub record FitsAt (tables : List TableValue) (part : Part) : Type 0 where
  pub table : TableValue
  pub at : slice_get tables part.channel ≡ Some table
  pub shape : part.table.shape ≡ table.shape
  pub few : table.snapshots + part.table.snapshots ≤ 2 ^ 26

-- a part was merged into the table of its channel
pub record MergedAt (old : List TableValue) (part : Part) (new : List TableValue) : Type 0 where
  pub was : TableValue
  pub is : TableValue
  pub at : slice_get old part.channel ≡ Some was
  pub put : new ≡ slice_set old part.channel is
  pub merged : Same is (merged_tables was part.table)

-- What came of each of 64 senders at most: parts for each channel that stand for 2^20 snapshots
-- at most. All were merged into the tables of their channels.
pub record AreMerged (shapes : List TableShape) (senders : ℕ) (received : List (Received Part))
    (tables : List TableValue) : Type 0 where
  pub sents : List (List Part)
  pub long : length sents ≡ senders
  pub few_senders : senders ≤ 64
  pub came : (number : ℕ) → parts_of number received ≡ slice_index_or sents number []
  pub few : (number channel : ℕ)
      → snapshots_of (tables_for channel (slice_index_or sents number [])) ≤ 2 ^ 20
  pub merges : AreMergesOf shapes sents tables

module _ {Q S : Type 0} where
  -- the collector has merged all that came
  abbrev pub HasMerged : List TableShape → PartCollector Q S → Type 0
  HasMerged shapes collector = AreMerged shapes (senders_of collector.collector)
      (received_by collector.collector) collector.tables.items

  -- the senders of the mailbox
  abbrev pub senders_in : List (PartSender Q S) → List (Sender Q Part (PartLaw S))
  senders_in senders = map (λ (one : PartSender Q S). one.sender) senders
