-- What a query sees of what was read, and the layout of its answer.
use Rattle.std.proofs.Common.{◌≡◌, ℕ, Bool, true, false, List, [], map, subst}
use Rattle.std.specs.Prelude.{filter}
use Rattle.cal_base.specs.Change.{Change}
use Rattle.cal_base.specs.ReadEnds.{ReadsAll}
use Rattle.cal_context.specs.Snapshots.{meaning}
use Rattle.cal_context.specs.Taking.{TakesMore}
use Rattle.cal_context.specs.Tree.{Tree}
use Rattle.cal_filter.specs.Conditions.{where_holds}
use Rattle.cal_ql.specs.declared.query.Cond.{Cond}
use Rattle.cal_ql.specs.declared.query.Query.{Query}
use Rattle.cal_value.specs.Flat.{flat}
use Rattle.cal_value.specs.declared.record.Rec.{Rec}
use Rattle.cal_value.specs.declared.record.Records.{Records}
use Rattle.cal_read.specs.Stream.{IsStream, IsStreamOf, Stream}
use Rattle.cal_query.specs.Joining.{rows_seen, with_entries}
use Rattle.cal_query.specs.Keeping.{HasKept}
use Rattle.cal_query.specs.Layout.{LaysOut, LaysOutWhere, answer_text}
use Rattle.cal_query.specs.Seeing.{HasSeen, SeesRows}
use Rattle.cal_query.specs.Streaming.{HasFinished}
use Rattle.cal_query.specs.declared.joining.Kept.{Kept}
use Rattle.cal_query.specs.declared.seeing.Seen.{Seen}
use Rattle.cal_query.specs.declared.streaming.Finished.{Finished}

abbrev records_of : Stream → Records
records_of s = record { rows = s.rows; globals = s.globals }

stream_of : (bytes : List ℕ) (s : Stream) → IsStream bytes s → IsStreamOf bytes (records_of s)
stream_of bytes s is = record { nodes = s.nodes; stream = is }

module _ {T : Type 0} (has_taken : T → Tree → List Rec → Type 0) (limit : ℕ) (input : Change)
    (bytes : List ℕ) where
  -- the rows of a stream are seen as they are
  pub sees_plain : (f : Finished T) → ReadsAll limit input bytes → HasFinished has_taken f bytes
      → SeesRows false limit input
      (HasSeen has_taken (record { context = f.context; taker = f.taker }))
  sees_plain f reads finished = record {
    bytes = bytes;
    reads = reads;
    records = records_of finished.stream;
    stream = stream_of bytes finished.stream finished.is;
    is = finished.rows;
  }

  -- rows that were kept are seen with the globals behind each
  pub sees_joined : (f : Finished (Kept T)) (seen : Seen T) → ReadsAll limit input bytes
      → HasFinished (HasKept has_taken) f bytes
      → TakesMore (has_taken f.taker.waiting f.context) (HasSeen has_taken seen)
      (map (with_entries (flat (meaning f.context f.globals)))
      (map (meaning f.context) f.taker.snapshots.items))
      → SeesRows true limit input (HasSeen has_taken seen)
  sees_joined f seen reads finished takes = record {
    bytes = bytes;
    reads = reads;
    records = records_of finished.stream;
    stream = stream_of bytes finished.stream finished.is;
    is =
        subst (λ (rows : List Rec). has_taken seen.taker seen.context rows)
        (λ j. map (with_entries (flat (finished.globals j))) (finished.rows.mean j))
        (takes [] finished.rows.waits);
  }

module _ (join : Bool) (limit : ℕ) (input : Change) where
  pub sees_what : (P Q : List Rec → Type 0) → ((rows : List Rec) → P rows → Q rows)
      → SeesRows join limit input P → SeesRows join limit input Q
  sees_what P Q then sees = record {
    bytes = sees.bytes;
    reads = sees.reads;
    records = sees.records;
    stream = sees.stream;
    is = then (rows_seen join sees.records) sees.is;
  }

  -- what is printed of the rows that are seen is laid out
  pub lays_out : (query : Query) (text : List ℕ) (P : List Rec → Type 0)
      → ((rows : List Rec) → P rows → text ≡ answer_text query rows)
      → SeesRows join limit input P → LaysOut query join limit input text
  lays_out query text P then sees = record {
    bytes = sees.bytes;
    reads = sees.reads;
    layout = record {
      records = sees.records;
      stream = sees.stream;
      is = then (rows_seen join sees.records) sees.is;
    };
  }

-- and so is what is printed of the rows of which conditions hold
pub lays_out_where : (conditions : List Cond) (limit : ℕ) (input : Change) (query : Query)
    (text : List ℕ) (P : List Rec → Type 0)
    → ((rows : List Rec) → P rows
    → text ≡ answer_text query (filter (where_holds conditions) rows))
    → SeesRows false limit input P → LaysOutWhere conditions query limit input text
lays_out_where conditions limit input query text P then sees = record {
  bytes = sees.bytes;
  reads = sees.reads;
  layout = record {
    records = sees.records;
    stream = sees.stream;
    is = then sees.records.rows sees.is;
  };
}
