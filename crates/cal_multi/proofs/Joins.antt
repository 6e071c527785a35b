-- Files that are joined, one more at a time, up to the first that goes wrong.
use Rattle.std.proofs.Common.{◌≡◌, ℕ, zero, suc, List, [], ◌∷◌, ◌++◌, length}
use Rattle.std.proofs.Common.{refl, sym, ap, ◌∙◌, subst, arith, append-nil}
use Rattle.std.specs.Prelude.{All, Option, None, Some, Result, Ok, Err, IfErr, slice_get}
use Rattle.std.specs.List.{AllZip}
use Rattle.std.proofs.lemmas.List.{take_at}
use Rattle.std.proofs.lemmas.List.Concat.{flat_map-append}
use Rattle.std.proofs.lemmas.Slice.Zip.{all_zipped_more}
use Rattle.cal_engine.specs.Standing.{HasFolded}
use Rattle.cal_engine.specs.declared.snapshot_fold.SnapshotFold.{SnapshotFold}
use Rattle.cal_ql.specs.declared.query.Query.{Query}
use Rattle.cal_query.specs.Streaming.{FallsAt}
use Rattle.cal_query.specs.Wholes.{HasFoldedWhole}
use Rattle.cal_query.specs.declared.end.RowsEnd.{RowsEnd}
use Rattle.cal_query.specs.declared.seeing.Seen.{Seen}
use Rattle.cal_read.specs.Stream.{IsStreamOf}
use Rattle.cal_value.specs.declared.record.Rec.{Rec}
use Rattle.cal_value.specs.declared.record.Records.{Records}
use Rattle.cal_multi.specs.Many.{IsSound, StopsMany, rows_of_all}
use Rattle.cal_multi.specs.Shares.{ComesTo, HaveJoined, IsJoined, StopsAt}
use Rattle.cal_multi.specs.declared.end.ManyEnd as ends
use Rattle.cal_multi.specs.declared.end.ManyEnd.TheVariants as end

-- a share without a fold has the fault of its bytes
pub falls : (query : Query) (bytes : List ℕ) (came : Result (Seen SnapshotFold) RowsEnd)
    → ComesTo query bytes came → IfErr came (λ (e : RowsEnd). FallsAt e bytes)
falls query bytes (Ok seen) comes = tt
falls query bytes (Err e) comes = comes

-- before the first file
pub none-joined : (query : Query) → HaveJoined query [] None
none-joined query = record { all = []; streams = tt; about = tt; taken = refl }

-- one file more
pub one-more : (query : Query) (files : List (List ℕ)) (bytes : List ℕ)
    (before : Option (Seen SnapshotFold)) (fold joined : Seen SnapshotFold)
    → HaveJoined query files before → HasFoldedWhole query bytes fold
    → IsJoined before fold joined → HaveJoined query (files ++ bytes ∷ []) (Some joined)
one-more query files bytes before fold joined were own is =
    let rows : List Rec = rows_of_all were.all in
    record {
      all = were.all ++ own.records ∷ [];
      streams = all_zipped_more IsStreamOf files were.all bytes own.records were.streams
          own.stream;
      about = is.about ∙ own.about;
      taken = subst (λ (all : List Rec). HasFolded joined.taker joined.context all)
          (ap (λ (more : List Rec). rows ++ more) (sym (append-nil own.records.rows))
          ∙ sym (flat_map-append (λ (r : Records). r.rows) were.all (own.records ∷ [])))
          (is.taken rows own.records.rows were.taken own.folded);
    }

-- files that are streams are sound
pub all-sound : (files : List (List ℕ)) (all : List Records) → AllZip IsStreamOf files all
    → All IsSound files
all-sound [] all streams k d less = absurd (omega (arith, less))
all-sound (bytes ∷ files) [] streams k d less = absurd streams
all-sound (bytes ∷ files) (records ∷ all) streams zero d less = (records, streams.0)
all-sound (bytes ∷ files) (records ∷ all) streams (suc k) d less =
    all-sound files all streams.1 k d (omega (arith, less))

-- the file behind others
here : (files rest : List (List ℕ)) (bytes : List ℕ)
    → slice_get (files ++ bytes ∷ rest) (length files) ≡ Some bytes
here [] rest bytes = refl
here (first ∷ files) rest bytes = here files rest bytes

-- behind sound files, one that goes wrong is the first
pub first-bad : (files rest : List (List ℕ)) (bytes : List ℕ) (e : ends.ManyEnd)
    → All IsSound files → StopsAt e (length files) bytes → StopsMany e (files ++ bytes ∷ rest)
first-bad files rest bytes (end.BadFile file line kind) sound stops = record {
  before = subst (λ (first : List (List ℕ)). All IsSound first)
      (sym (take_at files (bytes ∷ rest) file (sym stops.0))) sound;
  bytes = bytes;
  at = ap (slice_get (files ++ bytes ∷ rest)) stops.0 ∙ here files rest bytes;
  fault = stops.1;
}
first-bad files rest bytes end.OutOfMemory sound stops = tt
