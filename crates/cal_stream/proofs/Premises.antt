-- What is asked of records, entry by entry.
use Rattle.std.proofs.Common.{◌≢◌, ◌≤◌, List, [], ◌∷◌, length}
use Rattle.std.specs.List.{All, AllByRecursion}
use Rattle.std.proofs.lemmas.List.Elements.{recursion_from_All}
use Rattle.cal_value.specs.declared.attribute.Entry.{Entry}
use Rattle.cal_value.specs.declared.record.Rec.{Rec}
use Rattle.cal_stream.specs.Readable.{IsHeldEntry, IsHeldRecord, IsPlain, IsReadableEntry}
use Rattle.cal_stream.specs.Readable.{IsReadablePath, IsReadableRecord}

-- an entry, a path and a record that read back
pub record IsGoodEntry (e : Entry) : Type 0 where
  pub held : IsHeldEntry e
  pub readable : IsReadableEntry e

pub record IsGoodPath (path : List Entry) : Type 0 where
  pub some : path ≢ []
  pub short : length path ≤ 1024
  pub entries : AllByRecursion IsGoodEntry path
  pub plain : AllByRecursion (λ (e : Entry). IsPlain e.attr) path

pub record IsGoodRecord (r : Rec) : Type 0 where
  pub paths : AllByRecursion IsGoodPath r.paths
  pub imms : AllByRecursion IsGoodEntry r.imms

good-entries : (es : List Entry) → AllByRecursion IsHeldEntry es
    → AllByRecursion IsReadableEntry es → AllByRecursion IsGoodEntry es
good-entries [] held readable = tt
good-entries (e ∷ es) held readable =
    (record { held = held.0; readable = readable.0 }, good-entries es held.1 readable.1)

good-path : (path : List Entry) → All IsHeldEntry path → IsReadablePath path → IsGoodPath path
good-path path held is = record {
  some = is.some;
  short = is.short;
  entries = good-entries path (recursion_from_All IsHeldEntry path held)
      (recursion_from_All IsReadableEntry path is.entries);
  plain = recursion_from_All (λ (e : Entry). IsPlain e.attr) path is.plain;
}

good-paths : (paths : List (List Entry))
    → AllByRecursion (λ (path : List Entry). All IsHeldEntry path) paths
    → AllByRecursion IsReadablePath paths → AllByRecursion IsGoodPath paths
good-paths [] held are = tt
good-paths (path ∷ paths) held are = (good-path path held.0 are.0, good-paths paths held.1 are.1)

pub good-record : (r : Rec) → IsHeldRecord r → IsReadableRecord r → IsGoodRecord r
good-record r held is = record {
  paths = good-paths r.paths
      (recursion_from_All (λ (path : List Entry). All IsHeldEntry path) r.paths held.paths)
      (recursion_from_All IsReadablePath r.paths is.paths);
  imms = good-entries r.imms (recursion_from_All IsHeldEntry r.imms held.imms)
      (recursion_from_All IsReadableEntry r.imms is.imms);
}

good-rows : (rows : List Rec) → AllByRecursion IsHeldRecord rows
    → AllByRecursion IsReadableRecord rows → AllByRecursion IsGoodRecord rows
good-rows [] held are = tt
good-rows (r ∷ rows) held are = (good-record r held.0 are.0, good-rows rows held.1 are.1)

pub good-records : (rows : List Rec) → All IsHeldRecord rows → All IsReadableRecord rows
    → AllByRecursion IsGoodRecord rows
good-records rows held are = good-rows rows (recursion_from_All IsHeldRecord rows held)
    (recursion_from_All IsReadableRecord rows are)
