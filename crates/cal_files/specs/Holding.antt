-- What an opener in memory holds.
use Rattle.std.specs.Prelude.{ℕ, Bool, List, [], drop, find, slice_get, nat_eq, Option, None, Some}
use Rattle.std.specs.Option.{option_map}
use Rattle.std.specs.Cmp.Lexicographic.{pointwise}
use Rattle.cal_files.specs.declared.calls.Calls.{Calls}
use Rattle.cal_files.specs.declared.named_bytes.NamedBytes.{NamedBytes}
use Rattle.cal_files.specs.declared.place.Place.{Place}

-- An opener in memory: its files, the bytes left of the one that is open, the calls that opened and
-- the calls that read, and the number of openings that did well.
pub record Holding : Type 0 where
  pub files : List NamedBytes
  pub left : List ℕ
  pub opens : Calls
  pub reads : Calls
  pub openings : ℕ

-- whether a file has this name
abbrev pub is_named : List ℕ → NamedBytes → Bool
is_named name file = pointwise nat_eq file.name name

-- the bytes of the first file of a name, if there is one
abbrev pub bytes_named : List NamedBytes → List ℕ → Option (List ℕ)
bytes_named files name = option_map (λ file. file.bytes) (find (is_named name) files)

-- what is left of a file from a byte on, and nothing where there is no file
abbrev pub left_of : Option NamedBytes → ℕ → List ℕ
left_of None byte = []
left_of (Some file) byte = drop byte file.bytes

-- what is left where an opener reads, and nothing where no file is open
abbrev pub left_at : List NamedBytes → Option Place → List ℕ
left_at files None = []
left_at files (Some place) = left_of (slice_get files place.file) place.byte

-- an opener of these files, before its first call
abbrev pub unopened : List NamedBytes → List ℕ → List ℕ → Holding
unopened files open_failing read_failing = record {
  files = files;
  left = [];
  opens = record { failing = open_failing; made = 0; faults = 0 };
  reads = record { failing = read_failing; made = 0; faults = 0 };
  openings = 0;
}
