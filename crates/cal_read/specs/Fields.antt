-- What the fields of a line say.
use Rattle.std.specs.Prelude.{ℕ, Bool, false, ◌||◌, List, [], ◌∷◌, Option, Some, None}
use Rattle.std.specs.Prelude.{Result, Ok, Err}
use Rattle.std.specs.Prelude.{codes, if◌then◌else◌}
use Rattle.std.specs.List.{list_any}
use Rattle.std.specs.Str.{bytes_eq}
use Rattle.cal_line.specs.FirstFault.{◌>>=◌}
use Rattle.cal_line.specs.declared.field.Field.{Field}
use Rattle.cal_value.specs.Reading.{uint_of}
use Rattle.cal_read.specs.declared.kind.StreamKind.{StreamKind}
use Rattle.cal_read.specs.declared.kind.StreamKind.TheVariants as kind
use Rattle.cal_read.specs.declared.sort.Sort.{Sort}
use Rattle.cal_read.specs.declared.sort.Sort.TheVariants.{OfNode, OfRow, OfGlobals}

-- what there is, or else this fault
abbrev pub or_fault : {A : Type 0} → StreamKind → Option A → Result A StreamKind
or_fault kind None = Err kind
or_fault kind (Some there) = Ok there

-- what each item of a list gives, or the fault of one
abbrev pub each : {A B : Type 0} → (A → Result B StreamKind) → List A → Result (List B) StreamKind
each gives [] = Ok []
each gives (item ∷ items) = do
  first ← gives item
  more ← each gives items
  Ok (first ∷ more)

-- the same of what may be absent
abbrev pub if_there : {A B : Type 0} → (A → Result B StreamKind) → Option A
    → Result (Option B) StreamKind
if_there gives None = Ok None
if_there gives (Some item) = do
  given ← gives item
  Ok (Some given)

-- whether a field has this key
abbrev pub has_key : List ℕ → Field → Bool
has_key key field = bytes_eq field.key key

-- whether a key comes twice
abbrev pub repeats_key : List Field → Bool
repeats_key [] = false
repeats_key (field ∷ fields) = list_any (has_key field.key) fields || repeats_key fields

-- the values of the field with this key; none where no field has it
abbrev pub values_of : List ℕ → List Field → List (List ℕ)
values_of key [] = []
values_of key (field ∷ fields) = if has_key key field then field.values else values_of key fields

-- the sort of line that a name stands for
abbrev pub sort_named : List ℕ → Result Sort StreamKind
sort_named name =
    if bytes_eq name (codes "node") then Ok OfNode
    else (if bytes_eq name (codes "ctx") then Ok OfRow
    else (if bytes_eq name (codes "globals") then Ok OfGlobals
    else Err kind.NoRecord))

-- one value
abbrev pub only : StreamKind → List (List ℕ) → Result (List ℕ) StreamKind
only kind (text ∷ []) = Ok text
only kind _ = Err kind

-- the first field is `__rec`, with one value
abbrev pub first_name : List Field → Result (List ℕ) StreamKind
first_name [] = Err kind.NoRecord
first_name (first ∷ fields) =
    if has_key (codes "__rec") first then only kind.NoRecord first.values else Err kind.NoRecord

-- which names the sort of the line
abbrev pub sort_of : List Field → Result Sort StreamKind
sort_of fields = do
  name ← first_name fields
  sort_named name

-- An id is a decimal that 64 bits hold.
abbrev pub id_of : List ℕ → Result ℕ StreamKind
id_of text = or_fault kind.BadNumber (uint_of text)
