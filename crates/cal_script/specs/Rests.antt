-- Bytes that may be known to be a text.
use Rattle.std.specs.Prelude.{◌≡◌, ◌≢◌, ℕ, ◌<◌, List, length, slice_index}
use Rattle.cal_script.specs.declared.rest.Rest as rests
use Rattle.cal_script.specs.declared.rest.Rest.TheVariants as rest

-- the bytes of what is left of an input
abbrev pub bytes_in : rests.Rest → List ℕ
bytes_in (rest.Bytes bytes) = bytes.now
bytes_in (rest.Text text) = text.now

-- The first newline of an input stands at this place.
pub record IsFirstNewline (bytes : List ℕ) (place : ℕ) : Type 0 where
  pub within : place < length bytes
  pub newline : slice_index bytes place ≡ 10
  pub before : (k : ℕ) → k < place → slice_index bytes k ≢ 10
