-- What a reader has read that has its own context.
use Rattle.std.specs.Prelude.{◌≡◌, ℕ, List, ◌++◌}
use Rattle.cal_value.specs.declared.record.Rec.{Rec}
use Rattle.cal_read.specs.Reading.{HasRead, IsReady, IsRefused}
use Rattle.cal_read.specs.declared.end.StreamEnd.{StreamEnd}
use Rattle.cal_read.specs.declared.reader.Reader.{Reader}

-- the reader has read these bytes, and the lines that have ended have no fault
abbrev pub HasReadOwned : Reader → List ℕ → Type 0
HasReadOwned r bytes = HasRead r.reader r.context bytes

-- the reader refuses, or has read some bytes
abbrev pub IsOwnedReady : Reader → Type 0
IsOwnedReady r = IsReady r.reader r.context

-- the reader answers this refusal from now on
abbrev pub IsOwnedRefused : Reader → StreamEnd → Type 0
IsOwnedRefused r refusal = IsRefused r.reader refusal

-- The rows of after are those of before and some more, and these are appended.
pub record AppendsRows (old new before after : List Rec) : Type 0 where
  pub more : List Rec
  pub rows : after ≡ before ++ more
  pub appended : new ≡ old ++ more
