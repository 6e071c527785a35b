-- What threads have left in their channels stands beside the tables that were collected.
use Rattle.std.specs.Prelude.{◌≡◌, ℕ, List, [], ◌∷◌, ◌++◌, All, Some, length, slice_get}
use Rattle.cal_channel.specs.Values.{ChannelValue}
use Rattle.cal_handover.specs.Places.{tables_at}
use Rattle.cal_table.specs.Tables.{TableValue}

-- each thread has a channel for each table
abbrev pub MayGatherAll : List TableValue → List (List ChannelValue) → Type 0
MayGatherAll tables channels =
    All (λ (own : List ChannelValue). length own ≡ length tables) channels

-- for each table there are those that were left in its channel, and behind them itself
pub record AreGathered (tables : List TableValue) (channels : List (List ChannelValue))
    (alls : List (List TableValue)) : Type 0 where
  pub many : length alls ≡ length tables
  pub each : (place : ℕ) (table : TableValue) (own : List TableValue)
      → slice_get tables place ≡ Some table → slice_get alls place ≡ Some own
      → own ≡ tables_at place channels ++ table ∷ []
