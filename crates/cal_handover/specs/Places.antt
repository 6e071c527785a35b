-- What the threads' channels have at one place.
use Rattle.std.specs.Prelude.{ℕ, zero, suc, List, [], ◌∷◌, filter_map, option_map}
use Rattle.cal_channel.specs.Places.{at_place}
use Rattle.cal_channel.specs.Values.{ChannelValue}
use Rattle.cal_table.specs.Tables.{TableValue, empty_table}

-- the tables of channels, where they have one
abbrev pub tables_of : List ChannelValue → List TableValue
tables_of channels = filter_map (λ (c : ChannelValue). c.table) channels

-- and of the threads' channels at a place
abbrev pub tables_at : ℕ → List (List ChannelValue) → List TableValue
tables_at place lists = tables_of (at_place place lists)

-- a channel whose table was taken out: an empty one is left, and the rest stays
abbrev pub emptied : ChannelValue → ChannelValue
emptied c = record {
  previous = c.previous;
  trace = c.trace;
  table = option_map (λ (table : TableValue). empty_table table.shape) c.table;
}

-- channels, where that of one place is emptied
abbrev pub emptied_at : ℕ → List ChannelValue → List ChannelValue
emptied_at place [] = []
emptied_at zero (c ∷ cs) = emptied c ∷ cs
emptied_at (suc place) (c ∷ cs) = c ∷ emptied_at place cs
