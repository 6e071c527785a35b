-- The end of a channel's book, and of the books of all channels.
use Rattle.std.specs.Prelude.{◌≡◌, ℕ, List, All, None, Some, length, slice_get}
use Rattle.cal_book.specs.Closing.{AllMetHadTurns}
use Rattle.cal_book.specs.Seats.{IsSeatOf, shape_of, view}
use Rattle.cal_channel.specs.Values.{ChannelValue}
use Rattle.cal_closing.specs.Parts.{AreMadeFor, AreTablesOf}
use Rattle.cal_closing.specs.Seats.{AreThreadSeats, accounts_of, given_by}
use Rattle.cal_channel.specs.Places.{at_place}
use Rattle.cal_handover.specs.Places.{tables_at}
use Rattle.cal_replay.specs.Flushing.{BookOf, SeatOf}
use Rattle.cal_table.specs.Tables.{TableValue}

-- A book may be closed: it has its first seat, from which the seats of all threads were split off.
pub record MayClose (book : BookOf) (first : SeatOf) (seats : List SeatOf) : Type 0 where
  pub seat_is : IsSeatOf book first
  pub first_is : (view first).thread ≡ None
  pub own : AreThreadSeats book seats
  pub all : length (view first).others ≡ length seats

-- What a closed book gives: the tables that are left, and that of all parts that were given, which
-- were made for it. Each thread whose turn was met has given a part, or given up a turn.
pub record IsClosed (book : BookOf) (seats : List SeatOf) (left tables : List TableValue)
    : Type 0 where
  pub closed : AreTablesOf (shape_of book) (given_by (accounts_of seats)) left tables
  pub given : AreMadeFor (shape_of book) (accounts_of seats)
  pub met : AllMetHadTurns (accounts_of seats)

-- For each book, at its place: the first seat, and of each thread a seat and a channel. All books
-- may be closed.
pub record MayCloseAll (books : List BookOf) (firsts : List SeatOf) (seats : List (List SeatOf))
    (channels : List (List ChannelValue)) : Type 0 where
  pub firsts_are : length firsts ≡ length books
  pub seats_are : All (λ (own : List SeatOf). length own ≡ length books) seats
  pub channels_are : All (λ (own : List ChannelValue). length own ≡ length books) channels
  pub each : (place : ℕ) (book : BookOf) (first : SeatOf) → slice_get books place ≡ Some book
      → slice_get firsts place ≡ Some first
      → MayClose book first (at_place place seats)

-- each book gave its tables
pub record AreClosed (books : List BookOf) (seats : List (List SeatOf))
    (channels : List (List ChannelValue)) (tables : List (List TableValue)) : Type 0 where
  pub many : length tables ≡ length books
  pub each : (place : ℕ) (book : BookOf) (own : List TableValue)
      → slice_get books place ≡ Some book → slice_get tables place ≡ Some own
      → IsClosed book (at_place place seats) (tables_at place channels) own
