-- What a flush of a channel of a thread comes to: for the thread's seat at its book, and for the
-- channel.
use Rattle.std.specs.Prelude.{◌≡◌, ◌≢◌, ◌⊎◌, ◌+◌, ◌≤◌, ◌^◌, Some, IsSome, sum_by}
use Rattle.cal_book.specs.Seats.{IsSeatOf, shape_of, view}
use Rattle.cal_book.specs.Views.{giving, giving_up, meeting}
use Rattle.cal_book.specs.declared.cell.FlushCell.{FlushCell}
use Rattle.cal_book.specs.declared.seat.FlushSeat.{FlushSeat}
use Rattle.cal_book.specs.declared.view.View.{View}
use Rattle.cal_channel.specs.Values.{ChannelValue, with_table}
use Rattle.cal_script.specs.declared.journal.Reply as replies
use Rattle.cal_script.specs.declared.journal.Reply.TheVariants as reply
use Rattle.cal_table.specs.Tables.{TableValue, empty_table}
use Rattle.cal_table.specs.declared.shape.TableShape.{TableShape}

-- a channel's book, and what a seat knows of it
abbrev pub BookOf : Type 0
BookOf = FlushCell TableValue TableShape

abbrev pub SeatOf : Type 0
SeatOf = FlushSeat TableValue TableShape

abbrev pub BookView : Type 0
BookView = View TableValue TableShape

-- A flush may be tried: the seat is that of a thread at the book, and the channel has a table of
-- the book's shape, which with all that the thread has given stands for at most 2^20 snapshots.
pub record MayFlush (book : BookOf) (seat : SeatOf) (channel : ChannelValue) : Type 0 where
  pub seat_is : IsSeatOf book seat
  pub own : IsSome (view seat).thread
  pub part : TableValue
  pub part_is : channel.table ≡ Some part
  pub made : part.shape ≡ shape_of book
  pub few : sum_by (λ (table : TableValue). table.snapshots) (view seat).account.given
      + part.snapshots ≤ 2 ^ 20

module _ (v w : BookView) (old new : ChannelValue) where
  -- What a reply to a flush tells. Merged: the channel's table was given, and an empty one is left.
  -- Busy: another thread's turn was met, and the channel is as before.
  abbrev pub Flushed : TableValue → replies.Reply → Type 0
  Flushed part reply.Merged = (w ≡ giving part v) × (new ≡ with_table old (empty_table part.shape))
  Flushed part (reply.Busy holder) =
      (v.thread ≢ Some holder) × (w ≡ meeting holder v) × (new ≡ old)
  Flushed part _ = ⊥

  -- What is left where memory ran out: the channel is as before, and so is the seat, or it has
  -- given its turn up.
  abbrev pub LeftByFlush : Type 0
  LeftByFlush = (new ≡ old) × ((w ≡ v) ⊎ (w ≡ giving_up v))
