-- What contracts see of a thread's hand: what it has done for each channel, and what a flush makes
-- of that.
use Rattle.std.proofs.Common.{refl, ◌∙◌}
use Rattle.std.specs.Prelude.{◌≡◌, ◌≢◌, ℕ, ◌+◌, ◌≤◌, ◌^◌, List, Some}
use Rattle.std.specs.Prelude.{length, map, slice_get, slice_index_or, sum_by}
use Rattle.cal_book.specs.Accounts.{blank, more_given, more_met}
use Rattle.cal_book.specs.Seats.{shape_of, IsSeatOf, view}
use Rattle.cal_book.specs.declared.view.Account.{Account}
use Rattle.cal_channel.specs.Values.{ChannelValue, with_table}
use Rattle.cal_keeping.specs.declared.book_hand.BookHand.{BookHand}
use Rattle.cal_replay.specs.Flushing.{BookOf, SeatOf}
use Rattle.cal_script.specs.declared.journal.Reply as replies
use Rattle.cal_script.specs.declared.journal.Reply.TheVariants as reply
use Rattle.cal_table.specs.Tables.{TableValue, empty_table}
use Rattle.cal_table.specs.declared.shape.TableShape.{TableShape}

-- what a thread has done for a channel: the parts that it gave, and the turns that it met
abbrev pub AccountOf : Type 0
AccountOf = Account TableValue

-- how many snapshots the parts stand for that were given
abbrev pub given_by : AccountOf → ℕ
given_by account = sum_by (λ (part : TableValue). part.snapshots) account.given

-- A flush may be tried: the hand takes tables of some shapes, among them that of the channel's
-- table, which with all that the thread has given stands for at most 2^20 snapshots.
pub record MayHand {H : Type 0} (account : H → ℕ → AccountOf)
    (takes : H → ℕ → List TableShape → Type 0) (hand : H) (place : ℕ) (channel : ChannelValue)
    : Type 0 where
  pub thread : ℕ
  pub shapes : List TableShape
  pub takes_them : takes hand thread shapes
  pub part : TableValue
  pub part_is : channel.table ≡ Some part
  pub shape_at : slice_get shapes place ≡ Some part.shape
  pub few : given_by (account hand place) + part.snapshots ≤ 2 ^ 20

module _ (thread : ℕ) (before behind : AccountOf) (old new : ChannelValue) where
  -- What a reply to a thread's flush tells. Merged: the channel's table was given, and an empty one
  -- is left. Busy: another thread's turn was met, and the channel is as before.
  abbrev pub Hands : TableValue → replies.Reply → Type 0
  Hands part reply.Merged =
      (behind ≡ more_given before part) × (new ≡ with_table old (empty_table part.shape))
  Hands part (reply.Busy holder) =
      (thread ≢ holder) × (behind ≡ more_met before holder) × (new ≡ old)
  Hands part _ = ⊥

-- ---- the hand of a thread at the books of a run

-- what the thread has done at the book of the channel at a place
abbrev pub account_in : BookHand → ℕ → AccountOf
account_in hand place =
    slice_index_or (map (λ (seat : SeatOf). (view seat).account) hand.seats.items) place blank

-- a seat is a thread's at a book
pub record IsSeatAtBook (thread : ℕ) (book : BookOf) (seat : SeatOf) : Type 0 where
  pub seat_is : IsSeatOf book seat
  pub own : (view seat).thread ≡ Some thread

-- It has a seat of the thread at each of its books, whose tables have these shapes.
pub record IsAtBooks (hand : BookHand) (thread : ℕ) (shapes : List TableShape) : Type 0 where
  pub many : length hand.seats.items ≡ length hand.books.now
  pub shapes_are : map shape_of hand.books.now ≡ shapes
  pub each : (place : ℕ) (book : BookOf) (seat : SeatOf)
      → slice_get hand.books.now place ≡ Some book → slice_get hand.seats.items place ≡ Some seat
      → IsSeatAtBook thread book seat

-- its books are the same
abbrev pub HasSameBooks : (old new : BookHand) → Type 0
HasSameBooks old new = new.books ≡ old.books

-- as often as one likes
pub books_same : (hand : BookHand) → HasSameBooks hand hand
books_same hand = refl

pub books_later : (one two three : BookHand) → HasSameBooks one two → HasSameBooks two three
    → HasSameBooks one three
books_later one two three first second = second ∙ first
