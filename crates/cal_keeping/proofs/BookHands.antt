-- What a flush at one of a thread's books does to the thread's hand at the books.
use Rattle.std.proofs.Common.{◌≡◌, ◌≢◌, ℕ, ◌<◌, List, length, map, slice_index_or, slice_set}
use Rattle.std.proofs.Common.{ap, ◌∙◌, sym, subst, refl, get_or, ⊎_elim, arith}
use Rattle.std.specs.Prelude.{Some, is_some, slice_get}
use Rattle.std.proofs.lemmas.List.{get_or-set_other, length-map, map-set}
use Rattle.std.proofs.lemmas.Option.{get_or_from_slice_get, same_Some, slice_get_read}
use Rattle.std.proofs.lemmas.Option.{slice_get_within}
use Rattle.cal_book.proofs.Lists.{at_mapped, at_set, set_here}
use Rattle.cal_book.specs.Accounts.{blank}
use Rattle.cal_book.specs.Seats.{IsSeatOf, shape_of, view}
use Rattle.cal_channel.specs.Values.{ChannelValue}
use Rattle.cal_keeping.specs.Hands.{AccountOf, Hands, IsAtBooks, IsSeatAtBook, MayHand}
use Rattle.cal_keeping.specs.Hands.{account_in, given_by}
use Rattle.cal_keeping.specs.declared.book_hand.BookHand.{BookHand}
use Rattle.cal_replay.specs.Flushing.{BookOf, BookView, Flushed, MayFlush, SeatOf}
use Rattle.cal_script.specs.declared.journal.Reply as replies
use Rattle.cal_script.specs.declared.journal.Reply.TheVariants as reply
use Rattle.cal_table.specs.Tables.{TableValue}
use Rattle.cal_table.specs.declared.shape.TableShape.{TableShape}

-- ---- accounts at places

abbrev account-of : SeatOf → AccountOf
account-of seat = (view seat).account

account-at : (seats : List SeatOf) (place : ℕ) (seat : SeatOf) → slice_get seats place ≡ Some seat
    → slice_index_or (map account-of seats) place blank ≡ account-of seat
account-at seats place seat at = get_or_from_slice_get (map account-of seats) place
    (account-of seat) blank (at_mapped account-of seats place seat at)

-- a seat at another place changes nothing
pub account-other : (seats : List SeatOf) (place : ℕ) (seat : SeatOf) (other : ℕ) → other ≢ place
    → slice_index_or (map account-of (slice_set seats place seat)) other blank
    ≡ slice_index_or (map account-of seats) other blank
account-other seats place seat other away =
    ap (λ (accounts : List AccountOf). slice_index_or accounts other blank)
    (map-set account-of seats place seat)
    ∙ get_or-set_other (map account-of seats) place other (account-of seat) blank away

-- ---- what a reply tells

module _ (v w : BookView) (old new : ChannelValue) (part : TableValue) where
  thread-same : (answer : replies.Reply) → Flushed v w old new part answer → w.thread ≡ v.thread
  thread-same reply.Merged flushed = ap (λ (x : BookView). x.thread) flushed.0
  thread-same (reply.Busy holder) flushed = ap (λ (x : BookView). x.thread) flushed.1
  thread-same _ flushed = absurd flushed

  hands : (thread : ℕ) (answer : replies.Reply) → v.thread ≡ Some thread
      → Flushed v w old new part answer → Hands thread v.account w.account old new part answer
  hands thread reply.Merged own flushed =
      (ap (λ (x : BookView). x.account) flushed.0, flushed.1)
  hands thread (reply.Busy holder) own flushed = (
    λ same. flushed.0 (own ∙ ap Some same),
    ap (λ (x : BookView). x.account) flushed.1,
    flushed.2,
  )
  hands thread _ own flushed = absurd flushed

-- ---- a flush at a book

module _ (hand : BookHand) (place : ℕ) (channel : ChannelValue)
    (may : MayHand account_in IsAtBooks hand place channel) where
  pub in-books : place < length hand.books.now
  in-books =
      let less = slice_get_within may.shapes place may.part.shape may.shape_at in
      let same = ap length may.takes_them.shapes_are in
      let many = length-map hand.books.now shape_of in
      omega (arith, less, same, many)

  pub in-seats : place < length hand.seats.items
  in-seats = let less = in-books in let many = may.takes_them.many in omega (arith, less, many)

  module _ (book : BookOf) (seat : SeatOf) (book_is : book ≡ get_or hand.books.now place book)
      (seat_is : seat ≡ get_or hand.seats.items place seat) where
    book-at : slice_get hand.books.now place ≡ Some book
    book-at = let books = hand.books.now in
        slice_get_read books (length books) place book refl in-books book_is

    seat-at : slice_get hand.seats.items place ≡ Some seat
    seat-at = let seats = hand.seats.items in
        slice_get_read seats (length seats) place seat refl in-seats seat_is

    account-is : account_in hand place ≡ account-of seat
    account-is = account-at hand.seats.items place seat seat-at

    -- the seat is one of a thread whose hand this is
    own : (thread : ℕ) (shapes : List TableShape) → IsAtBooks hand thread shapes
        → IsSeatAtBook thread book seat
    own thread shapes at = at.each place book seat book-at seat-at

    pub may-flush : MayFlush book seat channel
    may-flush =
        let at = own may.thread may.shapes may.takes_them in
        record {
          seat_is = at.seat_is;
          own = ap is_some at.own;
          part = may.part;
          part_is = may.part_is;
          made = same_Some may.part.shape (shape_of book) (sym may.shape_at
              ∙ ap (λ (ss : List TableShape). slice_get ss place) (sym may.takes_them.shapes_are)
              ∙ at_mapped shape_of hand.books.now place book book-at);
          few =
              let same = ap given_by account-is in
              let few = may.few in
              omega (arith, same, few);
        }

    module _ (after : SeatOf) (is : ChannelValue) (answer : replies.Reply) where
      -- the reply tells of the hand what it tells of the seat
      pub handed : (thread : ℕ) (shapes : List TableShape) (part : TableValue)
          → IsAtBooks hand thread shapes
          → Flushed (view seat) (view after) channel is part answer
          → Hands thread (account_in hand place)
          (slice_index_or (map account-of (slice_set hand.seats.items place after)) place blank)
          channel is part answer
      handed thread shapes part at flushed =
          let behind = account-at (slice_set hand.seats.items place after) place after
          (set_here hand.seats.items place seat after seat-at) in
          subst (λ (a : AccountOf). Hands thread a
          (slice_index_or (map account-of (slice_set hand.seats.items place after)) place blank)
          channel is part answer) (sym account-is)
          (subst (λ (a : AccountOf). Hands thread (account-of seat) a channel is part answer)
          (sym behind) (hands (view seat) (view after) channel is part thread answer
          (own thread shapes at).own flushed))

      -- and the thread has a seat at each book still
      pub each-seat : IsSeatOf book after
          → Flushed (view seat) (view after) channel is may.part answer → (thread : ℕ)
          (shapes : List TableShape) → IsAtBooks hand thread shapes
          → (i : ℕ) (b : BookOf) (s : SeatOf) → slice_get hand.books.now i ≡ Some b
          → slice_get (slice_set hand.seats.items place after) i ≡ Some s
          → IsSeatAtBook thread b s
      each-seat seat_of flushed thread shapes at i b s b_at had =
          ⊎_elim (λ here.
          let same = same_Some book b (sym book-at ∙ ap (slice_get hand.books.now) (sym here.0)
          ∙ b_at) in
          subst (λ (x : BookOf). IsSeatAtBook thread x s) same
          (subst (IsSeatAtBook thread book) here.1 (record {
            seat_is = seat_of;
            own = thread-same (view seat) (view after) channel is may.part answer flushed
                ∙ (own thread shapes at).own;
          })))
          (λ no. at.each i b s b_at no.1) (at_set hand.seats.items place i after s had)
