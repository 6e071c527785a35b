-- The books of a run whose threads have run may be closed, and tell of their turns.
use Rattle.std.proofs.Common.{◌≡◌, ◌∙◌, ℕ, List, length, map, sym, ap, subst, arith}
use Rattle.std.specs.Prelude.{Some, option_map, slice_get}
use Rattle.std.proofs.lemmas.List.{length-map}
use Rattle.std.proofs.lemmas.Option.{same_Some, slice_get-map, slice_get_within}
use Rattle.cal_book.specs.Closing.{AllMetHadTurns}
use Rattle.cal_book.specs.Seats.{shape_of}
use Rattle.cal_channel.specs.Values.{ChannelValue}
use Rattle.cal_finish.proofs.LawfulRuns.{at-below}
use Rattle.cal_finish.specs.Ended.{HaveAllRun, accounts_at}
use Rattle.cal_handover.specs.Closing.{AreClosed, MayClose, MayCloseAll}
use Rattle.cal_channel.specs.Places.{at_place}
use Rattle.cal_handover.specs.Places.{tables_at}
use Rattle.cal_keeping.specs.Hands.{AccountOf, IsAtBooks, account_in}
use Rattle.cal_keeping.specs.declared.book_hand.BookHand.{BookHand}
use Rattle.cal_keeping.specs.declared.runner.Runner.{Runner}
use Rattle.cal_ran.proofs.Places.{all-lists, channels_of, seats_of}
use Rattle.cal_ran.proofs.Standing.{AllStand, Stands, accounts-are, all-stand, length-at, own-at}
use Rattle.cal_ran.proofs.TakenLines.{GoByRun}
use Rattle.cal_ran.proofs.TakenShares.{AreCounted, IsCounted}
use Rattle.cal_ran.specs.Runs.{AreDone, IsDone}
use Rattle.cal_replay.specs.Flushing.{BookOf, SeatOf}
use Rattle.cal_replay.specs.Workers.{script_of}
use Rattle.cal_start.specs.FirstSeats.{AreFirstSeats, IsFirstSeat}
use Rattle.cal_start.specs.Runs.{IsRun, shape_for}
use Rattle.cal_start.specs.declared.run.Run.{Run}
use Rattle.cal_table.specs.Tables.{TableValue}
use Rattle.cal_table.specs.declared.shape.TableShape.{TableShape}

-- the book at a place may be closed
may-close : {P : Type 0} (place : ℕ) (book : BookOf) (first : SeatOf)
    (runners : List (Runner P BookHand))
    → IsFirstSeat (length runners) book first → AllStand place book 0 runners
    → MayClose book first (at_place place (seats_of runners))
may-close place book first runners is all = record {
  seat_is = is.seat_is;
  first_is = is.first;
  own = λ number seat at. own-at place book 0 runners all number number seat (omega arith) at;
  all = is.others ∙ sym (length-at place book 0 runners all);
}

module _ {P : Type 0} (run : Run) (is : IsRun run) (runners : List (Runner P BookHand))
    (done : AreDone run runners) where
  -- there is a book for each channel of the script
  books-long : length run.books.items ≡ length (script_of run.shared).channels
  books-long = sym (length-map run.books.items shape_of)
      ∙ ap length (is.books.made ∙ is.shapes)
      ∙ length-map (script_of run.shared).channels
      (shape_for is.hashers run.context.attributes)

  -- a thread that has run has a seat at each book
  stands : (number : ℕ) (r : Runner P BookHand) → IsDone run number r → (place : ℕ)
      (book : BookOf) → slice_get run.books.items place ≡ Some book → Stands place book number r
  stands number r one place book at =
      let hand = one.ran.is.ready.takes_them in
      let within = slice_get_within run.books.items place book at in
      let many = hand.many ∙ ap length one.books in
      let seat = at-below r.channels.hand.seats.items place (omega (arith, within, many)) in
      let own_book : slice_get r.channels.hand.books.now place ≡ Some book =
      ap (λ (books : List BookOf). slice_get books place) one.books ∙ at in
      let own = hand.each place book seat.item own_book seat.there in
      record {
        seat = seat.item;
        seat_at = seat.there;
        is = record {
          seat_is = own.seat_is;
          own = own.own ∙ ap Some (one.ran.is.thread ∙ one.ran.number);
        };
      }

  stand : (place : ℕ) (book : BookOf) → slice_get run.books.items place ≡ Some book
      → AllStand place book 0 runners
  stand place book at = all-stand place book 0 runners
      (λ number k r e there. stands number r
      (done.each number r
      (subst (λ (n : ℕ). slice_get runners n ≡ Some r) (omega (arith, e)) there)) place book at)

  -- all books of the run may be closed
  pub may-close-all : (firsts : List SeatOf)
      → AreFirstSeats (length (script_of run.shared).threads) run.books.items firsts
      → MayCloseAll run.books.items firsts (seats_of runners) (channels_of runners)
  may-close-all firsts are = record {
    firsts_are = are.many;
    seats_are = all-lists (λ (r : Runner P BookHand). r.channels.hand.seats)
        (λ (own : List SeatOf). length own ≡ length run.books.items) runners
        (λ k r at. (done.each k r at).ran.is.ready.takes_them.many
        ∙ ap length (done.each k r at).books);
    channels_are = all-lists (λ (r : Runner P BookHand). r.channels.channels)
        (λ (own : List ChannelValue). length own ≡ length run.books.items) runners
        (λ k r at. (done.each k r at).ran.is.ready.many ∙ sym books-long);
    each = λ place book first at_book at_first. may-close place book first runners
        (subst (λ (n : ℕ). IsFirstSeat n book first) (sym done.many)
        (are.each place book first at_book at_first)) (stand place book at_book);
  }

  -- the runners go by the run
  pub by-run : GoByRun IsAtBooks run runners
  by-run = record {
    numbers = λ number r at. (done.each number r at).numbers;
    shapes = λ number r at shapes takes. sym takes.shapes_are
        ∙ ap (map shape_of) (done.each number r at).books ∙ is.books.made;
  }

  -- behind the closing of all books
  module _ (tables : List (List TableValue))
      (closed : AreClosed run.books.items (seats_of runners) (channels_of runners) tables) where
    -- the threads have run as it is asked of a run
    pub all-run : HaveAllRun account_in IsAtBooks run.shared runners
    all-run = record {
      many = done.many;
      ran = λ thread r at. (done.each thread r at).ran;
      met = λ place below.
          let long = books-long in
          let many = closed.many in
          let book = at-below run.books.items place (omega (arith, below, long)) in
          let own = at-below tables place (omega (arith, below, long, many)) in
          subst (λ (accounts : List AccountOf). AllMetHadTurns accounts)
          (accounts-are place book.item 0 runners (stand place book.item book.there))
          (closed.each place book.item own.item book.there own.there).met;
    }

    counted-at : (place : ℕ) (shape : TableShape) (own : List TableValue)
        → slice_get run.shapes.items place ≡ Some shape → slice_get tables place ≡ Some own
        → IsCounted shape (accounts_at account_in place runners)
        (tables_at place (channels_of runners)) own
    counted-at place shape own at_shape at_own =
        let below = slice_get_within tables place own at_own in
        let many = closed.many in
        let book = at-below run.books.items place (omega (arith, below, many)) in
        let here = closed.each place book.item own book.there at_own in
        let shape_is : shape_of book.item ≡ shape =
        same_Some (shape_of book.item) shape
        (sym (slice_get-map shape_of run.books.items place
        ∙ ap (option_map shape_of) book.there)
        ∙ ap (λ (shapes : List TableShape). slice_get shapes place) is.books.made
        ∙ at_shape) in
        subst (λ (s : TableShape). IsCounted s (accounts_at account_in place runners)
        (tables_at place (channels_of runners)) own) shape_is
        (subst (λ (accounts : List AccountOf). IsCounted (shape_of book.item) accounts
        (tables_at place (channels_of runners)) own)
        (accounts-are place book.item 0 runners (stand place book.item book.there))
        record { closed = here.closed; made = here.given })

    -- and the tables of each channel count what they gave and have left
    pub all-counted : AreCounted account_in run.shapes.items runners tables
    all-counted = record {
      many = closed.many ∙ sym (length-map run.books.items shape_of) ∙ ap length is.books.made;
      each = counted-at;
    }
