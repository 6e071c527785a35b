-- The books that are left while they are closed from the last one on.
use Rattle.std.proofs.Common.{◌≡◌, ℕ, suc, ◌+◌, ◌<◌, List, [], ◌∷◌, ◌++◌, Some}
use Rattle.std.proofs.Common.{length, map, take, get_or, sym, ap, ◌∙◌, arith, subst}
use Rattle.std.proofs.Common.{add-one, length-append, length-take-le}
use Rattle.std.specs.List.{All, remove}
use Rattle.std.specs.Prelude.{slice_get}
use Rattle.std.proofs.lemmas.List.{take-take, take_all}
use Rattle.std.proofs.lemmas.Option.{slice_get_read}
use Rattle.cal_channel.specs.Values.{ChannelValue}
use Rattle.cal_handover.proofs.ClosedFrom.{AreClosedFrom, closed-all, closed-more, closed-none}
use Rattle.cal_handover.proofs.FromPlace.{channels-all, channels-next, channels-none}
use Rattle.cal_handover.proofs.FromPlace.{channels-same, channels-within, emptied_from}
use Rattle.cal_handover.proofs.FromPlace.{popped-at, popped-rest, seats-long, seats-next}
use Rattle.cal_handover.proofs.FromPlace.{seats-none, seats-same, take-at}
use Rattle.cal_handover.proofs.OnePlace.{remove-last}
use Rattle.cal_handover.specs.Closing.{AreClosed, IsClosed, MayClose, MayCloseAll}
use Rattle.cal_channel.specs.Places.{at_place}
use Rattle.cal_handover.specs.Places.{emptied, emptied_at, tables_at, tables_of}
use Rattle.cal_replay.specs.Flushing.{BookOf, SeatOf}
use Rattle.cal_table.specs.Tables.{TableValue}

module _ (books : List BookOf) (firsts : List SeatOf) (seats : List (List SeatOf))
    (channels : List (List ChannelValue)) where
  -- These books are left, with what belongs to them; the others gave these tables.
  pub record AreLeft (left : List BookOf) (left_firsts : List SeatOf)
      (left_seats : List (List SeatOf)) (left_channels : List (List ChannelValue))
      (tables : List (List TableValue)) : Type 0 where
    pub books_are : left ≡ take (length left) books
    pub firsts_are : left_firsts ≡ take (length left) firsts
    pub seats_are : left_seats ≡ map (take (length left)) seats
    pub channels_are : left_channels ≡ map (emptied_from (length left)) channels
    pub closed : AreClosedFrom books seats channels (length left) tables

  -- all are
  pub all-left : MayCloseAll books firsts seats channels → (tables : List (List TableValue))
      → tables ≡ [] → AreLeft books firsts seats channels tables
  all-left may tables none = record {
    books_are = sym (take_all (length books) books (omega arith));
    firsts_are = sym (take_all (length books) firsts
        (let e = may.firsts_are in omega (arith, e)));
    seats_are = sym (seats-none (length books) seats may.seats_are);
    channels_are = sym (channels-none (length books) channels may.channels_are);
    closed = subst (AreClosedFrom books seats channels (length books)) (sym none)
        (closed-none books seats channels);
  }

  -- none is
  module _ (left : List BookOf) (left_firsts : List SeatOf) (left_seats : List (List SeatOf))
      (left_channels : List (List ChannelValue)) (tables : List (List TableValue))
      (h : AreLeft left left_firsts left_seats left_channels tables)
      (none : length left ≡ 0) where
    pub all-closed : AreClosed books seats channels tables
    all-closed = closed-all books seats channels (length left) tables none h.closed

    pub all-emptied : left_channels ≡ map (map emptied) channels
    all-emptied = h.channels_are ∙ ap (λ (n : ℕ). map (emptied_from n) channels) none
        ∙ channels-all channels

  -- the last one of those that are left
  module _ (may : MayCloseAll books firsts seats channels) (left rest : List BookOf)
      (book : BookOf) (left_firsts : List SeatOf) (left_seats : List (List SeatOf))
      (left_channels : List (List ChannelValue)) (tables : List (List TableValue))
      (h : AreLeft left left_firsts left_seats left_channels tables)
      (pop : left ≡ rest ++ book ∷ []) (place : ℕ) (at : place ≡ length rest) where
    long : length left ≡ suc (length rest)
    long = ap length pop ∙ length-append rest (book ∷ []) ∙ add-one (length rest)

    less : length rest < length books
    less = let many = h.closed.many in let l = long in omega (arith, many, l)

    seats-are : left_seats ≡ map (take (suc (length rest))) seats
    seats-are = h.seats_are ∙ ap (λ (n : ℕ). map (take n) seats) long

    channels-are : left_channels ≡ map (emptied_from (suc (length rest))) channels
    channels-are = h.channels_are ∙ ap (λ (n : ℕ). map (emptied_from n) channels) long

    firsts-are : left_firsts ≡ take (suc (length rest)) firsts
    firsts-are = h.firsts_are ∙ ap (λ (n : ℕ). take n firsts) long

    firsts-long : length left_firsts ≡ length rest + 1
    firsts-long = ap length firsts-are
        ∙ length-take-le (suc (length rest)) firsts
        (let e = may.firsts_are in let l = less in omega (arith, e, l))
        ∙ sym (add-one (length rest))

    seats-here : at_place place left_seats ≡ at_place (length rest) seats
    seats-here = ap (λ (n : ℕ). at_place n left_seats) at
        ∙ ap (at_place (length rest)) seats-are ∙ seats-same (length rest) seats

    tables-here : tables_at place left_channels ≡ tables_at (length rest) channels
    tables-here = ap (λ (n : ℕ). tables_at n left_channels) at
        ∙ ap (tables_at (length rest)) channels-are
        ∙ ap tables_of (channels-same (length rest) channels)

    book-at : slice_get books (length rest) ≡ Some book
    book-at = popped-at books left rest book h.books_are pop

    -- its seats are the last ones of the lists
    pub seats-last : All (λ (own : List SeatOf). length own ≡ place + 1) left_seats
    seats-last =
        let ones : List (List SeatOf) → Type 0 =
        λ lists. All (λ (own : List SeatOf). length own ≡ length rest + 1) lists in
        let at_last : ℕ → Type 0 =
        λ n. All (λ (own : List SeatOf). length own ≡ n + 1) left_seats in
        subst at_last (sym at) (subst ones (sym seats-are)
        (seats-long (length books) (length rest) seats less may.seats_are))

    -- its channels are there
    pub channels-there : All (λ (own : List ChannelValue). place < length own) left_channels
    channels-there =
        let ones : List (List ChannelValue) → Type 0 =
        λ lists. All (λ (own : List ChannelValue). length rest < length own) lists in
        let at_last : ℕ → Type 0 =
        λ n. All (λ (own : List ChannelValue). n < length own) left_channels in
        subst at_last (sym at) (subst ones (sym channels-are)
        (channels-within (length books) (length rest) channels less may.channels_are))

    -- it may be closed
    pub may-close : (first : SeatOf) → first ≡ get_or left_firsts place first
        → MayClose book first (at_place place left_seats)
    may-close first read =
        let for_seats : List SeatOf → Type 0 = λ own. MayClose book first own in
        subst for_seats (sym seats-here) (may.each (length rest) book first book-at first-at)
      where
        here : slice_get left_firsts (length rest) ≡ Some first
        here = slice_get_read left_firsts (length rest + 1) (length rest) first (sym firsts-long)
            (omega arith) (read ∙ ap (λ (n : ℕ). get_or left_firsts n first) at)

        first-at : slice_get firsts (length rest) ≡ Some first
        first-at = sym (take-at (length rest) firsts)
            ∙ ap (λ (xs : List SeatOf). slice_get xs (length rest)) (sym firsts-are) ∙ here

    -- it is closed, and the others are left
    pub one-closed : (rest_firsts : List SeatOf) (rest_seats : List (List SeatOf))
        (rest_channels : List (List ChannelValue)) (own : List TableValue)
        → rest_firsts ≡ remove left_firsts place → rest_seats ≡ map (take place) left_seats
        → rest_channels ≡ map (emptied_at place) left_channels
        → IsClosed book (at_place place left_seats) (tables_at place left_channels) own
        → AreLeft rest rest_firsts rest_seats rest_channels (own ∷ tables)
    one-closed rest_firsts rest_seats rest_channels own f s k closed = record {
      books_are = popped-rest books left rest book h.books_are pop;
      firsts_are = f ∙ ap (λ (n : ℕ). remove left_firsts n) at
          ∙ remove-last (length rest) left_firsts firsts-long
          ∙ ap (take (length rest)) firsts-are
          ∙ take-take (length rest) (suc (length rest)) firsts (omega arith);
      seats_are = s ∙ ap (λ (n : ℕ). map (take n) left_seats) at
          ∙ ap (map (take (length rest))) seats-are ∙ seats-next (length rest) seats;
      channels_are = k ∙ ap (λ (n : ℕ). map (emptied_at n) left_channels) at
          ∙ ap (map (emptied_at (length rest))) channels-are
          ∙ channels-next (length rest) channels;
      closed = closed-more books seats channels (length rest) book own tables
          (subst (λ (n : ℕ). AreClosedFrom books seats channels n tables) long h.closed) book-at
          is-closed;
    }
      where
        is-closed : IsClosed book (at_place (length rest) seats) (tables_at (length rest) channels)
            own
        is-closed =
            let for_seats : List SeatOf → Type 0 =
            λ of. IsClosed book of (tables_at (length rest) channels) own in
            let for_tables : List TableValue → Type 0 =
            λ ts. IsClosed book (at_place place left_seats) ts own in
            subst for_seats seats-here (subst for_tables tables-here closed)
