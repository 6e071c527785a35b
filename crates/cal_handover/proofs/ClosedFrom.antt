-- The books from a place on are closed.
use Rattle.std.proofs.Common.{◌≡◌, ℕ, zero, suc, ◌+◌, List, [], ◌∷◌, Some}
use Rattle.std.proofs.Common.{length, subst, sym, arith}
use Rattle.std.specs.Prelude.{slice_get}
use Rattle.cal_channel.specs.Values.{ChannelValue}
use Rattle.cal_handover.specs.Closing.{AreClosed, IsClosed}
use Rattle.cal_channel.specs.Places.{at_place}
use Rattle.cal_handover.specs.Places.{tables_at}
use Rattle.cal_replay.specs.Flushing.{BookOf, SeatOf}
use Rattle.cal_table.specs.Tables.{TableValue}

module _ (books : List BookOf) (seats : List (List SeatOf))
    (channels : List (List ChannelValue)) where
  -- the tables of the book at a place
  abbrev IsClosedAt : ℕ → BookOf → List TableValue → Type 0
  IsClosedAt place book own =
      IsClosed book (at_place place seats) (tables_at place channels) own

  -- each book from a place on gave its tables
  pub record AreClosedFrom (n : ℕ) (tables : List (List TableValue)) : Type 0 where
    pub many : n + length tables ≡ length books
    pub each : (place k : ℕ) (book : BookOf) (own : List TableValue) → place ≡ n + k
        → slice_get books place ≡ Some book → slice_get tables k ≡ Some own
        → IsClosed book (at_place place seats) (tables_at place channels) own

  -- none did yet
  pub closed-none : AreClosedFrom (length books) []
  closed-none = record {
    many = omega arith;
    each = λ place k book own e at_book at_own. cc;
  }

  -- one more
  pub closed-more : (n : ℕ) (book : BookOf) (own : List TableValue)
      (tables : List (List TableValue)) → AreClosedFrom (suc n) tables
      → slice_get books n ≡ Some book → IsClosed book (at_place n seats) (tables_at n channels) own
      → AreClosedFrom n (own ∷ tables)
  closed-more n book own tables from at closed = record {
    many = let many = from.many in omega (arith, many);
    each = each;
  }
    where
      same : (b : BookOf) (ts : List TableValue) → book ≡ b → own ≡ ts → IsClosedAt n b ts
      same b ts eb et = subst (λ (x : BookOf). IsClosedAt n x ts) eb
          (subst (λ (x : List TableValue). IsClosedAt n book x) et closed)

      first : (place : ℕ) (b : BookOf) (ts : List TableValue) → n ≡ place
          → slice_get books place ≡ Some b → own ≡ ts → IsClosedAt place b ts
      first place b ts e at_book et = subst (λ (p : ℕ). IsClosedAt p b ts) e
          (same b ts
          (let here = subst (λ (p : ℕ). slice_get books p ≡ Some b) (sym e) at_book in cc) et)

      each : (place k : ℕ) (b : BookOf) (ts : List TableValue) → place ≡ n + k
          → slice_get books place ≡ Some b → slice_get (own ∷ tables) k ≡ Some ts
          → IsClosed b (at_place place seats) (tables_at place channels) ts
      each place zero b ts e at_book at_own =
          first place b ts (omega (arith, e)) at_book cc
      each place (suc k) b ts e at_book at_own =
          from.each place k b ts (omega (arith, e)) at_book at_own

  -- all did
  pub closed-all : (n : ℕ) (tables : List (List TableValue)) → n ≡ 0 → AreClosedFrom n tables
      → AreClosed books seats channels tables
  closed-all n tables none from = record {
    many = let many = from.many in omega (arith, many, none);
    each = λ place book own at_book at_own.
        from.each place place book own (omega (arith, none)) at_book at_own;
  }
