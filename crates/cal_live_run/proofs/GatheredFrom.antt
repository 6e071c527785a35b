-- The tables from a place on stand beside what was left for them.
use Rattle.std.proofs.Common.{◌≡◌, ℕ, zero, suc, ◌+◌, List, [], ◌∷◌, ◌++◌, Some}
use Rattle.std.proofs.Common.{length, subst, sym, arith}
use Rattle.std.specs.Prelude.{slice_get}
use Rattle.cal_channel.specs.Values.{ChannelValue}
use Rattle.cal_handover.specs.Places.{tables_at}
use Rattle.cal_live_run.specs.Gathering.{AreGathered}
use Rattle.cal_table.specs.Tables.{TableValue}

module _ (tables : List TableValue) (channels : List (List ChannelValue)) where
  -- the tables of a place, for the table there
  abbrev IsGathered : ℕ → TableValue → List TableValue → Type 0
  IsGathered place table own = own ≡ tables_at place channels ++ table ∷ []

  -- those of each place from one on
  pub record AreGatheredFrom (n : ℕ) (alls : List (List TableValue)) : Type 0 where
    pub many : n + length alls ≡ length tables
    pub each : (place k : ℕ) (table : TableValue) (own : List TableValue) → place ≡ n + k
        → slice_get tables place ≡ Some table → slice_get alls k ≡ Some own
        → own ≡ tables_at place channels ++ table ∷ []

  -- of none yet
  pub gathered-none : AreGatheredFrom (length tables) []
  gathered-none = record {
    many = omega arith;
    each = λ place k table own e at_table at_own. cc;
  }

  -- of one more
  pub gathered-more : (n : ℕ) (table : TableValue) (own : List TableValue)
      (alls : List (List TableValue)) → AreGatheredFrom (suc n) alls
      → slice_get tables n ≡ Some table → own ≡ tables_at n channels ++ table ∷ []
      → AreGatheredFrom n (own ∷ alls)
  gathered-more n table own alls from at gathered = record {
    many = let many = from.many in omega (arith, many);
    each = each;
  }
    where
      here : (t : TableValue) (o : List TableValue) → slice_get tables n ≡ Some t → own ≡ o
          → IsGathered n t o
      here t o at_t e = cc

      each : (place k : ℕ) (t : TableValue) (o : List TableValue) → place ≡ n + k
          → slice_get tables place ≡ Some t → slice_get (own ∷ alls) k ≡ Some o
          → IsGathered place t o
      each place zero t o e at_t at_o =
          let same : n ≡ place = omega (arith, e) in
          subst (λ (p : ℕ). IsGathered p t o) same
          (here t o (subst (λ (p : ℕ). slice_get tables p ≡ Some t) (sym same) at_t) cc)
      each place (suc k) t o e at_t at_o = from.each place k t o (omega (arith, e)) at_t at_o

  -- of all
  pub gathered-all : (n : ℕ) (alls : List (List TableValue)) → n ≡ 0 → AreGatheredFrom n alls
      → AreGathered tables channels alls
  gathered-all n alls none from = record {
    many = let many = from.many in omega (arith, many, none);
    each = λ place table own at_table at_own.
        from.each place place table own (omega (arith, none)) at_table at_own;
  }
