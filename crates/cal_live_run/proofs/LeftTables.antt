-- The tables that wait while what is left for them is put beside them, from the last one on.
use Rattle.std.proofs.Common.{◌≡◌, ℕ, suc, ◌+◌, ◌<◌, List, [], ◌∷◌, ◌++◌, Some}
use Rattle.std.proofs.Common.{length, map, take, sym, ap, ◌∙◌, arith, subst}
use Rattle.std.proofs.Common.{add-one, length-append}
use Rattle.std.specs.List.{All}
use Rattle.std.specs.Prelude.{slice_get}
use Rattle.std.proofs.lemmas.List.{take_all}
use Rattle.cal_channel.specs.Values.{ChannelValue}
use Rattle.cal_handover.proofs.FromPlace.{channels-all, channels-next, channels-none}
use Rattle.cal_handover.proofs.FromPlace.{channels-same, channels-within, emptied_from}
use Rattle.cal_handover.proofs.FromPlace.{popped-at, popped-rest}
use Rattle.cal_handover.specs.Places.{emptied, emptied_at, tables_at, tables_of}
use Rattle.cal_live_run.proofs.GatheredFrom.{AreGatheredFrom, gathered-all, gathered-more}
use Rattle.cal_live_run.proofs.GatheredFrom.{gathered-none}
use Rattle.cal_live_run.specs.Gathering.{AreGathered, MayGatherAll}
use Rattle.cal_table.specs.Tables.{TableValue}

module _ (tables : List TableValue) (channels : List (List ChannelValue)) where
  -- These tables are left, with the channels that belong to them; the others stand beside what was
  -- left for them.
  pub record AreLeft (left : List TableValue) (left_channels : List (List ChannelValue))
      (alls : List (List TableValue)) : Type 0 where
    pub tables_are : left ≡ take (length left) tables
    pub channels_are : left_channels ≡ map (emptied_from (length left)) channels
    pub gathered : AreGatheredFrom tables channels (length left) alls

  -- all are
  pub all-left : MayGatherAll tables channels → (alls : List (List TableValue)) → alls ≡ []
      → AreLeft tables channels alls
  all-left may alls none = record {
    tables_are = sym (take_all (length tables) tables (omega arith));
    channels_are = sym (channels-none (length tables) channels may);
    gathered = subst (λ (ts : List (List TableValue)).
        AreGatheredFrom tables channels (length tables) ts) (sym none)
        (gathered-none tables channels);
  }

  -- none is
  module _ (left : List TableValue) (left_channels : List (List ChannelValue))
      (alls : List (List TableValue)) (h : AreLeft left left_channels alls)
      (none : length left ≡ 0) where
    pub all-gathered : AreGathered tables channels alls
    all-gathered = gathered-all tables channels (length left) alls none h.gathered

    pub all-emptied : left_channels ≡ map (map emptied) channels
    all-emptied = h.channels_are ∙ ap (λ (n : ℕ). map (emptied_from n) channels) none
        ∙ channels-all channels

  -- the last one of those that are left
  module _ (may : MayGatherAll tables channels) (left rest : List TableValue) (table : TableValue)
      (left_channels : List (List ChannelValue)) (alls : List (List TableValue))
      (h : AreLeft left left_channels alls) (pop : left ≡ rest ++ table ∷ []) (place : ℕ)
      (at : place ≡ length rest) where
    long : length left ≡ suc (length rest)
    long = ap length pop ∙ length-append rest (table ∷ []) ∙ add-one (length rest)

    less : length rest < length tables
    less = let many = h.gathered.many in let l = long in omega (arith, many, l)

    channels-are : left_channels ≡ map (emptied_from (suc (length rest))) channels
    channels-are = h.channels_are ∙ ap (λ (n : ℕ). map (emptied_from n) channels) long

    tables-here : tables_at place left_channels ≡ tables_at (length rest) channels
    tables-here = ap (λ (n : ℕ). tables_at n left_channels) at
        ∙ ap (tables_at (length rest)) channels-are
        ∙ ap tables_of (channels-same (length rest) channels)

    table-at : slice_get tables (length rest) ≡ Some table
    table-at = popped-at tables left rest table h.tables_are pop

    -- its channels are there
    pub channels-there : All (λ (own : List ChannelValue). place < length own) left_channels
    channels-there =
        let ones : List (List ChannelValue) → Type 0 =
        λ lists. All (λ (own : List ChannelValue). length rest < length own) lists in
        let at_last : ℕ → Type 0 =
        λ n. All (λ (own : List ChannelValue). n < length own) left_channels in
        subst at_last (sym at) (subst ones (sym channels-are)
        (channels-within (length tables) (length rest) channels less may))

    -- what is left there is put beside it, and the others are left
    pub one-gathered : (rest_channels : List (List ChannelValue)) (own : List TableValue)
        → rest_channels ≡ map (emptied_at place) left_channels
        → own ≡ tables_at place left_channels ++ table ∷ []
        → AreLeft rest rest_channels (own ∷ alls)
    one-gathered rest_channels own k are = record {
      tables_are = popped-rest tables left rest table h.tables_are pop;
      channels_are = k ∙ ap (λ (n : ℕ). map (emptied_at n) left_channels) at
          ∙ ap (map (emptied_at (length rest))) channels-are
          ∙ channels-next (length rest) channels;
      gathered = gathered-more tables channels (length rest) table own alls
          (subst (λ (n : ℕ). AreGatheredFrom tables channels n alls) long h.gathered) table-at
          (are ∙ ap (λ (ts : List TableValue). ts ++ table ∷ []) tables-here);
    }
