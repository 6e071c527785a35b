-- The records in place of the rows of several tables have, together, the groups of a whole trace.
use Rattle.std.proofs.Common.{◌≡◌, ℕ, zero, suc, ◌<◌, false, ◌||◌, List, [], ◌∷◌, ◌++◌, length, map}
use Rattle.std.proofs.Common.{get_or, set, swap, refl, sym, ap, subst, ◌∙◌, arith, append-nil}
use Rattle.std.proofs.Common.{append_assoc, flat_map, IsPermutation}
use Rattle.std.specs.List.{AllByRecursion, AllZip, IsDistinct, list_any}
use Rattle.std.proofs.lemmas.Grind.{flat_map-append}
use Rattle.std.proofs.lemmas.List.Elements.{All-from_recursion, recursion_from_All}
use Rattle.std.proofs.lemmas.List.Sorted.{All-permutation, IsPermutation-append_comm}
use Rattle.std.proofs.lemmas.List.Sorted.{IsPermutation-append_left, IsPermutation-keeps}
use Rattle.std.proofs.lemmas.List.Sorted.{IsPermutation-sym, IsPermutation-trans}
use Rattle.cal_keys.specs.Groups.{is_group}
use Rattle.cal_engine.proofs.Partitions.{AreOnce, IsKept}
use Rattle.cal_profile.specs.Answers.{AnswerAlike}
use Rattle.cal_profile.specs.Declared.{HasSums, IsNamed, IsSnapshot, IsTrace}
use Rattle.cal_profile.specs.Groups.{HasPlainGroups, channel_query, group_records}
use Rattle.cal_profile.specs.StandIns.{StandsFor}
use Rattle.cal_profile.specs.TableRows.{AreRowsOf, KeyedRow, row_record, table_key, with_key}
use Rattle.cal_profile.proofs.ChannelRecords.{all_kept}
use Rattle.cal_profile.proofs.GroupOrder.{one_profile}
use Rattle.cal_profile.proofs.Reordering.{by_parts, reordered_alike}
use Rattle.cal_profile.proofs.Seeing.{after}
use Rattle.cal_profile.proofs.StandingIn.{stand_ins_answer}
use Rattle.cal_profile.proofs.TableAnswers.{channel_addable, channel_aggregated, plain_groups}
use Rattle.cal_profile.proofs.TableAnswers.{rows_stand}
use Rattle.cal_script.specs.declared.script.ChannelQuery.{ChannelQuery}
use Rattle.cal_table_rows.proofs.Zips.{AllZip-append}
use Rattle.cal_table_rows.specs.PartSums.{HasPartSums}
use Rattle.cal_value.specs.declared.attribute.Attribute.{Attribute}
use Rattle.cal_value.specs.declared.record.Rec.{Rec}

-- a list of lists, one behind another
abbrev whole_of : List (List Rec) → List Rec
whole_of parts = flat_map (λ (part : List Rec). part) parts

-- ---- what is kept of records in another order

-- items that are apart stand once
once_apart : (groups : List Rec) → IsDistinct is_group groups → AreOnce is_group groups
unfolding IsDistinct
once_apart [] h = tt
once_apart (g ∷ gs) h = (none gs h.0, once_apart gs h.1)
  where
    none : (gs : List Rec) → AllByRecursion (λ other. is_group g other ≡ false) gs
        → list_any (is_group g) gs ≡ false
    none [] all = refl
    none (other ∷ gs) all = λ i. all.0 i || none gs all.1 i

module _ {M : Type 0} {v : List Rec → M} {merge : M → M → M} (kept : IsKept v merge) where
  -- what is kept behind a record
  under : (r : Rec) (rs ss : List Rec) → v rs ≡ v ss → v (r ∷ rs) ≡ v (r ∷ ss)
  under r rs ss e =
      kept.merges (r ∷ []) rs ∙ ap (merge (v (r ∷ []))) e ∙ sym (kept.merges (r ∷ []) ss)

  -- the first two records change places
  exchanged : (r s : Rec) (rs : List Rec) → v (r ∷ s ∷ rs) ≡ v (s ∷ r ∷ rs)
  exchanged r s rs =
      kept.merges (r ∷ s ∷ []) rs
      ∙ ap (λ m. merge m (v rs)) (kept.commutes (r ∷ []) (s ∷ []))
      ∙ sym (kept.merges (s ∷ r ∷ []) rs)

  -- a record changes places with the one before all
  placed : (rs : List Rec) (j : ℕ) (r d : Rec) → j < length rs
      → v (get_or rs j d ∷ set rs j r) ≡ v (r ∷ rs)
  placed [] j r d within = absurd (omega arith)
  placed (s ∷ rs) zero r d within = exchanged s r rs
  placed (s ∷ rs) (suc j) r d within =
      exchanged (get_or rs j d) s (set rs j r)
      ∙ under s (get_or rs j d ∷ set rs j r) (r ∷ rs) (placed rs j r d (omega arith))
      ∙ exchanged s r rs

  -- two records change places
  swapped : (rs : List Rec) (i j : ℕ) (d : Rec) → i < length rs → j < length rs
      → v (set (set rs i (get_or rs j d)) j (get_or rs i d)) ≡ v rs
  swapped [] i j d one other = absurd (omega arith)
  swapped (s ∷ rs) zero zero d one other = refl
  swapped (s ∷ rs) zero (suc j) d one other = placed rs j s d (omega arith)
  swapped (s ∷ rs) (suc i) zero d one other = placed rs i s d (omega arith)
  swapped (s ∷ rs) (suc i) (suc j) d one other =
      under s (set (set rs i (get_or rs j d)) j (get_or rs i d)) rs
      (swapped rs i j d (omega arith) (omega arith))

  kept-swap : (rs : List Rec) (i j : ℕ) → i < length rs → j < length rs → v (swap rs i j) ≡ v rs
  kept-swap [] i j one other = refl
  kept-swap (s ∷ rs) i j one other = swapped (s ∷ rs) i j s one other

  -- so whatever is kept is kept in any order
  permuted : (rs ss : List Rec) → IsPermutation rs ss → v ss ≡ v rs
  permuted rs ss = IsPermutation-keeps rs (λ l. v l ≡ v rs) refl
      (λ l i j one other is. kept-swap l i j one other ∙ is) ss

-- ---- the parts of a trace

-- what holds of all items holds of those in front
all-front : {A : Type 0} (P : A → Type 0) (xs ys : List A) → AllByRecursion P (xs ++ ys)
    → AllByRecursion P xs
all-front P [] ys all = tt
all-front P (x ∷ xs) ys all = (all.0, all-front P xs ys all.1)

module _ (attributes : List Attribute) (channel : ChannelQuery) where
  -- a part of a trace: snapshots, whose sums aren't too large
  record IsPart (part : List Rec) : Type 0 where
    snapshots : AllByRecursion (IsSnapshot attributes) part
    sums : HasSums channel part

  -- all parts are, whatever else there is
  are_parts : (trace : List Rec) → IsTrace attributes channel trace → HasPartSums channel trace
      → (parts : List (List Rec)) (rest : List Rec) → IsPermutation (whole_of parts ++ rest) trace
      → AllByRecursion IsPart parts
  are_parts trace is sums [] rest order = tt
  are_parts trace is sums (part ∷ parts) rest order =
      let whole = whole_of parts in
      let first : IsPermutation (part ++ (whole ++ rest)) trace =
      subst (λ l. IsPermutation l trace) (append_assoc part whole rest) order in
      let turned : IsPermutation (whole ++ (part ++ rest)) ((part ++ whole) ++ rest) =
      subst (λ l. IsPermutation l ((part ++ whole) ++ rest)) (append_assoc whole part rest)
      (IsPermutation-append_left rest (whole ++ part) (part ++ whole)
      (IsPermutation-append_comm whole part)) in (
        record {
          snapshots = all-front (IsSnapshot attributes) part (whole ++ rest)
              (recursion_from_All (IsSnapshot attributes) (part ++ (whole ++ rest))
              (All-permutation (IsSnapshot attributes) trace (part ++ (whole ++ rest))
              (IsPermutation-sym (part ++ (whole ++ rest)) trace first)
              (All-from_recursion (IsSnapshot attributes) trace is.snapshots)));
          sums = sums part (whole ++ rest) first;
        },
        are_parts trace is sums parts (part ++ rest)
            (IsPermutation-trans (whole ++ (part ++ rest)) ((part ++ whole) ++ rest) trace turned
            order),
      )

-- ---- the rows of all parts

module _ (channel : ChannelQuery) where
  -- the records in place of the rows of tables
  abbrev all_rows : List (List KeyedRow) → List Rec
  all_rows keyed = flat_map (λ (rows : List KeyedRow). map (row_record channel) rows) keyed

  -- for each row of a part the snapshots with its key
  abbrev members : List Rec → List KeyedRow → List (List Rec)
  members part rows = map (λ (row : KeyedRow). with_key channel row.key part) rows

  -- so of all parts
  abbrev all_members : List (List Rec) → List (List KeyedRow) → List (List Rec)
  all_members [] keyed = []
  all_members (part ∷ parts) [] = []
  all_members (part ∷ parts) (rows ∷ keyed) = members part rows ++ all_members parts keyed

  members_are : (part : List Rec) (rows : List KeyedRow) → whole_of (members part rows)
      ≡ flat_map (λ key. with_key channel key part) (map (λ row. row.key) rows)
  members_are part [] = refl
  members_are part (row ∷ rows) =
      ap (λ rs. with_key channel row.key part ++ rs) (members_are part rows)

  -- whatever is kept of the members is kept of the parts
  members_kept : {M : Type 0} {v : List Rec → M} {merge : M → M → M} → IsKept v merge
      → (parts : List (List Rec)) (keyed : List (List KeyedRow))
      → AllZip (AreRowsOf channel) parts keyed
      → v (whole_of (all_members parts keyed)) ≡ v (whole_of parts)
  members_kept kept [] [] all = refl
  members_kept kept [] (rows ∷ keyed) all = absurd all
  members_kept kept (part ∷ parts) [] all = absurd all
  members_kept {v} {merge} kept (part ∷ parts) (rows ∷ keyed) all =
      let keys = map (λ (row : KeyedRow). row.key) rows in
      ap v (flat_map-append (λ (part : List Rec). part) (members part rows)
      (all_members parts keyed))
      ∙ kept.merges (whole_of (members part rows)) (whole_of (all_members parts keyed))
      ∙ (λ i. merge
      ((ap v (members_are part rows) ∙ by_parts kept (table_key channel) keys
      (once_apart keys all.0.once) part all.0.all) i)
      (members_kept kept parts keyed all.1 i))
      ∙ sym (kept.merges part (whole_of parts))

  module _ (attributes : List Attribute) (named : IsNamed attributes channel) where
    -- the records stand for the members
    all_stand : (parts : List (List Rec)) → AllByRecursion (IsPart attributes channel) parts
        → (keyed : List (List KeyedRow)) → AllZip (AreRowsOf channel) parts keyed
        → AllZip (StandsFor (channel_query channel)) (all_rows keyed) (all_members parts keyed)
    all_stand [] are [] all = tt
    all_stand [] are (rows ∷ keyed) all = absurd all
    all_stand (part ∷ parts) are [] all = absurd all
    all_stand (part ∷ parts) are (rows ∷ keyed) all =
        AllZip-append (StandsFor (channel_query channel)) (map (row_record channel) rows)
        (all_rows keyed) (members part rows) (all_members parts keyed)
        (rows_stand attributes channel named part are.0.snapshots are.0.sums rows all.0.each)
        (all_stand parts are.1 keyed all.1)

module _ (attributes : List Attribute) (channel : ChannelQuery) (trace : List Rec)
    (is : IsTrace attributes channel trace) (sums : HasPartSums channel trace)
    (parts : List (List Rec)) (keyed : List (List KeyedRow))
    (order : IsPermutation (whole_of parts) trace) (all : AllZip (AreRowsOf channel) parts keyed)
  where
    -- the records in place of all rows answer for the trace
    together_answer : AnswerAlike (channel_query channel) (all_rows channel keyed) trace
    together_answer =
        let addable = channel_addable channel is.named.once in
        let some = all_members channel parts keyed in
        after (channel_query channel) (all_rows channel keyed) (whole_of some) trace
        (stand_ins_answer (channel_query channel) addable (all_rows channel keyed) some
        (all_stand channel attributes is.named parts
        (are_parts attributes channel trace is sums parts []
        (subst (λ l. IsPermutation l trace) (sym (append-nil (whole_of parts))) order)) keyed all))
        (reordered_alike (channel_query channel) addable (whole_of some) trace
        (λ M v merge kept. members_kept channel kept parts keyed all
        ∙ sym (permuted kept (whole_of parts) trace order)))

    -- and have its groups
    pub together_groups : group_records (channel_query channel) (all_rows channel keyed)
        ≡ group_records (channel_query channel) trace
    together_groups =
        one_profile (channel_query channel) (channel_aggregated channel) refl
        (all_rows channel keyed) trace together_answer
        (subst (HasPlainGroups (channel_query channel)) (sym (all_kept channel trace))
        (plain_groups attributes channel is.named trace is.snapshots))
