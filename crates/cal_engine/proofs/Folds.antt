-- A fold with one more record.
use Rattle.std.proofs.Common.{◌≡◌, ℕ, suc, Bool, true, false, ◌&&◌, true≢false, List, [], ◌∷◌, ◌++◌, Option, None, Some, if◌then◌else◌, length, map, refl, sym, ap, ◌∙◌, subst, append-nil, arith}
use Rattle.std.specs.Prelude.{◌==◌}
use Rattle.std.specs.List.{cons_option, filter_map}
use Rattle.std.proofs.lemmas.Bool.Decides.{Decides-eqb}
use Rattle.std.proofs.lemmas.List.Elements.{filter_map-append}
use Rattle.cal_filter.specs.Conditions.{where_holds}
use Rattle.cal_filter.specs.Kept.{kept, with_lets}
use Rattle.cal_ql.specs.declared.query.Cond.{Cond}
use Rattle.cal_ql.specs.declared.query.Let.{Let}
use Rattle.cal_ql.specs.declared.query.Agg.{Agg}
use Rattle.cal_ql.specs.declared.query.Query.{Query}
use Rattle.cal_value.specs.declared.record.Rec.{Rec}
use Rattle.cal_keys.specs.Groups.{group_of, groups_of}
use Rattle.cal_parts.specs.Kernels.{contributions}
use Rattle.cal_parts.specs.Parts.{Gathered, part_over, parts_over}
use Rattle.cal_parts.specs.Readings.{parts_of, reading_of}
use Rattle.cal_engine.specs.Folding.{Folded, Gathers, Grouped, IsFolded, StandsFor, folded, groups_over, no_groups}
use Rattle.cal_engine.specs.Rows.{is_aggregated, row_of, rows_of}
use Rattle.cal_engine.proofs.Gathering.{groups_over-Gathers}

-- what is read of one record is what is kept of it alone
pub parts_of_one : (aggs : List Agg) (r : Rec) → parts_of (map reading_of aggs) r ≡ parts_over aggs (r ∷ [])
parts_of_one [] r = refl
parts_of_one (agg ∷ aggs) r =
    let first = ap (part_over agg.kernel) (sym (append-nil (contributions agg.kernel agg.attr r))) in
    λ i. first i ∷ parts_of_one aggs r i

module _ (q : Query) (rs : List Rec) (r : Rec) (old : Folded) (is : old ≡ folded q rs) where
  query_is : old.query ≡ q
  query_is = ap (λ f. f.query) is

  -- where the query is aggregated, one more record goes to its group
  pub folded_grouped : (groups : Grouped) (parts : List Gathered) → is_aggregated old.query ≡ true
      → parts ≡ parts_of (map reading_of old.query.aggs) r
      → Gathers old.groups (group_of old.query.group r) parts groups
      → record { query = old.query; groups = groups; rows = old.rows } ≡ folded q (rs ++ r ∷ [])
  folded_grouped groups parts aggregated read gathers =
      λ i. record { query = query_is i; groups = gathered i; rows = rows i }
    where
      so : is_aggregated q ≡ true
      so = ap is_aggregated (sym query_is) ∙ aggregated

      was : old.groups ≡ groups_over q rs
      was = ap (λ f. f.groups) is ∙ ap (λ b. if b then groups_over q rs else no_groups) so

      fresh : parts ≡ parts_over q.aggs (r ∷ [])
      fresh = read ∙ ap (λ p. parts_of (map reading_of p.aggs) r) query_is ∙ parts_of_one q.aggs r

      so_gathers : Gathers old.groups (group_of q.group r) (parts_over q.aggs (r ∷ [])) groups
      so_gathers =
          subst (λ ps. Gathers old.groups (group_of q.group r) ps groups) fresh
          (subst (λ p. Gathers old.groups (group_of p.group r) parts groups) query_is gathers)

      gathered : groups ≡ (if is_aggregated q then groups_over q (rs ++ r ∷ []) else no_groups)
      gathered =
          groups_over-Gathers q rs r old.groups groups was so_gathers
          ∙ ap (λ b. if b then groups_over q (rs ++ r ∷ []) else no_groups) (sym so)

      rows : old.rows ≡ (if is_aggregated q then [] else rs ++ r ∷ [])
      rows =
          ap (λ f. f.rows) is
          ∙ ap (λ b. if b then [] else rs) so
          ∙ ap (λ b. if b then [] else rs ++ r ∷ []) (sym so)

  -- and else at the end of the kept ones
  pub folded_row : is_aggregated old.query ≡ false
      → record { query = old.query; groups = old.groups; rows = old.rows ++ r ∷ [] } ≡ folded q (rs ++ r ∷ [])
  folded_row aggregated =
      λ i. record { query = query_is i; groups = groups i; rows = rows i }
    where
      so : is_aggregated q ≡ false
      so = ap is_aggregated (sym query_is) ∙ aggregated

      groups : old.groups ≡ (if is_aggregated q then groups_over q (rs ++ r ∷ []) else no_groups)
      groups =
          ap (λ f. f.groups) is
          ∙ ap (λ b. if b then groups_over q rs else no_groups) so
          ∙ ap (λ b. if b then groups_over q (rs ++ r ∷ []) else no_groups) (sym so)

      rows : old.rows ++ r ∷ [] ≡ (if is_aggregated q then [] else rs ++ r ∷ [])
      rows =
          ap (λ f. f.rows ++ r ∷ []) is
          ∙ ap (λ b. (if b then [] else rs) ++ r ∷ []) so
          ∙ ap (λ b. if b then [] else rs ++ r ∷ []) (sym so)

-- what is kept of one more record
pub kept_more : (q : Query) (rs : List Rec) (r : Rec) (o : Option Rec) → o ≡ kept q r
    → filter_map (kept q) (rs ++ r ∷ []) ≡ filter_map (kept q) rs ++ cons_option o []
kept_more q rs r o is =
    filter_map-append (kept q) rs (r ∷ [])
    ∙ ap (λ p. filter_map (kept q) rs ++ cons_option p []) (sym is)

-- a record that WHERE drops leaves the fold
pub stands_without : (q : Query) (rs : List Rec) (r : Rec) (fold : Folded) → None ≡ kept q r → StandsFor q rs fold → StandsFor q (rs ++ r ∷ []) fold
stands_without q rs r fold dropped stands =
    stands ∙ ap (folded q) (sym (kept_more q rs r None dropped ∙ append-nil (filter_map (kept q) rs)))

-- and one that it keeps is added
pub stands_with : (q : Query) (rs : List Rec) (r made : Rec) (new : Folded) → Some made ≡ kept q r
    → new ≡ folded q (filter_map (kept q) rs ++ made ∷ []) → StandsFor q (rs ++ r ∷ []) new
stands_with q rs r made new is step = step ∙ ap (folded q) (sym (kept_more q rs r (Some made) is))

-- two folds merged
pub folded_merged : (q : Query) (ks ls : List Rec) (one other : Folded) (groups : Grouped) (rows : List Rec)
    → one ≡ folded q ks → other ≡ folded q ls
    → ((p : Query) (rs ss : List Rec) → one.groups ≡ groups_over p rs → other.groups ≡ groups_over p ss → groups ≡ groups_over p (rs ++ ss))
    → rows ≡ one.rows ++ other.rows
    → record { query = one.query; groups = groups; rows = rows } ≡ folded q (ks ++ ls)
folded_merged q ks ls one other groups rows is also merges joined =
    by (is_aggregated q) refl
  where
    one_groups : one.groups ≡ (if is_aggregated q then groups_over q ks else no_groups)
    one_groups = ap (λ f. f.groups) is

    other_groups : other.groups ≡ (if is_aggregated q then groups_over q ls else no_groups)
    other_groups = ap (λ f. f.groups) also

    both_rows : rows ≡ (if is_aggregated q then [] else ks) ++ (if is_aggregated q then [] else ls)
    both_rows = joined ∙ (λ i. (is i).rows ++ (also i).rows)

    by : (b : Bool) → is_aggregated q ≡ b → record { query = one.query; groups = groups; rows = rows } ≡ folded q (ks ++ ls)
    by true e =
        let gathered = merges q ks ls (one_groups ∙ ap (λ b. if b then groups_over q ks else no_groups) e) (other_groups ∙ ap (λ b. if b then groups_over q ls else no_groups) e) in
        λ i. record {
          query = (is i).query;
          groups = (gathered ∙ ap (λ b. if b then groups_over q (ks ++ ls) else no_groups) (sym e)) i;
          rows = (both_rows ∙ ap (λ b. (if b then [] else ks) ++ (if b then [] else ls)) e ∙ ap (λ b. if b then [] else ks ++ ls) (sym e)) i;
        }
    by false e =
        let gathered = merges q [] [] (one_groups ∙ ap (λ b. if b then groups_over q ks else no_groups) e) (other_groups ∙ ap (λ b. if b then groups_over q ls else no_groups) e) in
        λ i. record {
          query = (is i).query;
          groups = (gathered ∙ ap (λ b. if b then groups_over q (ks ++ ls) else no_groups) (sym e)) i;
          rows = (both_rows ∙ ap (λ b. (if b then [] else ks) ++ (if b then [] else ls)) e ∙ ap (λ b. if b then [] else ks ++ ls) (sym e)) i;
        }

-- and what they stand for
pub stands_merged : (q : Query) (rs ss : List Rec) (new : Folded)
    → new ≡ folded q (filter_map (kept q) rs ++ filter_map (kept q) ss) → StandsFor q (rs ++ ss) new
stands_merged q rs ss new is = is ∙ ap (folded q) (sym (filter_map-append (kept q) rs ss))

-- the rows of a fold before they are ordered
pub rows_grouped : (q : Query) (groups : Grouped) (rows rs made : List Rec) → IsFolded q groups rows rs → is_aggregated q ≡ true
    → (groups ≡ groups_over q rs → made ≡ map (row_of q rs) (groups_of q.group rs)) → made ≡ rows_of q rs
rows_grouped q groups rows rs made is aggregated makes =
    makes (ap (λ f. f.groups) is ∙ ap (λ b. if b then groups_over q rs else no_groups) aggregated)
    ∙ sym (ap (λ b. if b then map (row_of q rs) (groups_of q.group rs) else rs) aggregated)

pub rows_kept : (q : Query) (groups : Grouped) (rows rs : List Rec) → IsFolded q groups rows rs → is_aggregated q ≡ false → rows ≡ rows_of q rs
rows_kept q groups rows rs is aggregated =
    ap (λ f. f.rows) is
    ∙ ap (λ b. if b then [] else rs) aggregated
    ∙ sym (ap (λ b. if b then map (row_of q rs) (groups_of q.group rs) else rs) aggregated)

no_zero : (n : ℕ) → (suc n == 0) ≡ false
no_zero n = by (suc n == 0) refl
  where
    by : (b : Bool) → (suc n == 0) ≡ b → (suc n == 0) ≡ false
    by true e = let zero_is = (Decides-eqb (suc n) 0).0 e in absurd (omega (arith, zero_is))
    by false e = e

-- without LET and WHERE each record is kept as it is
pub kept_plain : (q : Query) (r : Rec) → (length q.lets == 0 && length q.conds == 0) ≡ true → Some r ≡ kept q r
kept_plain q r plain = by q.lets q.conds plain
  where
    by : (ls : List Let) (cs : List Cond) → (length ls == 0 && length cs == 0) ≡ true
        → Some r ≡ (if where_holds cs (with_lets ls r) then Some (with_lets ls r) else None)
    by [] [] plain = refl
    by [] (x ∷ cs) plain = absurd (true≢false (sym plain ∙ no_zero (length cs)))
    by (x ∷ ls) cs plain = absurd (true≢false (sym plain ∙ ap (λ b. b && (length cs == 0)) (no_zero (length ls))))
