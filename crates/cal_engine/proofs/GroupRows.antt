-- The rows of the groups of a fold are the rows of the query.
use Rattle.std.proofs.Common.{◌≡◌, ℕ, zero, suc, ◌<◌, Bool, true, false, true≢false, ◌||◌, List, [], ◌∷◌, ◌++◌, length, filter, map, fold, get_or, refl, sym, ap, ◌∙◌, arith}
use Rattle.std.specs.Prelude.{option_map}
use Rattle.std.specs.List.{cons_option, list_any}
use Rattle.std.proofs.lemmas.List.{length-append, map-append}
use Rattle.cal_agg.specs.declared.num.Num.{Num}
use Rattle.cal_filter.specs.Kept.{result_entry}
use Rattle.cal_filter.specs.Numbers.{value_of_number}
use Rattle.cal_ql.specs.declared.names.KernelName as kernels
use Rattle.cal_ql.specs.declared.names.KernelName.TheVariants as kernel
use Rattle.cal_ql.specs.declared.query.Agg.{Agg}
use Rattle.cal_ql.specs.declared.query.Query.{Query}
use Rattle.cal_value.specs.declared.record.Rec.{Rec}
use Rattle.cal_engine.specs.Finishing.{AreGroupParts, AreKept, GroupLists, entries_of_results, is_inclusive, lists_at, looks_beyond, parts_where, row_with, rows_by}
use Rattle.cal_engine.specs.Folding.{Grouped, groups_over}
use Rattle.cal_keys.specs.Groups.{group_of, groups_of, records_of}
use Rattle.cal_parts.specs.Kernels.{contributed, result_of}
use Rattle.cal_parts.specs.Parts.{Gathered, merged_parts, parts_over}
use Rattle.cal_engine.specs.Rows.{is_below, records_below, row_of}
use Rattle.cal_engine.proofs.Gathering.{group_laws, group_same}
use Rattle.cal_parts.proofs.Merging.{parts_over-append, parts_over-swap}
use Rattle.cal_engine.proofs.Partitions.{IsKept, groups_where}
use Rattle.cal_engine.proofs.Results.{parts_where-map}

pub read_map : {A B : Type 0} (f : A → B) (xs : List A) (n : ℕ) (x : A) (y : B) → n < length xs → x ≡ get_or xs n x → y ≡ get_or (map f xs) n y → y ≡ f x
read_map f [] n x y l e g = absurd (omega arith)
read_map f (z ∷ zs) zero x y l e g = g ∙ ap f (sym e)
read_map f (z ∷ zs) (suc n) x y l e g = read_map f zs n x y (omega arith) e g

pub mapped_at : {A B : Type 0} (f : A → B) (xs : List A) (n : ℕ) (x : A) → n < length xs → x ≡ get_or xs n x
    → (n < length (map f xs)) × (f x ≡ get_or (map f xs) n (f x))
mapped_at f [] n x l e = absurd (omega arith)
mapped_at f (y ∷ ys) zero x l e = (omega arith, ap f e)
mapped_at f (y ∷ ys) (suc n) x l e = let rest = mapped_at f ys n x (omega arith) e in (omega (arith, rest.0), rest.1)

-- what is kept for one group
pub kept_at : (aggs : List Agg) (g : GroupLists) (keys : List Rec) (parts : List (List Gathered)) (all : List Gathered) (below : List (List Gathered))
    (n : ℕ) (key : Rec) (own lower : List Gathered)
    → AreGroupParts aggs g keys parts all below → n < length keys
    → key ≡ get_or keys n key → own ≡ get_or parts n own → lower ≡ get_or below n lower
    → AreKept aggs (lists_at g key) own all lower
kept_at aggs g keys parts all below n key own lower are l e f h = record {
  own = read_map (λ k. parts_over aggs (g.own k)) keys n key own l e (f ∙ ap (λ ps. get_or ps n own) are.own);
  all = are.all;
  below = read_map (λ k. parts_over aggs (g.below k)) keys n key lower l e (h ∙ ap (λ ps. get_or ps n lower) are.below);
}

-- the key behind those that are done
pub key_at : (keys done rest : List Rec) (key : Rec) (n : ℕ) → done ++ key ∷ rest ≡ keys → n ≡ length done → (n < length keys) × (key ≡ get_or keys n key)
key_at keys done rest key n split e = (
  omega (arith, e, ap length (sym split), length-append done (key ∷ rest)),
  sym (ap (λ i. get_or keys i key) e ∙ ap (λ ks. get_or ks (length done) key) (sym split) ∙ seam done),
)
  where
    seam : (ks : List Rec) → get_or (ks ++ key ∷ rest) (length ks) key ≡ key
    seam [] = refl
    seam (k ∷ ks) = seam ks

pub none_left : {A : Type 0} (xs : List A) → length xs ≡ 0 → xs ≡ []
none_left [] e = refl
none_left (x ∷ xs) e = absurd (omega (arith, e))

-- one row more
pub rows_next : (aggs : List Agg) (g : GroupLists) (done : List Rec) (key : Rec) (before now : List Rec) (row : Rec)
    → before ≡ rows_by aggs g done → now ≡ before ++ row ∷ [] → row ≡ row_with key (entries_of_results aggs (lists_at g key))
    → now ≡ rows_by aggs g (done ++ key ∷ [])
rows_next aggs g done key before now row is step row_is =
    let f = λ (k : Rec). row_with k (entries_of_results aggs (lists_at g k)) in
    step
    ∙ (λ i. is i ++ row_is i ∷ [])
    ∙ sym (map-append f done (key ∷ []))

-- ---- only `inclusive_sum` looks below

result_alike : (k : kernels.KernelName) → is_inclusive k ≡ false → (own all one other : List Num) → result_of k own all one ≡ result_of k own all other
result_alike kernel.Count h own all one other = refl
result_alike kernel.Sum h own all one other = refl
result_alike kernel.Min h own all one other = refl
result_alike kernel.Max h own all one other = refl
result_alike kernel.Avg h own all one other = refl
result_alike kernel.Percent h own all one other = refl
result_alike kernel.Inclusive h own all one other = absurd (true≢false h)

either_false : (a b : Bool) → (a || b) ≡ false → (a ≡ false) × (b ≡ false)
either_false true b e = absurd (true≢false e)
either_false false b e = (refl, e)

entries_alike : (aggs : List Agg) → list_any (λ agg. is_inclusive agg.kernel) aggs ≡ false → (own all one other : List Rec)
    → entries_of_results aggs (record { own = own; all = all; below = one }) ≡ entries_of_results aggs (record { own = own; all = all; below = other })
entries_alike [] h own all one other = refl
entries_alike (agg ∷ aggs) h own all one other =
    let each = either_false (is_inclusive agg.kernel) (list_any (λ agg. is_inclusive agg.kernel) aggs) h in
    let first = ap (option_map (λ n. result_entry agg.name (value_of_number n)))
    (result_alike agg.kernel each.0 (contributed agg own) (contributed agg all) (contributed agg one) (contributed agg other)) in
    λ i. cons_option (first i) (entries_alike aggs each.1 own all one other i)

-- the lists of groups that don't look below
abbrev pub flat_lists : GroupLists → GroupLists
flat_lists g = record { own = g.own; all = g.all; below = g.own }

pub rows_alike : (aggs : List Agg) (g : GroupLists) (keys : List Rec) → list_any (λ agg. is_inclusive agg.kernel) aggs ≡ false
    → rows_by aggs (flat_lists g) keys ≡ rows_by aggs g keys
rows_alike aggs g keys h =
    λ i. map (λ key. row_with key (entries_alike aggs h (g.own key) g.all (g.own key) (g.below key) i)) keys

-- ---- and it and `percent_total` beyond a group

result_alone : (k : kernels.KernelName) → looks_beyond k ≡ false → (own all below one other : List Num)
    → result_of k own all below ≡ result_of k own one other
result_alone kernel.Count h own all below one other = refl
result_alone kernel.Sum h own all below one other = refl
result_alone kernel.Min h own all below one other = refl
result_alone kernel.Max h own all below one other = refl
result_alone kernel.Avg h own all below one other = refl
result_alone kernel.Percent h own all below one other = absurd (true≢false h)
result_alone kernel.Inclusive h own all below one other = absurd (true≢false h)

entries_alone : (aggs : List Agg) → list_any (λ agg. looks_beyond agg.kernel) aggs ≡ false → (own all below one other : List Rec)
    → entries_of_results aggs (record { own = own; all = all; below = below }) ≡ entries_of_results aggs (record { own = own; all = one; below = other })
entries_alone [] h own all below one other = refl
entries_alone (agg ∷ aggs) h own all below one other =
    let each = either_false (looks_beyond agg.kernel) (list_any (λ agg. looks_beyond agg.kernel) aggs) h in
    let first = ap (option_map (λ n. result_entry agg.name (value_of_number n)))
    (result_alone agg.kernel each.0 (contributed agg own) (contributed agg all) (contributed agg below) (contributed agg one) (contributed agg other)) in
    λ i. cons_option (first i) (entries_alone aggs each.1 own all below one other i)

-- the lists of groups that don't look beyond
abbrev pub lone_lists : GroupLists → GroupLists
lone_lists g = record { own = g.own; all = []; below = g.own }

pub rows_alone : (aggs : List Agg) (g : GroupLists) (keys : List Rec) → list_any (λ agg. looks_beyond agg.kernel) aggs ≡ false
    → rows_by aggs (lone_lists g) keys ≡ rows_by aggs g keys
rows_alone aggs g keys h =
    λ i. map (λ key. row_with key (entries_alone aggs h (g.own key) [] (g.own key) g.all (g.below key) i)) keys

parts_are_kept : (aggs : List Agg) → IsKept (parts_over aggs) merged_parts
parts_are_kept aggs = record { merges = parts_over-append aggs; commutes = parts_over-swap aggs }

all_pass : {A : Type 0} (xs : List A) → filter (λ x. true) xs ≡ xs
all_pass [] = refl
all_pass (x ∷ xs) = ap (λ ys. x ∷ ys) (all_pass xs)

module _ (q : Query) (rs : List Rec) where
  -- the lists of records of the query's groups
  abbrev pub query_lists : GroupLists
  query_lists = record {
    own = λ key. records_of q.group key rs;
    all = rs;
    below = λ key. records_below q.group key rs;
  }

  all_groups : fold merged_parts (parts_over q.aggs []) (map (λ key. parts_over q.aggs (records_of q.group key rs)) (groups_of q.group rs)) ≡ parts_over q.aggs rs
  all_groups =
      ap (λ gs. fold merged_parts (parts_over q.aggs []) (map (λ key. parts_over q.aggs (records_of q.group key rs)) gs)) (sym (all_pass (groups_of q.group rs)))
      ∙ groups_where (parts_are_kept q.aggs) group_laws group_same (group_of q.group) (λ key. true) rs
      ∙ ap (parts_over q.aggs) (all_pass rs)

  groups_below : (key : Rec) (parts : List (List Gathered))
      → parts ≡ map (λ key. parts_over q.aggs (records_of q.group key rs)) (groups_of q.group rs)
      → fold merged_parts (parts_over q.aggs []) (parts_where (is_below key) (groups_of q.group rs) parts) ≡ parts_over q.aggs (records_below q.group key rs)
  groups_below key parts is =
      ap (λ ps. fold merged_parts (parts_over q.aggs []) (parts_where (is_below key) (groups_of q.group rs) ps)) is
      ∙ ap (fold merged_parts (parts_over q.aggs [])) (parts_where-map (is_below key) (λ key. parts_over q.aggs (records_of q.group key rs)) (groups_of q.group rs))
      ∙ groups_where (parts_are_kept q.aggs) group_laws group_same (group_of q.group) (is_below key) rs

  map_alike : {A B : Type 0} (f g : A → B) → ((x : A) → f x ≡ g x) → (xs : List A) → map f xs ≡ map g xs
  map_alike f g same [] = refl
  map_alike f g same (x ∷ xs) = λ i. same x i ∷ map_alike f g same xs i

  -- So what a fold of groups comes to is what is kept of these lists.
  pub query_parts : (groups : Grouped) (none all : List Gathered) (below : List (List Gathered))
      → groups ≡ groups_over q rs → none ≡ parts_over q.aggs []
      → all ≡ fold merged_parts none groups.parts
      → below ≡ map (λ key. fold merged_parts none (parts_where (is_below key) groups.keys groups.parts)) groups.keys
      → AreGroupParts q.aggs query_lists groups.keys groups.parts all below
  query_parts groups none all below is none_is all_is below_is =
      let keys = ap (λ g. g.keys) is in
      let parts = ap (λ g. g.parts) is in
      record {
        own = parts ∙ ap (map (λ key. parts_over q.aggs (records_of q.group key rs))) (sym keys);
        all = all_is ∙ (λ i. fold merged_parts (none_is i) (parts i)) ∙ all_groups;
        below =
            below_is
            ∙ (λ i. map (λ key. fold merged_parts (none_is i) (parts_where (is_below key) (keys i) groups.parts)) groups.keys)
            ∙ map_alike (λ key. fold merged_parts (parts_over q.aggs []) (parts_where (is_below key) (groups_of q.group rs) groups.parts)) (λ key. parts_over q.aggs (records_below q.group key rs)) (λ key. groups_below key groups.parts parts) groups.keys;
      }

  -- without groups below
  pub flat_parts : (groups : Grouped) (none all : List Gathered)
      → groups ≡ groups_over q rs → none ≡ parts_over q.aggs []
      → all ≡ fold merged_parts none groups.parts
      → AreGroupParts q.aggs (flat_lists query_lists) groups.keys groups.parts all groups.parts
  flat_parts groups none all is none_is all_is =
      let keys = ap (λ g. g.keys) is in
      let parts = ap (λ g. g.parts) is in
      let own = parts ∙ ap (map (λ key. parts_over q.aggs (records_of q.group key rs))) (sym keys) in
      record {
        own = own;
        all = all_is ∙ (λ i. fold merged_parts (none_is i) (parts i)) ∙ all_groups;
        below = own;
      }

  -- or without any others
  pub lone_parts : (groups : Grouped) (none : List Gathered) → groups ≡ groups_over q rs → none ≡ parts_over q.aggs []
      → AreGroupParts q.aggs (lone_lists query_lists) groups.keys groups.parts none groups.parts
  lone_parts groups none is none_is =
      let keys = ap (λ g. g.keys) is in
      let own = ap (λ g. g.parts) is ∙ ap (map (λ key. parts_over q.aggs (records_of q.group key rs))) (sym keys) in
      record { own = own; all = none_is; below = own }

  -- and their rows are the query's
  pub query_rows : (keys rows : List Rec) → keys ≡ groups_of q.group rs → rows ≡ rows_by q.aggs query_lists keys → rows ≡ map (row_of q rs) (groups_of q.group rs)
  query_rows keys rows is step = step ∙ ap (rows_by q.aggs query_lists) is
