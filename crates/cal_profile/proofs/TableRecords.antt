-- The record in place of a table's row brings to each kernel what the snapshots with its key do.
use Rattle.std.proofs.Common.{◌≡◌, ℕ, zero, suc, ◌<◌, ◌-◌, ℤ, pos, ◌+ℤ◌, true, List, [], ◌∷◌, ◌++◌}
use Rattle.std.proofs.Common.{filter, length, map, refl, sym, ap, subst, ◌∙◌, arith, append-nil}
use Rattle.std.proofs.Common.{append_assoc, Option, None, Some, Contains, replicate}
use Rattle.std.specs.Prelude.{codes, flat_map, unwrap_or, zip}
use Rattle.std.specs.Int.{int_max, int_min}
use Rattle.std.specs.List.{AllByRecursion, cons_option, filter_map, last_or}
use Rattle.std.specs.Option.{option_to_list}
use Rattle.std.proofs.lemmas.Int.{ints}
use Rattle.std.proofs.lemmas.List.Elements.{filter-append, filter_map-append}
use Rattle.cal_agg.specs.Results.{count_of, sum_of}
use Rattle.cal_agg.specs.Rows.{cell_over}
use Rattle.cal_agg.specs.Shown.{greatest_of_added, least_of_added, sum_held, sum_of_added, value_by}
use Rattle.cal_agg.specs.Parts.{greatest_over, least_over, sum_over}
use Rattle.cal_agg.specs.declared.cell.Cell.{Cell}
use Rattle.cal_agg.specs.declared.num.Num.{Num}
use Rattle.cal_agg.specs.declared.num.Num.TheVariants.{Whole, Fixed}
use Rattle.cal_agg.specs.declared.row.AggRow.{AggRow}
use Rattle.cal_parts.specs.Kernels.{contributed, contributions, number_sought, weight}
use Rattle.cal_filter.specs.Named.{entries_named, is_named, last_number}
use Rattle.cal_filter.specs.Numbers.{number_in}
use Rattle.cal_profile.specs.Declared.{IsDeclared, IsNamed, IsSnapshot, props_of}
use Rattle.cal_profile.specs.Groups.{agg_of, aggs_of, channel_query, value_aggs}
use Rattle.cal_profile.specs.StandIns.{Brings, brought}
use Rattle.cal_profile.specs.TableRows.{KeyedRow, cell_entries, last_among, numbers_of, others_of}
use Rattle.cal_profile.specs.TableRows.{row_entries, row_over, row_record, row_result, table_key}
use Rattle.cal_profile.proofs.Bringing.{brought_again, found_alone}
use Rattle.cal_profile.proofs.EqualNumbers.{least_equal, most_equal, sum_shared}
use Rattle.cal_profile.proofs.Kernels.{aggs_are, count_kept, kept_distinct, least_kept, most_kept}
use Rattle.cal_profile.proofs.Kernels.{sum_kept}
use Rattle.cal_profile.proofs.KeptKeys.{some_of}
use Rattle.cal_profile.proofs.Lists.{holds_of, holds_of_all}
use Rattle.cal_profile.proofs.Profiles.{second_alone, sum_brought}
use Rattle.cal_profile.proofs.ResultEntries.{entry_of, named_other, number_again, results_apart}
use Rattle.cal_profile.proofs.ResultEntries.{results_named}
use Rattle.cal_profile.proofs.RowAgrees.{imms_without, no_result, paths_without}
use Rattle.cal_profile.proofs.TableNumbers.{key_without, last_in, split}
use Rattle.cal_ql.specs.Kernels.{result_name}
use Rattle.cal_ql.specs.declared.names.KernelName as kernels
use Rattle.cal_ql.specs.declared.names.KernelName.TheVariants as kernel
use Rattle.cal_ql.specs.declared.query.Agg.{Agg}
use Rattle.cal_script.specs.declared.script.ChannelQuery.{ChannelQuery}
use Rattle.cal_value.specs.Flat.{flat, joined}
use Rattle.cal_value.specs.declared.attribute.Attribute.{Attribute}
use Rattle.cal_value.specs.declared.attribute.Entry.{Entry}
use Rattle.cal_value.specs.declared.record.Rec.{Rec}

-- ---- lists of numbers

-- of two numbers the second is missing
first_alone : (m n o : Option Num) → m ≡ o → n ≡ None
    → cons_option m (cons_option n []) ≡ option_to_list o
first_alone m n o first second =
    (λ i. cons_option (first i) (cons_option (second i) [])) ∙ one o
  where
    one : (o : Option Num) → cons_option o (cons_option None []) ≡ option_to_list o
    one None = refl
    one (Some n) = refl

-- what is the same of each
all_same : (f : Rec → List Num) (n : Num) (ms : List Rec)
    → AllByRecursion (λ m. f m ≡ n ∷ []) ms → flat_map f ms ≡ replicate (length ms) n
all_same f n [] all = refl
all_same f n (m ∷ ms) all = λ i. all.0 i ++ all_same f n ms all.1 i

all_found : (f : Rec → List Num) (g : Rec → Option Num) (ms : List Rec)
    → AllByRecursion (λ m. f m ≡ option_to_list (g m)) ms → flat_map f ms ≡ filter_map g ms
all_found f g [] all = refl
all_found f g (m ∷ ms) all = (λ i. all.0 i ++ all_found f g ms all.1 i) ∙ by (g m)
  where
    by : (o : Option Num)
        → option_to_list o ++ filter_map g ms ≡ cons_option o (filter_map g ms)
    by None = refl
    by (Some n) = refl

-- ones come to how many they are
count_ones : (n : ℕ) → count_of (replicate n (Whole (pos 1))) ≡ pos n
count_ones zero = refl
count_ones (suc n) = ap (λ z. pos 1 +ℤ z) (count_ones n) ∙ omega (arith, ints)

-- ---- a row's results are those of kernels

module _ (count : ℤ) (key : Rec) (members : List Rec) where
  -- what a kernel comes to in the row's record
  abbrev number_by : kernels.KernelName → List ℕ → Option Num
  number_by kernel.Count attr = Some (Whole count)
  number_by k attr =
      row_result count (last_number attr key) (cell_over (numbers_of attr members)) k

  abbrev row_number : Agg → Option Num
  row_number agg = number_by agg.kernel agg.attr

  cells_are : (values : List (List ℕ))
      → flat_map (λ (c : List ℕ × Cell). cell_entries count key c.0 c.1)
      (zip values (map (λ attr. cell_over (numbers_of attr members)) values))
      ≡ filter_map (entry_of row_number) (flat_map value_aggs values)
  cells_are [] = refl
  cells_are (v ∷ vs) =
      ap (λ es. cell_entries count key v (cell_over (numbers_of v members)) ++ es) (cells_are vs)
      ∙ sym (filter_map-append (entry_of row_number) (value_aggs v) (flat_map value_aggs vs))

-- a snapshot has a key in a table
pub record HasKey (attributes : List Attribute) (channel : ChannelQuery) (key m : Rec)
    : Type 0 where
  pub in_key : table_key channel m ≡ key
  pub snap : IsSnapshot attributes m

module _ (attributes : List Attribute) (channel : ChannelQuery) (named : IsNamed attributes channel)
    (row : KeyedRow) (members : List Rec) (held : row.held ≡ row_over channel members) where
  abbrev IsMember : Rec → Type 0
  IsMember m = HasKey attributes channel row.key m

  abbrev pub number : Agg → Option Num
  number = row_number (pos (length members)) row.key members

  abbrev results : List Entry
  results = filter_map (entry_of number) (channel_query channel).aggs

  pub entries_are : row_entries channel row ≡ results
  entries_are =
      ap (λ h. row_entries channel (record { key = row.key; held = h })) held
      ∙ ap (λ es. first_entry ++ es)
      (cells_are (pos (length members)) row.key members channel.values)
      ∙ ap (filter_map (entry_of number)) (sym (aggs_are channel named.once))
    where
      first_entry : List Entry
      first_entry = option_to_list (entry_of number (agg_of kernel.Count []))

  in_record : (name : List ℕ) → entries_named name (row_record channel row)
      ≡ entries_named name row.key ++ filter (is_named name) results
  in_record name =
      ap (filter (is_named name))
      (sym (append_assoc (joined row.key.paths) row.key.imms (row_entries channel row)))
      ∙ filter-append (is_named name) (flat row.key) (row_entries channel row)
      ∙ ap (λ es. entries_named name row.key ++ filter (is_named name) es) entries_are

  -- the number of an attribute is the key's
  own_number : (attr : List ℕ) → IsDeclared attributes attr
      → last_number attr (row_record channel row) ≡ last_number attr row.key
  own_number attr declared = ap last_in (in_record attr
      ∙ ap (λ es. entries_named attr row.key ++ es)
      (results_apart number (is_named attr) attr (named_other attr) (channel_query channel).aggs
      (no_result attributes channel named number attr declared))
      ∙ append-nil (entries_named attr row.key))

  -- the entries of a result's name are the result
  own_result : (first : Rec) → IsMember first → (agg : Agg)
      → Contains (channel_query channel).aggs agg
      → entries_named agg.name (row_record channel row) ≡ option_to_list (entry_of number agg)
  own_result first has agg there =
      let none = named.results agg there in
      in_record agg.name
      ∙ (λ i. (ap (entries_named agg.name) (sym has.in_key)
      ∙ key_without attributes channel first has.snap agg.name
      (paths_without attributes agg.name none first has.snap)
      (imms_without attributes agg.name none first has.snap)) i
      ++ filter (is_named agg.name) results)
      ∙ results_named number (channel_query channel).aggs (kept_distinct channel named.once) agg
      there

  -- ---- what the snapshots with the key contribute

  -- they have no results
  member_without : (agg : Agg) → Contains (channel_query channel).aggs agg → (m : Rec)
      → IsMember m → entries_named agg.name m ≡ []
  member_without agg there m has =
      let none = named.results agg there in
      filter-append (is_named agg.name) (joined m.paths) m.imms
      ∙ (λ i. paths_without attributes agg.name none m has.snap i
      ++ imms_without attributes agg.name none m has.snap i)

  module _ (first : Rec) (own : IsMember first) (all : AllByRecursion IsMember members)
      (some : 0 < length members) where
    result_number : (agg : Agg) → Contains (channel_query channel).aggs agg
        → last_number agg.name (row_record channel row) ≡ number agg
    result_number agg there =
        ap last_in (own_result first own agg there) ∙ number_again agg (number agg)

    abbrev Brought : kernels.KernelName → List ℕ → Type 0
    Brought k attr = brought k (contributions k attr (row_record channel row))
        ≡ brought k (contributed (agg_of k attr) members)

    -- ---- the count

    weights : (ms : List Rec) → AllByRecursion IsMember ms
        → flat_map (contributions kernel.Count []) ms ≡ replicate (length ms) (Whole (pos 1))
    weights ms all = all_same (contributions kernel.Count []) (Whole (pos 1)) ms
        (holds_of_all _ ms (λ m there.
        ap (λ es. unwrap_or (last_or None (filter_map (λ e. number_sought true e.value) es))
        (Whole (pos 1)) ∷ [])
        (member_without (agg_of kernel.Count []) (count_kept channel named.once) m
        (holds_of IsMember ms m all there))))

    counts : Brought kernel.Count []
    counts =
        ap (λ w. brought kernel.Count (w ∷ []))
        (ap (λ es. unwrap_or (last_or None (filter_map (λ e. number_sought true e.value) es))
        (Whole (pos 1)))
        (own_result first own (agg_of kernel.Count []) (count_kept channel named.once)))
        ∙ ap (λ z. Some (Whole z)) (alone (pos (length members)))
        ∙ sym (ap (brought kernel.Count) (weights members all)
        ∙ ap (λ z. Some (Whole z)) (count_ones (length members)))
      where
        alone : (z : ℤ) → z +ℤ pos 0 ≡ z
        alone z = omega (arith, ints)

    -- ---- a value attribute

    module _ (attr : List ℕ) (value : Contains channel.values attr) where
      declared : IsDeclared attributes attr
      declared = holds_of (IsDeclared attributes) channel.values attr named.values value

      -- a kernel over the attribute that the channel keeps
      abbrev IsKept : kernels.KernelName → Type 0
      IsKept k = Contains (channel_query channel).aggs (agg_of k attr)

      abbrev numbers : kernels.KernelName → Rec → List Num
      numbers k m =
          cons_option (last_number attr m) (cons_option (last_number (result_name k attr) m) [])

      member_numbers : (k : kernels.KernelName) → IsKept k → (m : Rec) → IsMember m
          → numbers k m ≡ option_to_list (last_number attr m)
      member_numbers k there m has =
          first_alone _ _ _ refl (ap last_in (member_without (agg_of k attr) there m has))

      -- where the key has a number, each has it
      equal_numbers : (k : kernels.KernelName) → IsKept k → (n : Num)
          → last_number attr row.key ≡ Some n
          → flat_map (numbers k) members ≡ replicate (length members) n
      equal_numbers k there n is = all_same (numbers k) n members
          (holds_of_all _ members (λ m inside.
          let has = holds_of IsMember members m all inside in
          let found = some_of (props_of attributes attr) declared in
          member_numbers k there m has
          ∙ ap option_to_list
          ((split attributes channel m has.snap attr found.0 found.1).there n
          (ap (last_number attr) has.in_key ∙ is))))

      -- and else they have those of the cell
      cell_numbers : (k : kernels.KernelName) → IsKept k → last_number attr row.key ≡ None
          → flat_map (numbers k) members ≡ numbers_of attr members
      cell_numbers k there none = all_found (numbers k) (λ m. last_among attr m.imms) members
          (holds_of_all _ members (λ m inside.
          let has = holds_of IsMember members m all inside in
          let found = some_of (props_of attributes attr) declared in
          member_numbers k there m has
          ∙ ap option_to_list
          ((split attributes channel m has.snap attr found.0 found.1).else
          (ap (last_number attr) has.in_key ∙ none))))

      -- the row's own numbers
      own_numbers : (k : kernels.KernelName) → IsKept k → (o : Option Num)
          → last_number attr row.key ≡ o
          → numbers k (row_record channel row)
          ≡ cons_option o (cons_option (number (agg_of k attr)) [])
      own_numbers k there o is =
          λ i. cons_option ((own_number attr declared ∙ is) i)
          (cons_option (result_number (agg_of k attr) there i) [])

      result_at : (k : kernels.KernelName) → Option Num → Option Num
      result_at k o =
          row_result (pos (length members)) o (cell_over (numbers_of attr members)) k

      -- the number of members is one more than another
      more : ℕ
      more = length members - 1

      many : length members ≡ suc more
      unfolding more
      many = omega arith

      sums_brought : (sum_of (flat_map (numbers kernel.Sum) members) ≡ None
          → flat_map (numbers kernel.Sum) members ≡ [])
          → brought kernel.Sum (numbers kernel.Sum (row_record channel row))
          ≡ brought kernel.Sum (flat_map (numbers kernel.Sum) members)
      sums_brought summed = by (last_number attr row.key) refl
        where
          there : IsKept kernel.Sum
          there = sum_kept channel named.once attr value

          result_is : (o : Option Num) → last_number attr row.key ≡ o
              → number (agg_of kernel.Sum attr)
              ≡ row_result (pos (length members)) o (cell_over (numbers_of attr members)) kernel.Sum
          result_is o is = ap (λ o.
              row_result (pos (length members)) o (cell_over (numbers_of attr members)) kernel.Sum)
              is

          by : (o : Option Num) → last_number attr row.key ≡ o
              → brought kernel.Sum (numbers kernel.Sum (row_record channel row))
              ≡ brought kernel.Sum (flat_map (numbers kernel.Sum) members)
          by (Some n) is =
              ap (brought kernel.Sum) (own_numbers kernel.Sum there (Some n) is
              ∙ ap (λ r. n ∷ cons_option r []) (result_is (Some n) is)
              ∙ ap (λ c. n ∷ others_of (pos c) n ∷ []) many)
              ∙ sum_shared n more
              ∙ ap (λ c. brought kernel.Sum (replicate c n)) (sym many)
              ∙ sym (ap (brought kernel.Sum) (equal_numbers kernel.Sum there n is))
          by None is =
              let ns = numbers_of attr members in
              let same = cell_numbers kernel.Sum there is in
              let small : sum_of ns ≡ None → ns ≡ [] =
              λ absent. sym same ∙ summed (ap sum_of same ∙ absent) in
              ap (brought kernel.Sum) (own_numbers kernel.Sum there None is
              ∙ second_alone None (number (agg_of kernel.Sum attr)) (sum_of ns) refl
              (result_is None is
              ∙ sum_of_added (sum_over ns) ns (sum_held (sum_over ns)) refl refl))
              ∙ ap (λ r. brought kernel.Sum (option_to_list r)) (sum_brought ns small)
              ∙ brought_again kernel.Sum ns
              ∙ sym (ap (brought kernel.Sum) same)

      -- an end of the numbers, by what the row says of it
      ends_brought : (k : kernels.KernelName) → IsKept k → (said : Option Num → Option Num)
          → number (agg_of k attr) ≡ said (last_number attr row.key)
          → ((n : Num) → said (Some n) ≡ None)
          → said None ≡ brought k (numbers_of attr members)
          → ((n : Num) → brought k (n ∷ []) ≡ Some n)
          → ((n : Num) (more : ℕ) → brought k (replicate (suc more) n) ≡ Some n)
          → brought k (numbers k (row_record channel row))
          ≡ brought k (flat_map (numbers k) members)
      ends_brought k there said says gone found alone equal = by (last_number attr row.key) refl
        where
          by : (o : Option Num) → last_number attr row.key ≡ o
              → brought k (numbers k (row_record channel row))
              ≡ brought k (flat_map (numbers k) members)
          by (Some n) is =
              ap (brought k) (own_numbers k there (Some n) is
              ∙ ap (λ r. n ∷ cons_option r []) (says ∙ ap said is ∙ gone n))
              ∙ alone n
              ∙ sym (ap (brought k) (equal_numbers k there n is)
              ∙ ap (λ c. brought k (replicate c n)) many ∙ equal n more)
          by None is =
              let ns = numbers_of attr members in
              ap (brought k) (own_numbers k there None is
              ∙ second_alone None (number (agg_of k attr)) (brought k ns) refl
              (says ∙ ap said is ∙ found))
              ∙ brought_again k ns
              ∙ sym (ap (brought k) (cell_numbers k there is))

      least_brought : Brought kernel.Min attr
      least_brought =
          let ns = numbers_of attr members in
          ends_brought kernel.Min (least_kept channel named.once attr value)
          (λ o. row_result (pos (length members)) o (cell_over ns) kernel.Min) refl (λ n. refl)
          (least_of_added (least_over ns) ns (value_by int_min (least_over ns)) refl refl)
          (found_alone int_min) least_equal

      most_brought : Brought kernel.Max attr
      most_brought =
          let ns = numbers_of attr members in
          ends_brought kernel.Max (most_kept channel named.once attr value)
          (λ o. row_result (pos (length members)) o (cell_over ns) kernel.Max) refl (λ n. refl)
          (greatest_of_added (greatest_over ns) ns (value_by int_max (greatest_over ns)) refl refl)
          (found_alone int_max) most_equal

    -- ---- each kernel

    abbrev BringsAll : List Agg → Type 0
    BringsAll aggs = AllByRecursion (Brings (row_record channel row) members) aggs

    -- the sums over the numbers of the snapshots aren't too large
    abbrev pub AreSummed : Type 0
    AreSummed = (attr : List ℕ) → Contains channel.values attr
        → sum_of (contributed (agg_of kernel.Sum attr) members) ≡ None
        → contributed (agg_of kernel.Sum attr) members ≡ []

    values_bring : (values : List (List ℕ))
        → AllByRecursion (λ attr. BringsAll (value_aggs attr)) values
        → BringsAll (flat_map value_aggs values)
    values_bring [] all = tt
    values_bring (v ∷ vs) all =
        (all.0.0, (all.0.1.0, (all.0.1.1.0, values_bring vs all.1)))

    pub row_brings : AreSummed → (agg : Agg) → Contains (channel_query channel).aggs agg
        → Brings (row_record channel row) members agg
    row_brings summed agg there = holds_of (Brings (row_record channel row) members)
        (channel_query channel).aggs agg
        (subst BringsAll (sym (aggs_are channel named.once)) (
          record { same = counts },
          values_bring channel.values (holds_of_all
              (λ attr. BringsAll (value_aggs attr)) channel.values value),
        ))
        there
      where
        value : (attr : List ℕ) → Contains channel.values attr → BringsAll (value_aggs attr)
        value attr there = (
          record { same = sums_brought attr there (summed attr there) },
          (
            record { same = least_brought attr there },
            (record { same = most_brought attr there }, tt),
          ),
        )
