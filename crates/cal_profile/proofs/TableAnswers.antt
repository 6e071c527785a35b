-- The records in place of a table's rows have the channel's groups.
use Rattle.std.proofs.Common.{◌≡◌, ℕ, ◌<◌, Bool, true, false, not, ◌||◌, List, [], ◌∷◌, ◌++◌}
use Rattle.std.proofs.Common.{filter, length, map, refl, sym, ap, subst, ◌∙◌, inl, inr}
use Rattle.std.proofs.Common.{append-nil, arith, drop, Option, None, Some, Contains}
use Rattle.std.specs.Prelude.{◌⊎◌, ◌==◌, codes, flat_map, if◌then◌else◌, is_some}
use Rattle.std.proofs.lemmas.Bool.{or_right}
use Rattle.std.proofs.lemmas.Bool.Decides.{nat_tests}
use Rattle.std.specs.List.{AllByRecursion, AllZip, IsDistinct, filter_map, list_any}
use Rattle.std.proofs.lemmas.List.Elements.{filter-append}
use Rattle.cal_keys.specs.FirstSeen.{firsts}
use Rattle.cal_keys.specs.Groups.{group_of, groups_of, has_entries, is_group, taken, takes}
use Rattle.cal_engine.specs.Rows.{is_aggregated}
use Rattle.cal_engine.proofs.Gathering.{group_same}
use Rattle.cal_engine.proofs.Partitions.{AreOnce}
use Rattle.cal_profile.specs.Answers.{AnswerAlike}
use Rattle.cal_profile.specs.Declared.{AreKeys, IsDeclared, IsImmediate, IsNamed, IsSnapshot}
use Rattle.cal_profile.specs.Declared.{HasSums, IsTrace}
use Rattle.cal_profile.specs.Groups.{HasPlainGroups, agg_of, channel_query, group_records}
use Rattle.cal_profile.specs.Groups.{is_result, keys_of, value_aggs}
use Rattle.cal_profile.specs.StandIns.{IsAddable, IsAlike, StandsFor, all_of}
use Rattle.cal_profile.specs.TableRows.{AreRowsOf, IsRowOf, KeyedRow, row_entries, row_record}
use Rattle.cal_profile.specs.TableRows.{table_key, with_key}
use Rattle.cal_profile.proofs.Agreeing.{taken_same}
use Rattle.cal_profile.proofs.ChannelRecords.{all_kept}
use Rattle.cal_profile.proofs.GroupOrder.{one_profile}
use Rattle.cal_profile.proofs.Kernels.{aggs_are}
use Rattle.cal_profile.proofs.KeptKeys.{declared_plain, taken_name, takes_plain, text_same}
use Rattle.cal_profile.proofs.Lists.{Contains-cases, Contains-nil, all-filter, all_weaker}
use Rattle.cal_profile.proofs.Lists.{holds_of, holds_of_all}
use Rattle.cal_profile.proofs.Reordering.{by_parts, reordered_alike}
use Rattle.cal_profile.proofs.ResultEntries.{results_apart}
use Rattle.cal_profile.proofs.RowAgrees.{no_result, nothing_path}
use Rattle.cal_profile.proofs.Seeing.{after}
use Rattle.cal_profile.proofs.StandingIn.{stand_ins_answer}
use Rattle.cal_profile.proofs.TableRecords.{HasKey, entries_are, number, row_brings}
use Rattle.cal_profile.proofs.Taking.{filter_implied}
use Rattle.cal_ql.specs.declared.names.KernelName.TheVariants as kernel
use Rattle.cal_ql.specs.declared.query.Agg.{Agg}
use Rattle.cal_rowset.specs.Cells.{is_path}
use Rattle.cal_rowset.specs.Texts.{is_same}
use Rattle.cal_script.specs.declared.script.ChannelQuery.{ChannelQuery}
use Rattle.cal_value.specs.Flat.{joined}
use Rattle.cal_value.specs.declared.attribute.Attribute.{Attribute}
use Rattle.cal_value.specs.declared.attribute.Entry.{Entry}
use Rattle.cal_value.specs.declared.record.Rec.{Rec}

-- ---- a channel's query

module _ (channel : ChannelQuery) where
  -- its kernels can be added up
  pub channel_addable : IsDistinct is_same channel.values → IsAddable (channel_query channel)
  channel_addable once = record {
    plain = refl;
    added = λ agg there. holds_of (λ agg. agg.kernel ≡ kernel.Avg → ⊥) (channel_query channel).aggs
        agg
        (subst (AllByRecursion (λ agg. agg.kernel ≡ kernel.Avg → ⊥)) (sym (aggs_are channel once))
        ((λ e. absurd cc), none channel.values))
        there;
  }
    where
      none : (values : List (List ℕ))
          → AllByRecursion (λ agg. agg.kernel ≡ kernel.Avg → ⊥) (flat_map value_aggs values)
      none [] = tt
      none (v ∷ vs) = ((λ e. absurd cc), ((λ e. absurd cc), ((λ e. absurd cc), none vs)))

  -- and it is aggregated
  pub channel_aggregated : is_aggregated (channel_query channel) ≡ true
  channel_aggregated = by (is_some (keys_of channel))
      (some (agg_of kernel.Count []) (drop 1 (channel_query channel).aggs))
    where
      some : (agg : Agg) (aggs : List Agg) → (length (agg ∷ aggs) == 0) ≡ false
      some agg aggs = grind (arith, nat_tests)

      by : (b : Bool) → (length (channel_query channel).aggs == 0) ≡ false
          → (b || not (length (channel_query channel).aggs == 0)) ≡ true
      by true none = refl
      by false none = ap not none

-- a list that isn't empty has a first item, of which holds what holds of all
first_there : (P : Rec → Type 0) (rs : List Rec) → 0 < length rs → AllByRecursion P rs
    → (r : Rec) × P r
first_there P [] some all = absurd (omega arith)
first_there P (r ∷ rs) some all = (r, all.0)

-- items that are apart stand once
once_apart : (groups : List Rec) → IsDistinct is_group groups → AreOnce is_group groups
unfolding IsDistinct
once_apart [] h = tt
once_apart (g ∷ gs) h = (none gs h.0, once_apart gs h.1)
  where
    none : (gs : List Rec) → AllByRecursion (λ other. is_group g other ≡ false) gs
        → list_any (is_group g) gs ≡ false
    none [] all = refl
    none (other ∷ gs) all = λ i. all.0 i || none gs all.1 i

-- each key is one of the keys
among_all : (keys : List (List ℕ))
    → AllByRecursion (λ key. list_any (is_same key) keys ≡ true) keys
among_all keys = holds_of_all (λ key. list_any (is_same key) keys ≡ true) keys
    (λ key there. list_any_at_item key keys there)
  where
    list_any_at_item : (key : List ℕ) (keys : List (List ℕ)) → Contains keys key
        → list_any (is_same key) keys ≡ true
    list_any_at_item key [] there = absurd (Contains-nil key there)
    list_any_at_item key (k ∷ keys) there = by (Contains-cases key k keys there)
        (list_any_at_item key keys)
      where
        by : (k ≡ key) ⊎ Contains keys key
            → (Contains keys key → list_any (is_same key) keys ≡ true)
            → list_any (is_same key) (k ∷ keys) ≡ true
        by (inl here) more =
            let same = text_same key k (sym here) in rw same refl
        by (inr behind) more = or_right (is_same key k) (list_any (is_same key) keys) (more behind)

-- each key is `path` or declared
keys_cases : (attributes : List Attribute) (keys : List (List ℕ)) → AreKeys attributes (Some keys)
    → AllByRecursion (λ key. (is_path key ≡ true) ⊎ IsDeclared attributes key) keys
keys_cases attributes [] are = tt
keys_cases attributes (key ∷ keys) are = (
  elim are.0 [ inl path ↦ inl (text_same key (codes "path") path) | inr declared ↦ inr declared ],
  all_weaker (IsDeclared attributes) (λ key. (is_path key ≡ true) ⊎ IsDeclared attributes key)
      (λ key declared. inr declared) keys are.1,
)

-- ---- the groups of snapshots

module _ (attributes : List Attribute) (channel : ChannelQuery) (named : IsNamed attributes channel)
  where
    abbrev IsOther : Entry → Type 0
    IsOther e = is_result (channel_query channel).aggs e ≡ false

    abbrev IsPlain : Rec → Type 0
    IsPlain group = AllByRecursion IsOther group.imms

    -- no immediate of a snapshot has the name of a result
    others : (m : Rec) → IsSnapshot attributes m → AllByRecursion IsOther m.imms
    others m snap = all_weaker (IsImmediate attributes) IsOther
        (λ e d. no_result attributes channel named (λ agg. None) e.attr.name
        (ap is_some d.declared)) m.imms snap.imms

    -- so none of its group has
    taken_others : (names : List (List ℕ)) (es : List Entry) → AllByRecursion IsOther es
        → AllByRecursion IsOther (joined (taken false names es))
    taken_others [] es all = tt
    taken_others (name ∷ names) es all = both (filter (takes false name) es)
        (joined (taken false names (filter (λ e. not (takes false name e)) es)))
        (all-filter IsOther (takes false name) es all)
        (taken_others names (filter (λ e. not (takes false name e)) es)
        (all-filter IsOther (λ e. not (takes false name e)) es all))
      where
        both : (es fs : List Entry) → AllByRecursion IsOther es → AllByRecursion IsOther fs
            → AllByRecursion IsOther (es ++ fs)
        both [] fs one other = other
        both (e ∷ es) fs one other = (one.0, both es fs one.1 other)

    group_plain : (keys : Option (List (List ℕ))) (m : Rec) → IsSnapshot attributes m
        → IsPlain (group_of keys m)
    group_plain None m snap = tt
    group_plain (Some names) m snap = taken_others names m.imms (others m snap)

    firsts_all : (gs : List Rec) → AllByRecursion IsPlain gs
        → AllByRecursion IsPlain (firsts is_group gs)
    firsts_all [] all = tt
    firsts_all (g ∷ gs) all = (
      all.0,
      all-filter IsPlain (λ other. not (is_group other g)) (firsts is_group gs) (firsts_all gs all.1),
    )

    groups_plain : (keys : Option (List (List ℕ))) (trace : List Rec)
        → AllByRecursion (IsSnapshot attributes) trace
        → AllByRecursion IsPlain (map (group_of keys) trace)
    groups_plain keys [] all = tt
    groups_plain keys (m ∷ trace) all = (group_plain keys m all.0, groups_plain keys trace all.1)

    pub plain_groups : (trace : List Rec) → AllByRecursion (IsSnapshot attributes) trace
        → HasPlainGroups (channel_query channel) trace
    plain_groups trace snaps = firsts_all (map (group_of (keys_of channel)) trace)
        (groups_plain (keys_of channel) trace snaps)

    -- ---- a record in place of a row

    module _ (trace : List Rec) (row : KeyedRow) (is : IsRowOf channel trace row) where
      abbrev members : List Rec
      members = with_key channel row.key trace

      abbrev record_of : Rec
      record_of = row_record channel row

      module _ (m : Rec) (has : HasKey attributes channel row.key m) where
        same_paths : m.paths ≡ row.key.paths
        same_paths = ap (λ (r : Rec). r.paths) has.in_key

        -- what a key takes of the immediates stands in the row's key, and it takes no result
        taken_alike : (key : List ℕ) → list_any (is_same key) channel.keys ≡ true
            → (is_path key ≡ true) ⊎ IsDeclared attributes key
            → filter (takes false key) m.imms ≡ filter (takes false key) record_of.imms
        taken_alike key there (inl path) =
            nothing_path key path m.imms ∙ sym (nothing_path key path record_of.imms)
        taken_alike key there (inr declared) =
            sym (filter-append (takes false key) row.key.imms (row_entries channel row)
            ∙ (λ i. kept i ++ gone i) ∙ append-nil (filter (takes false key) m.imms))
          where
            plain : is_path key ≡ false
            plain = declared_plain attributes named.path key declared

            kept : filter (takes false key) row.key.imms ≡ filter (takes false key) m.imms
            kept =
                ap (λ (r : Rec). filter (takes false key) r.imms) (sym has.in_key)
                ∙ filter_implied (IsImmediate attributes) (takes false key)
                (λ e. list_any (is_same e.attr.name) channel.keys)
                (λ e d t. ap (λ n. list_any (is_same n) channel.keys)
                (taken_name false key e plain t) ∙ there)
                m.imms has.snap.imms

            gone : filter (takes false key) (row_entries channel row) ≡ []
            gone =
                ap (filter (takes false key))
                (entries_are attributes channel named row members is.held)
                ∙ results_apart (number attributes channel named row members is.held)
                (takes false key) key
                (λ n e same apart. takes_plain false key e plain ∙ ap (λ x. is_same x key) same
                ∙ apart)
                (channel_query channel).aggs
                (no_result attributes channel named
                (number attributes channel named row members is.held) key declared)

        each_alike : (keys : List (List ℕ))
            → AllByRecursion (λ key. list_any (is_same key) channel.keys ≡ true) keys
            → AllByRecursion (λ key. (is_path key ≡ true) ⊎ IsDeclared attributes key) keys
            → AllByRecursion
            (λ key. filter (takes false key) m.imms ≡ filter (takes false key) record_of.imms) keys
        each_alike [] there are = tt
        each_alike (key ∷ keys) there are =
            (taken_alike key there.0 are.0, each_alike keys there.1 are.1)

        same_group : group_of (keys_of channel) m ≡ group_of (keys_of channel) record_of
        same_group = by channel.by_default refl
          where
            by : (b : Bool) → channel.by_default ≡ b
                → group_of (keys_of channel) m ≡ group_of (keys_of channel) record_of
            by true none =
                subst (λ keys. group_of keys m ≡ group_of keys record_of)
                (sym (ap (λ b. if b then None else Some channel.keys) none))
                (λ i. record { paths = same_paths i; imms = [] })
            by false some =
                let is_keys : keys_of channel ≡ Some channel.keys =
                ap (λ b. if b then None else Some channel.keys) some in
                let imms = taken_same false channel.keys m.imms record_of.imms
                (each_alike channel.keys (among_all channel.keys)
                (keys_cases attributes channel.keys
                (subst (AreKeys attributes) is_keys named.keys))) in
                subst (λ keys. group_of keys m ≡ group_of keys record_of) (sym is_keys)
                (λ i. record {
                  paths = filter has_entries (taken true channel.keys (joined (same_paths i)));
                  imms = joined (imms i);
                })

      -- the snapshots with the key
      keyed : (rs : List Rec) → AllByRecursion (IsSnapshot attributes) rs
          → AllByRecursion (HasKey attributes channel row.key) (with_key channel row.key rs)
      keyed [] all = tt
      keyed (r ∷ rs) all = by (is_group (table_key channel r) row.key) refl (keyed rs all.1)
        where
          by : (b : Bool) → is_group (table_key channel r) row.key ≡ b
              → AllByRecursion (HasKey attributes channel row.key) (with_key channel row.key rs)
              → AllByRecursion (HasKey attributes channel row.key) (with_key channel row.key (r ∷ rs))
          by true e rest = rw e (
            record { in_key = group_same (table_key channel r) row.key e; snap = all.0 },
            rest,
          )
          by false e rest = rw e rest

      row_stands : AllByRecursion (IsSnapshot attributes) trace → HasSums channel trace
          → StandsFor (channel_query channel) record_of members
      row_stands snaps sums =
          let all = keyed trace snaps in
          let first = first_there (HasKey attributes channel row.key) members is.some all in
          record {
            some = is.some;
            alike = all_weaker (HasKey attributes channel row.key)
                (IsAlike (channel_query channel) record_of)
                (λ m has. record { kept = refl; group = same_group m has }) members all;
            brings = row_brings attributes channel named row members is.held first.0 first.1 all
                is.some (λ attr there. sums attr there
                (λ m. is_group (table_key channel m) row.key));
          }

    -- the records in place of rows stand for the snapshots with their keys, in whatever list of these
    pub rows_stand : (trace : List Rec) → AllByRecursion (IsSnapshot attributes) trace
        → HasSums channel trace → (rows : List KeyedRow)
        → AllByRecursion (IsRowOf channel trace) rows
        → AllZip (StandsFor (channel_query channel)) (map (row_record channel) rows)
        (map (λ row. with_key channel row.key trace) rows)
    rows_stand trace snaps sums [] all = tt
    rows_stand trace snaps sums (row ∷ rows) all =
        (row_stands trace row all.0 snaps sums, rows_stand trace snaps sums rows all.1)

-- ---- all rows

module _ (attributes : List Attribute) (channel : ChannelQuery) (trace : List Rec)
    (is : IsTrace attributes channel trace) where
  abbrev parts : List KeyedRow → List (List Rec)
  parts rows = map (λ row. with_key channel row.key trace) rows

  parts_are : (rows : List KeyedRow) → all_of (parts rows)
      ≡ flat_map (λ key. with_key channel key trace) (map (λ row. row.key) rows)
  parts_are [] = refl
  parts_are (row ∷ rows) = ap (λ rs. with_key channel row.key trace ++ rs) (parts_are rows)

  -- So the records in place of the rows of a table have the groups of its snapshots.
  rows_answer : (rows : List KeyedRow) → AreRowsOf channel trace rows
      → AnswerAlike (channel_query channel) (map (row_record channel) rows) trace
  rows_answer rows are =
      let addable = channel_addable channel is.named.once in
      let keys = map (λ row. row.key) rows in
      let whole = flat_map (λ key. with_key channel key trace) keys in
      after (channel_query channel) (map (row_record channel) rows) whole trace
      (subst (AnswerAlike (channel_query channel) (map (row_record channel) rows)) (parts_are rows)
      (stand_ins_answer (channel_query channel) addable (map (row_record channel) rows)
      (parts rows) (rows_stand attributes channel is.named trace is.snapshots is.sums rows are.each)))
      (reordered_alike (channel_query channel) addable whole trace
      (λ M v merge kept. by_parts kept (table_key channel) keys (once_apart keys are.once) trace
      are.all))

  pub rows_have_groups : (rows : List KeyedRow) → AreRowsOf channel trace rows
      → group_records (channel_query channel) (map (row_record channel) rows)
      ≡ group_records (channel_query channel) trace
  rows_have_groups rows are =
      one_profile (channel_query channel) (channel_aggregated channel) refl
      (map (row_record channel) rows) trace (rows_answer rows are)
      (subst (HasPlainGroups (channel_query channel)) (sym (all_kept channel trace))
      (plain_groups attributes channel is.named trace is.snapshots))
