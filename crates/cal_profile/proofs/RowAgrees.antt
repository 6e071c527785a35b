-- A group with results agrees with its records on what is kept.
use Rattle.std.proofs.Common.{◌≡◌, ℕ, Bool, true, false, ◌&&◌, ◌||◌, List, [], ◌∷◌, ◌++◌, filter}
use Rattle.std.proofs.Common.{refl, sym, ap, ◌∙◌, true≢false, append-nil, Option, None}
use Rattle.std.proofs.Common.{Some, Contains}
use Rattle.std.specs.Prelude.{◌==◌, if◌then◌else◌, codes, is_some}
use Rattle.std.specs.Int.RustNames.{bit_and}
use Rattle.std.specs.List.{AllByRecursion, filter_map, list_any}
use Rattle.std.proofs.lemmas.Bool.{and_parts}
use Rattle.std.proofs.lemmas.List.Elements.{filter-append, filter_agree}
use Rattle.cal_agg.specs.declared.num.Num.{Num}
use Rattle.cal_keys.specs.Groups.{group_of, taken, takes}
use Rattle.cal_parts.proofs.SameTexts.{same_texts}
use Rattle.cal_filter.specs.Named.{entries_named, is_named}
use Rattle.cal_profile.specs.Coarser.{is_kept, keeps_group, keeps_path}
use Rattle.cal_profile.specs.Declared.{AreKeys, IsDeclared, IsImmediate, IsInPath, IsNamed}
use Rattle.cal_profile.specs.Declared.{IsSnapshot, props_of}
use Rattle.cal_profile.specs.Groups.{channel_query, keys_of}
use Rattle.cal_profile.proofs.Agreeing.{Agree}
use Rattle.cal_profile.proofs.Kernels.{path_no_result}
use Rattle.cal_profile.proofs.KeptKeys.{is_kept_by, kept_by, kept_declared, no_immediate}
use Rattle.cal_profile.proofs.KeptKeys.{path_whole, same_text, some_of, takes_path, takes_plain}
use Rattle.cal_profile.proofs.KeptKeys.{whole_in_imms, whole_in_paths}
use Rattle.cal_profile.proofs.Lists.{holds_of_all}
use Rattle.cal_profile.proofs.ResultEntries.{entry_of, named_other, results_apart}
use Rattle.cal_profile.proofs.Taking.{IsWhole, filter_nothing, joined-has_entries, taken_empty}
use Rattle.cal_profile.proofs.Taking.{taken_whole}
use Rattle.cal_ql.specs.declared.query.Agg.{Agg}
use Rattle.cal_rowset.specs.Cells.{is_path}
use Rattle.cal_rowset.specs.Texts.{is_same}
use Rattle.cal_script.specs.declared.script.ChannelQuery.{ChannelQuery}
use Rattle.cal_value.specs.Flat.{joined}
use Rattle.cal_value.specs.Props.{is_nested, is_reference}
use Rattle.cal_value.specs.declared.attribute.Attribute.{Attribute}
use Rattle.cal_value.specs.declared.attribute.Entry.{Entry}
use Rattle.cal_value.specs.declared.props.Props.{Props}
use Rattle.cal_value.specs.declared.record.Rec.{Rec}

abbrev is_of_hierarchy_props : Props → Bool
is_of_hierarchy_props props = bit_and props.0 256 == 256

-- a plain name takes the entries of the name
named_is : (in_path : Bool) (name : List ℕ) → is_path name ≡ false → (e : Entry)
    → is_named name e ≡ takes in_path name e
named_is in_path name plain e =
    sym (same_texts e.attr.name name) ∙ sym (takes_plain in_path name e plain)

-- `path` takes no immediate
pub nothing_path : (name : List ℕ) → is_path name ≡ true → (es : List Entry)
    → filter (takes false name) es ≡ []
nothing_path name path [] = refl
nothing_path name path (e ∷ es) =
    let one = takes_path false name e path in rw one (nothing_path name path es)

module _ (attributes : List Attribute) where
  -- ---- names that aren't declared

  -- an entry of declared attributes hasn't such a name
  not_declared : (name : List ℕ) → props_of attributes name ≡ None → (e : Entry)
      → props_of attributes e.attr.name ≡ Some e.attr.props → is_named name e ≡ false
  not_declared name none e declared = by (is_named name e) refl
    where
      by : (b : Bool) → is_named name e ≡ b → is_named name e ≡ false
      by false t = t
      by true t =
          let is : e.attr.name ≡ name =
          same_text e.attr.name name (same_texts e.attr.name name ∙ t) in
          let one : None ≡ Some e.attr.props =
          sym none ∙ ap (props_of attributes) (sym is) ∙ declared in
          cc

  module _ (name : List ℕ) (none : props_of attributes name ≡ None) (m : Rec)
      (snap : IsSnapshot attributes m) where
    pub paths_without : filter (is_named name) (joined m.paths) ≡ []
    paths_without = filter_nothing (IsInPath attributes) (is_named name)
        (λ e d. not_declared name none e d.declared) (joined m.paths) snap.paths

    pub imms_without : filter (is_named name) m.imms ≡ []
    imms_without = filter_nothing (IsImmediate attributes) (is_named name)
        (λ e d. not_declared name none e d.declared) m.imms snap.imms

    pub group_paths_without : (keys : Option (List (List ℕ)))
        → filter (is_named name) (joined (group_of keys m).paths) ≡ []
    group_paths_without None = paths_without
    group_paths_without (Some keys) =
        ap (filter (is_named name)) (joined-has_entries (taken true keys (joined m.paths)))
        ∙ taken_empty (IsInPath attributes) true (is_named name) keys (joined m.paths) paths_without

    pub group_imms_without : (keys : Option (List (List ℕ)))
        → filter (is_named name) (group_of keys m).imms ≡ []
    group_imms_without None = refl
    group_imms_without (Some keys) =
        taken_empty (IsImmediate attributes) false (is_named name) keys m.imms imms_without

  -- ---- a group

  module _ (m : Rec) (snap : IsSnapshot attributes m) where
    paths_taken : (keys : Option (List (List ℕ))) → AreKeys attributes keys
        → props_of attributes (codes "path") ≡ None → (name : List ℕ)
        → keeps_group attributes keys name ≡ true
        → filter (takes true name) (joined (group_of keys m).paths)
        ≡ filter (takes true name) (joined m.paths)
    paths_taken None all none name h = refl
    paths_taken (Some keys) all none name h =
        ap (filter (takes true name)) (joined-has_entries (taken true keys (joined m.paths)))
        ∙ taken_whole (IsInPath attributes) true (takes true name) keys (by (is_path name) refl)
        (joined m.paths) snap.paths
      where
        at : (b : Bool) → is_path name ≡ b
            → (if b then keeps_path (Some keys) else is_kept attributes (Some keys) name) ≡ true
        at b is = sym (ap
            (λ p. if p then keeps_path (Some keys) else is_kept attributes (Some keys) name) is) ∙ h

        by : (b : Bool) → is_path name ≡ b
            → IsWhole (IsInPath attributes) true (takes true name) keys
        by true path = path_whole attributes name path keys all none (at true path)
        by false plain =
            let kept : is_kept attributes (Some keys) name ≡ true = at false plain in
            let found = some_of (props_of attributes name)
            (kept_declared attributes (Some keys) all name plain kept) in
            whole_in_paths attributes name found.0 found.1 plain keys
            (sym (is_kept_by attributes (Some keys) name found.0 found.1) ∙ kept)

    -- the immediates of a kept name that no key names are none: it goes by nodes
    imms_none : (keys : Option (List (List ℕ))) (name : List ℕ) (props : Props)
        → props_of attributes name ≡ Some props → is_reference props ≡ true → is_path name ≡ false
        → filter (takes false name) m.imms ≡ []
    imms_none keys name props is reference plain = filter_nothing (IsImmediate attributes)
        (takes false name) (no_immediate attributes name props is reference plain) m.imms snap.imms

    imms_by : (keys : Option (List (List ℕ))) (name : List ℕ) (props : Props)
        → props_of attributes name ≡ Some props → is_path name ≡ false
        → kept_by keys name props ≡ true
        → filter (takes false name) (group_of keys m).imms ≡ filter (takes false name) m.imms
    imms_by None name props is plain h = sym (imms_none None name props is h plain)
    imms_by (Some keys) name props is plain h = by (list_any (is_same name) keys) refl
      where
        by : (b : Bool) → list_any (is_same name) keys ≡ b
            → filter (takes false name) (joined (taken false keys m.imms))
            ≡ filter (takes false name) m.imms
        by true e = taken_whole (IsImmediate attributes) false (takes false name) keys
            (whole_in_imms attributes name plain keys e) m.imms snap.imms
        by false e =
            let nested : (list_any is_path keys && is_nested props) ≡ true =
            sym (ap (λ b. b || (list_any is_path keys && is_nested props)) e) ∙ h in
            let both = and_parts (list_any is_path keys) (is_nested props) nested in
            let none = imms_none (Some keys) name props is
            (and_parts (is_of_hierarchy_props props) (is_reference props) both.1).1 plain in
            taken_empty (IsImmediate attributes) false (takes false name) keys m.imms none
            ∙ sym none

  -- ---- a group with results

  module _ (channel : ChannelQuery) (named : IsNamed attributes channel) (o : Agg → Option Num)
    where
      -- the entries of the results
      abbrev pub entries : List Entry
      entries = filter_map (entry_of o) (channel_query channel).aggs

      abbrev pub with_entries : Rec → Rec
      with_entries group = record { paths = group.paths; imms = group.imms ++ entries }

      -- no result has the name of a declared attribute
      pub no_result : (name : List ℕ) → IsDeclared attributes name
          → list_any (λ agg. is_same agg.name name) (channel_query channel).aggs ≡ false
      no_result name declared = among (channel_query channel).aggs
          (holds_of_all (λ agg. props_of attributes agg.name ≡ None) (channel_query channel).aggs
          named.results)
        where
          apart : (agg : Agg) → props_of attributes agg.name ≡ None → is_same agg.name name ≡ false
          apart agg none = by (is_same agg.name name) refl
            where
              by : (b : Bool) → is_same agg.name name ≡ b → is_same agg.name name ≡ false
              by false e = e
              by true e = absurd (true≢false (sym declared
                  ∙ ap (λ n. is_some (props_of attributes n)) (sym (same_text agg.name name e))
                  ∙ ap is_some none))

          among : (aggs : List Agg) → AllByRecursion (λ agg. props_of attributes agg.name ≡ None) aggs
              → list_any (λ agg. is_same agg.name name) aggs ≡ false
          among [] all = refl
          among (agg ∷ aggs) all = λ i. apart agg all.0 i || among aggs all.1 i

      module _ (m : Rec) (snap : IsSnapshot attributes m) where
        abbrev own : Rec
        own = group_of (keys_of channel) m

        imms_agree : (name : List ℕ) → keeps_group attributes (keys_of channel) name ≡ true
            → filter (takes false name) (with_entries own).imms ≡ filter (takes false name) m.imms
        imms_agree name h = by (is_path name) refl
          where
            by : (b : Bool) → is_path name ≡ b
                → filter (takes false name) (with_entries own).imms ≡ filter (takes false name) m.imms
            by true path =
                nothing_path name path (with_entries own).imms ∙ sym (nothing_path name path m.imms)
            by false plain =
                let kept : is_kept attributes (keys_of channel) name ≡ true =
                sym (ap (λ p. if p then keeps_path (keys_of channel)
                else is_kept attributes (keys_of channel) name) plain) ∙ h in
                let declared =
                kept_declared attributes (keys_of channel) named.keys name plain kept in
                let found = some_of (props_of attributes name) declared in
                filter-append (takes false name) own.imms entries
                ∙ (λ i. imms_by m snap (keys_of channel) name found.0 found.1 plain
                (sym (is_kept_by attributes (keys_of channel) name found.0 found.1) ∙ kept) i
                ++ results_apart o (takes false name) name
                (λ n e is apart. takes_plain false name e plain ∙ ap (λ x. is_same x name) is ∙ apart)
                (channel_query channel).aggs (no_result name declared) i)
                ∙ append-nil (filter (takes false name) m.imms)

        paths_agree : (name : List ℕ) → keeps_group attributes (keys_of channel) name ≡ true
            → filter (takes true name) (joined own.paths) ≡ filter (takes true name) (joined m.paths)
        paths_agree name h = paths_taken m snap (keys_of channel) named.keys named.path name h

        -- WHERE takes `path` as a plain name, which no entry has
        named_path : (name : List ℕ) → is_path name ≡ true
            → entries_named name (with_entries own) ≡ entries_named name m
        named_path name path =
            filter-append (is_named name) (joined own.paths) (own.imms ++ entries)
            ∙ (λ i. group_paths_without name none m snap (keys_of channel) i
            ++ filter-append (is_named name) own.imms entries i)
            ∙ (λ i. group_imms_without name none m snap (keys_of channel) i ++ results i)
            ∙ sym (filter-append (is_named name) (joined m.paths) m.imms
            ∙ (λ i. paths_without name none m snap i ++ imms_without name none m snap i))
          where
            is : name ≡ codes "path"
            is = same_text name (codes "path") path

            none : props_of attributes name ≡ None
            none = ap (props_of attributes) is ∙ named.path

            results : filter (is_named name) entries ≡ []
            results = results_apart o (is_named name) name (named_other name)
                (channel_query channel).aggs
                (ap (λ n. list_any (λ agg. is_same agg.name n) (channel_query channel).aggs) is
                ∙ path_no_result channel named.once)

        named_plain : (name : List ℕ) → is_path name ≡ false
            → is_kept attributes (keys_of channel) name ≡ true
            → entries_named name (with_entries own) ≡ entries_named name m
        named_plain name plain kept =
            filter-append (is_named name) (joined own.paths) (with_entries own).imms
            ∙ (λ i. in_paths i ++ in_imms i)
            ∙ sym (filter-append (is_named name) (joined m.paths) m.imms)
          where
            h : keeps_group attributes (keys_of channel) name ≡ true
            h = ap (λ p. if p then keeps_path (keys_of channel)
                else is_kept attributes (keys_of channel) name) plain ∙ kept

            in_paths : filter (is_named name) (joined own.paths)
                ≡ filter (is_named name) (joined m.paths)
            in_paths =
                filter_agree (is_named name) (takes true name) (named_is true name plain)
                (joined own.paths)
                ∙ paths_agree name h
                ∙ sym (filter_agree (is_named name) (takes true name) (named_is true name plain)
                (joined m.paths))

            in_imms : filter (is_named name) (with_entries own).imms ≡ filter (is_named name) m.imms
            in_imms =
                filter_agree (is_named name) (takes false name) (named_is false name plain)
                (with_entries own).imms
                ∙ imms_agree name h
                ∙ sym (filter_agree (is_named name) (takes false name) (named_is false name plain)
                m.imms)

        -- So a group with results agrees with each of its records.
        pub row_agrees : Agree attributes (keys_of channel) (with_entries own) m
        row_agrees = record {
          named = λ name kept. by name kept (is_path name) refl;
          paths = paths_agree;
          imms = imms_agree;
          whole = λ none. ap (λ keys. (group_of keys m).paths) none;
        }
          where
            by : (name : List ℕ) → is_kept attributes (keys_of channel) name ≡ true → (b : Bool)
                → is_path name ≡ b → entries_named name (with_entries own) ≡ entries_named name m
            by name kept true path = named_path name path
            by name kept false plain = named_plain name plain kept
