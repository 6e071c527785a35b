-- The numbers of a group with results: of a value attribute that isn't kept it has none but those
-- of the results.
use Rattle.std.proofs.Common.{◌≡◌, ℕ, Bool, true, false, ◌&&◌, ◌||◌, List, [], ◌∷◌, ◌++◌, filter}
use Rattle.std.proofs.Common.{refl, sym, ap, ◌∙◌, true≢false, Option, None, Some, Contains}
use Rattle.std.specs.List.{AllByRecursion, filter_map, last_or, list_any}
use Rattle.std.specs.Option.{option_to_list}
use Rattle.std.proofs.lemmas.Bool.{or_parts}
use Rattle.std.proofs.lemmas.List.Elements.{filter-append}
use Rattle.cal_agg.specs.declared.num.Num.{Num}
use Rattle.cal_keys.specs.Groups.{group_of, taken, takes}
use Rattle.cal_parts.proofs.SameTexts.{same_texts}
use Rattle.cal_filter.specs.Named.{entries_named, is_named, last_number}
use Rattle.cal_filter.specs.Numbers.{number_in}
use Rattle.cal_profile.specs.Coarser.{is_kept}
use Rattle.cal_profile.specs.Declared.{IsDeclared, IsImmediate, IsInPath, IsNamed, IsSnapshot}
use Rattle.cal_profile.specs.Declared.{props_of}
use Rattle.cal_profile.specs.Groups.{channel_query, keys_of}
use Rattle.cal_profile.proofs.Kernels.{kept_distinct}
use Rattle.cal_profile.proofs.KeptKeys.{is_kept_by, kept_by, nested_in_path, same_text, some_of}
use Rattle.cal_profile.proofs.KeptKeys.{takes_path, takes_plain}
use Rattle.cal_profile.proofs.ResultEntries.{entry_of, named_other, number_again, results_apart}
use Rattle.cal_profile.proofs.ResultEntries.{results_named}
use Rattle.cal_profile.proofs.RowAgrees.{entries, group_imms_without, group_paths_without}
use Rattle.cal_profile.proofs.RowAgrees.{no_result, with_entries}
use Rattle.cal_profile.proofs.Taking.{Excludes, filter_nothing, joined-has_entries, taken_none}
use Rattle.cal_ql.specs.declared.query.Agg.{Agg}
use Rattle.cal_rowset.specs.Cells.{is_path}
use Rattle.cal_rowset.specs.Hierarchy.{is_of_hierarchy}
use Rattle.cal_rowset.specs.Texts.{is_same}
use Rattle.cal_script.specs.declared.script.ChannelQuery.{ChannelQuery}
use Rattle.cal_value.specs.Flat.{joined}
use Rattle.cal_value.specs.Props.{is_nested, is_reference}
use Rattle.cal_value.specs.declared.attribute.Attribute.{Attribute}
use Rattle.cal_value.specs.declared.attribute.Entry.{Entry}
use Rattle.cal_value.specs.declared.props.Props.{Props}
use Rattle.cal_value.specs.declared.record.Rec.{Rec}

-- an entry of a name
pub named_text : (name : List ℕ) (e : Entry) → is_named name e ≡ true → e.attr.name ≡ name
named_text name e h = same_text e.attr.name name (same_texts e.attr.name name ∙ h)

-- the last number of entries
abbrev last_in : List Entry → Option Num
last_in es = last_or None (filter_map (λ e. number_in e.value) es)

module _ (attributes : List Attribute) (name : List ℕ) (props : Props)
    (is : props_of attributes name ≡ Some props) where
  -- an entry of the name has its properties
  pub own_props : (e : Entry) → props_of attributes e.attr.name ≡ Some e.attr.props
      → is_named name e ≡ true → e.attr.props ≡ props
  own_props e declared h =
      let one : Some e.attr.props ≡ Some props =
      sym declared ∙ ap (props_of attributes) (named_text name e h) ∙ is in
      cc

  -- ---- keys that don't keep a name take none of its entries

  -- the first key and the others don't keep it
  kept_parts : (key : List ℕ) (keys : List (List ℕ))
      → kept_by (Some (key ∷ keys)) name props ≡ false
      → (is_same name key ≡ false) × ((is_path key && is_nested props) ≡ false)
      × (kept_by (Some keys) name props ≡ false)
  kept_parts key keys h = parts (is_same name key) (list_any (is_same name) keys) (is_path key)
      (list_any is_path keys) (is_nested props) h
    where
      parts : (s a p b n : Bool) → ((s || a) || ((p || b) && n)) ≡ false
          → (s ≡ false) × ((p && n) ≡ false) × ((a || (b && n)) ≡ false)
      parts true a p b n h = absurd (true≢false h)
      parts false true p b n h = absurd (true≢false h)
      parts false false true b n h = (refl, h, by b h)
        where
          by : (b : Bool) → n ≡ false → (b && n) ≡ false
          by true e = e
          by false e = refl
      parts false false false b n h = (refl, refl, h)

  left_in_paths : (keys : List (List ℕ)) → kept_by (Some keys) name props ≡ false
      → AllByRecursion (λ key. Excludes (IsInPath attributes) (is_named name) (takes true key)) keys
  left_in_paths [] h = tt
  left_in_paths (key ∷ keys) h = (first, left_in_paths keys (kept_parts key keys h).2)
    where
      first : Excludes (IsInPath attributes) (is_named name) (takes true key)
      first e d t = by (is_path key) refl
        where
          by : (p : Bool) → is_path key ≡ p → takes true key e ≡ false
          by true ep =
              takes_path true key e ep ∙ nested_in_path attributes e d
              ∙ ap is_nested (own_props e d.declared t)
              ∙ sym (ap (λ p. p && is_nested props) ep) ∙ (kept_parts key keys h).1
          by false ep =
              takes_plain true key e ep ∙ ap (λ x. is_same x key) (named_text name e t)
              ∙ (kept_parts key keys h).0

  left_in_imms : (keys : List (List ℕ)) → list_any (is_same name) keys ≡ false
      → AllByRecursion
      (λ key. Excludes (IsImmediate attributes) (is_named name) (takes false key)) keys
  left_in_imms [] h = tt
  left_in_imms (key ∷ keys) h = (first, left_in_imms keys apart.1)
    where
      apart : (is_same name key ≡ false) × (list_any (is_same name) keys ≡ false)
      apart = or_parts (is_same name key) (list_any (is_same name) keys) h

      first : Excludes (IsImmediate attributes) (is_named name) (takes false key)
      first e d t = by (is_path key) refl
        where
          by : (p : Bool) → is_path key ≡ p → takes false key e ≡ false
          by true ep = takes_path false key e ep
          by false ep =
              takes_plain false key e ep ∙ ap (λ x. is_same x key) (named_text name e t) ∙ apart.0

  module _ (m : Rec) (snap : IsSnapshot attributes m) where
    paths_left : (keys : Option (List (List ℕ))) → kept_by keys name props ≡ false
        → filter (is_named name) (joined (group_of keys m).paths) ≡ []
    paths_left None h =
        filter_nothing (IsInPath attributes) (is_named name) absent (joined m.paths) snap.paths
      where
        absent : (e : Entry) → IsInPath attributes e → is_named name e ≡ false
        absent e d = by (is_named name e) refl
          where
            by : (b : Bool) → is_named name e ≡ b → is_named name e ≡ false
            by false t = t
            by true t = absurd (true≢false
                (sym d.reference ∙ ap is_reference (own_props e d.declared t) ∙ h))
    paths_left (Some keys) h =
        ap (filter (is_named name)) (joined-has_entries (taken true keys (joined m.paths)))
        ∙ taken_none (IsInPath attributes) true (is_named name) keys (left_in_paths keys h)
        (joined m.paths) snap.paths

    imms_left : (keys : Option (List (List ℕ))) → kept_by keys name props ≡ false
        → filter (is_named name) (group_of keys m).imms ≡ []
    imms_left None h = refl
    imms_left (Some keys) h =
        taken_none (IsImmediate attributes) false (is_named name) keys
        (left_in_imms keys
        (or_parts (list_any (is_same name) keys) (list_any is_path keys && is_nested props) h).0)
        m.imms snap.imms

module _ (attributes : List Attribute) (channel : ChannelQuery) (named : IsNamed attributes channel)
    (o : Agg → Option Num) (m : Rec) (snap : IsSnapshot attributes m) where
  abbrev own : Rec
  own = with_entries attributes channel named o (group_of (keys_of channel) m)

  abbrev added : List Entry
  added = entries attributes channel named o

  -- where the group has none of a name, the row has those of the results
  in_row : (name : List ℕ)
      → filter (is_named name) (joined (group_of (keys_of channel) m).paths) ≡ []
      → filter (is_named name) (group_of (keys_of channel) m).imms ≡ []
      → entries_named name own ≡ filter (is_named name) added
  in_row name paths imms =
      filter-append (is_named name) (joined (group_of (keys_of channel) m).paths)
      ((group_of (keys_of channel) m).imms ++ added)
      ∙ (λ i. paths i ++ filter-append (is_named name) (group_of (keys_of channel) m).imms added i)
      ∙ ap (λ xs. xs ++ filter (is_named name) added) imms

  -- a value attribute that isn't kept has no number in it
  pub value_gone : (attr : List ℕ) → IsDeclared attributes attr
      → is_kept attributes (keys_of channel) attr ≡ false → last_number attr own ≡ None
  value_gone attr declared left =
      let found = some_of (props_of attributes attr) declared in
      let gone : kept_by (keys_of channel) attr found.0 ≡ false =
      sym (is_kept_by attributes (keys_of channel) attr found.0 found.1) ∙ left in
      ap last_in
      (in_row attr (paths_left attributes attr found.0 found.1 m snap (keys_of channel) gone)
      (imms_left attributes attr found.0 found.1 m snap (keys_of channel) gone)
      ∙ results_apart o (is_named attr) attr (named_other attr) (channel_query channel).aggs
      (no_result attributes channel named o attr declared))

  -- a result's name has the result
  pub result_there : (agg : Agg) → Contains (channel_query channel).aggs agg
      → entries_named agg.name own ≡ option_to_list (entry_of o agg)
  result_there agg there =
      let none = named.results agg there in
      in_row agg.name
      (group_paths_without attributes agg.name none m snap (keys_of channel))
      (group_imms_without attributes agg.name none m snap (keys_of channel))
      ∙ results_named o (channel_query channel).aggs (kept_distinct channel named.once) agg there

  pub number_there : (agg : Agg) → Contains (channel_query channel).aggs agg
      → last_number agg.name own ≡ o agg
  number_there agg there = ap last_in (result_there agg there) ∙ number_again agg (o agg)
