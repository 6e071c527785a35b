-- The numbers of a snapshot are in its key in a table, or else among its other immediates.
use Rattle.std.proofs.Common.{◌≡◌, ℕ, Bool, true, false, not, List, [], ◌∷◌, ◌++◌, filter}
use Rattle.std.proofs.Common.{inl, inr, refl, sym, ap, ◌∙◌, true≢false, Option, None, Some}
use Rattle.std.specs.Prelude.{◌⊎◌}
use Rattle.std.specs.List.{AllByRecursion, filter_map, last_or, list_any}
use Rattle.std.proofs.lemmas.List.Elements.{filter-append}
use Rattle.cal_agg.specs.declared.num.Num.{Num}
use Rattle.cal_filter.specs.Named.{entries_named, is_named, last_number}
use Rattle.cal_filter.specs.Numbers.{number_in}
use Rattle.cal_profile.specs.Declared.{IsImmediate, IsInPath, IsSnapshot, props_of}
use Rattle.cal_profile.specs.TableRows.{last_among, table_key}
use Rattle.cal_profile.proofs.Lists.{filter-swap}
use Rattle.cal_profile.proofs.RowNumbers.{named_text, own_props}
use Rattle.cal_profile.proofs.Taking.{filter_excluded, filter_implied, filter_nothing}
use Rattle.cal_rowset.specs.Texts.{is_same}
use Rattle.cal_script.specs.declared.script.ChannelQuery.{ChannelQuery}
use Rattle.cal_value.specs.Flat.{joined}
use Rattle.cal_value.specs.Props.{is_reference}
use Rattle.cal_value.specs.declared.attribute.Attribute.{Attribute}
use Rattle.cal_value.specs.declared.attribute.Entry.{Entry}
use Rattle.cal_value.specs.declared.props.Props.{Props}
use Rattle.cal_value.specs.declared.record.Rec.{Rec}

abbrev pub last_in : List Entry → Option Num
last_in es = last_or None (filter_map (λ e. number_in e.value) es)

module _ (attributes : List Attribute) (channel : ChannelQuery) (m : Rec)
    (snap : IsSnapshot attributes m) where
  abbrev is_key : Entry → Bool
  is_key e = list_any (is_same e.attr.name) channel.keys

  module _ (name : List ℕ) (props : Props) (is : props_of attributes name ≡ Some props) where
    -- an immediate of a reference attribute isn't there, nor an entry in a path of an as-value one
    no_immediates : is_reference props ≡ true → filter (is_named name) m.imms ≡ []
    no_immediates reference = filter_nothing (IsImmediate attributes) (is_named name) apart m.imms
        snap.imms
      where
        apart : (e : Entry) → IsImmediate attributes e → is_named name e ≡ false
        apart e d = by (is_named name e) refl
          where
            by : (b : Bool) → is_named name e ≡ b → is_named name e ≡ false
            by false t = t
            by true t =
                let same = own_props attributes name props is e d.declared t in
                absurd (true≢false
                (sym reference ∙ ap is_reference (sym same) ∙ ap not d.value))

    none_in_paths : is_reference props ≡ false → filter (is_named name) (joined m.paths) ≡ []
    none_in_paths value = filter_nothing (IsInPath attributes) (is_named name) apart
        (joined m.paths) snap.paths
      where
        apart : (e : Entry) → IsInPath attributes e → is_named name e ≡ false
        apart e d = by (is_named name e) refl
          where
            by : (b : Bool) → is_named name e ≡ b → is_named name e ≡ false
            by false t = t
            by true t =
                let same = own_props attributes name props is e d.declared t in
                absurd (true≢false (sym d.reference ∙ ap is_reference same ∙ value))

    -- the immediates of a name in the key: all where it is a key, and else none
    key_imms : list_any (is_same name) channel.keys ≡ true
        → filter (is_named name) (filter is_key m.imms) ≡ filter (is_named name) m.imms
    key_imms key = filter_implied (IsImmediate attributes) (is_named name) is_key
        (λ e d t. ap (λ n. list_any (is_same n) channel.keys) (named_text name e t) ∙ key)
        m.imms snap.imms

    other_imms : list_any (is_same name) channel.keys ≡ false
        → filter (is_named name) (filter is_key m.imms) ≡ []
    other_imms other = filter_excluded (IsImmediate attributes) (is_named name) is_key
        (λ e d t. ap (λ n. list_any (is_same n) channel.keys) (named_text name e t) ∙ other)
        m.imms snap.imms

    named_in_key : entries_named name (table_key channel m)
        ≡ filter (is_named name) (joined m.paths) ++ filter (is_named name) (filter is_key m.imms)
    named_in_key = filter-append (is_named name) (joined m.paths) (filter is_key m.imms)

    named_in : entries_named name m
        ≡ filter (is_named name) (joined m.paths) ++ filter (is_named name) m.imms
    named_in = filter-append (is_named name) (joined m.paths) m.imms

    -- Its last number is the key's, or the key has none and it is the last among its immediates.
    pub record IsSplit : Type 0 where
      pub there : (n : Num) → last_number name (table_key channel m) ≡ Some n
          → last_number name m ≡ Some n
      pub else : last_number name (table_key channel m) ≡ None
          → last_number name m ≡ last_among name m.imms

    -- where the key has all entries of the name
    whole : filter (is_named name) (filter is_key m.imms) ≡ filter (is_named name) m.imms
        → (last_among name m.imms ≡ None) ⊎ (filter (is_named name) (joined m.paths) ≡ [])
        → IsSplit
    whole all alone = record {
      there = λ n h. sym same ∙ h;
      else = λ h. by alone h;
    }
      where
        same : last_number name (table_key channel m) ≡ last_number name m
        same = ap last_in (named_in_key
            ∙ ap (λ es. filter (is_named name) (joined m.paths) ++ es) all ∙ sym named_in)

        by : (last_among name m.imms ≡ None) ⊎ (filter (is_named name) (joined m.paths) ≡ [])
            → last_number name (table_key channel m) ≡ None
            → last_number name m ≡ last_among name m.imms
        by (inl none) h = sym same ∙ h ∙ sym none
        by (inr none) h =
            ap last_in (named_in ∙ ap (λ es. es ++ filter (is_named name) m.imms) none)

    pub split : IsSplit
    split = by_sort (is_reference props) refl (list_any (is_same name) channel.keys) refl
      where
        by_sort : (r : Bool) → is_reference props ≡ r → (k : Bool)
            → list_any (is_same name) channel.keys ≡ k → IsSplit
        by_sort true reference k key =
            let none = no_immediates reference in
            whole
            (filter-swap (is_named name) is_key m.imms ∙ ap (filter is_key) none ∙ sym none)
            (inl (ap last_in none))
        by_sort false value true key = whole (key_imms key) (inr (none_in_paths value))
        by_sort false value false other =
            let gone : last_number name (table_key channel m) ≡ None =
            ap last_in (named_in_key
            ∙ (λ i. none_in_paths value i ++ other_imms other i)) in
            record {
              there = λ n h. let no : None ≡ Some n = sym gone ∙ h in cc;
              else = λ h. ap last_in
                  (named_in ∙ ap (λ es. es ++ filter (is_named name) m.imms) (none_in_paths value));
            }

  -- a name that isn't declared has no entry in the key
  pub key_without : (name : List ℕ) → filter (is_named name) (joined m.paths) ≡ []
      → filter (is_named name) m.imms ≡ [] → entries_named name (table_key channel m) ≡ []
  key_without name paths imms =
      filter-append (is_named name) (joined m.paths) (filter is_key m.imms)
      ∙ (λ i. paths i
      ++ (filter-swap (is_named name) is_key m.imms ∙ ap (filter is_key) imms) i)
