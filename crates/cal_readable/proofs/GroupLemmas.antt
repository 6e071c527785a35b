-- The groups of the snapshots of a run can be read again: a name takes at most 256 entries of their
-- paths.
use Rattle.std.proofs.Common.{◌≡◌, ℕ, ◌+◌, ◌<◌, ◌≤◌, ◌∙◌, Bool, true, false, not, ◌&&◌, List, []}
use Rattle.std.proofs.Common.{◌∷◌, filter, length, refl, sym, ap, arith}
use Rattle.std.proofs.Common.{true≢false}
use Rattle.std.specs.Prelude.{Option, None, Some, if◌then◌else◌}
use Rattle.std.specs.List.{AllByRecursion}
use Rattle.std.proofs.lemmas.List.Elements.{All-from_recursion, recursion_from_All}
use Rattle.cal_board.specs.Blackboard.{slot_number}
use Rattle.cal_keys.specs.Groups.{group_of, has_entries, taken, takes}
use Rattle.cal_profile.proofs.KeptKeys.{taken_name, takes_path}
use Rattle.cal_profile.proofs.Lists.{all-filter, all_weaker, filter-swap}
use Rattle.cal_rowset.specs.Cells.{is_path}
use Rattle.cal_rowset.specs.Hierarchy.{is_of_hierarchy}
use Rattle.cal_run.specs.Entries.{IsImmediate, IsOfSlot, IsPathEntry, IsSlotPath, IsSnapshot}
use Rattle.cal_run.specs.Lines.{attr_ref, attribute_of}
use Rattle.cal_run.proofs.EntryLemmas.{filter-few}
use Rattle.cal_readable.proofs.EntryLemmas.{path-readable, said-readable, snapshot-readable}
use Rattle.cal_readable.proofs.KindLemmas.{at-place, place-once}
use Rattle.cal_readable.proofs.Lists.{all-append, all-flat_map, all-kept}
use Rattle.cal_script.specs.Valid.{IsRunnable}
use Rattle.cal_script.specs.declared.script.Script.{Script}
use Rattle.cal_stream.specs.Readable.{IsReadableEntry, IsReadablePath, IsReadableRecord}
use Rattle.cal_value.specs.Flat.{joined}
use Rattle.cal_value.specs.Props.{is_reference}
use Rattle.cal_value.specs.declared.attribute.Attribute.{Attribute}
use Rattle.cal_value.specs.declared.attribute.Entry.{Entry}
use Rattle.cal_value.specs.declared.record.Rec.{Rec}

module _ (script : Script) (runnable : IsRunnable script) where
  -- a test of entries of one slot keeps 256 of these at most
  abbrev HasFew : List Entry → Type 0
  HasFew es = (test : Entry → Bool) (slot : ℕ) → IsOfSlot script test slot
      → length (filter test es) ≤ 256

  less-few : (p : Entry → Bool) (es : List Entry) → HasFew es → HasFew (filter p es)
  less-few p es few test slot of =
      let all = few test slot of in
      let less = filter-few p (filter test es) in
      let same = ap length (filter-swap test p es) in
      omega (arith, all, less, same)

  -- ---- what a name takes is of one slot

  path-slot : (name : List ℕ) → is_path name ≡ true → IsOfSlot script (takes true name) 0
  path-slot name path a v below reference takes_it =
      ap (λ b. if b then 0 else a + 1) (both (is_of_hierarchy (attribute_of script a))
      (is_reference (attribute_of script a).props)
      (sym (takes_path true name (record { attr = attribute_of script a; value = v }) path)
      ∙ takes_it) reference)
    where
      both : (b c : Bool) → b ≡ true → c ≡ true → (b && c) ≡ true
      both true true one other = refl
      both true false one other = absurd (true≢false (sym other))
      both false c one other = absurd (true≢false (sym one))

  -- entries of the name of one that is declared
  own-slot : (name : List ℕ) → is_path name ≡ false → (place : ℕ)
      → place < length script.attributes → (attribute_of script place).name ≡ name
      → IsOfSlot script (takes true name) (slot_number (attr_ref script place))
  own-slot name other place within named a v below reference takes_it =
      ap (λ n. slot_number (attr_ref script n)) (place-once script runnable a place below within
      (taken_name true name (record { attr = attribute_of script a; value = v }) other takes_it
      ∙ sym named))

  taken-few : (name : List ℕ) (es : List Entry) → AllByRecursion (IsPathEntry script) es → HasFew es
      → length (filter (takes true name) es) ≤ 256
  taken-few name es are few = by (is_path name) refl
    where
      plain : is_path name ≡ false → (kept : List Entry)
          → AllByRecursion (λ e. IsPathEntry script e × (takes true name e ≡ true)) kept
          → kept ≡ filter (takes true name) es → length kept ≤ 256
      plain other [] all same = omega arith
      plain other (e ∷ kept) all same =
          let there = all.0.0.declared in
          let named = ap (λ (x : Attribute). x.name) (at-place script runnable e.attr there)
          ∙ taken_name true name e other all.0.1 in
          let most = few (takes true name) (slot_number (attr_ref script there.0))
          (own-slot name other there.0 there.1 named) in
          let equal = ap length same in
          omega (arith, most, equal)

      by : (b : Bool) → is_path name ≡ b → length (filter (takes true name) es) ≤ 256
      by true path = few (takes true name) 0 (path-slot name path)
      by false other = plain other (filter (takes true name) es)
          (all-kept (IsPathEntry script) (takes true name) es are) refl

  -- ---- what names take

  -- entries of paths, 256 at most
  record IsTaken (path : List Entry) : Type 0 where
    entries : AllByRecursion (IsPathEntry script) path
    few : length path ≤ 256

  taken-are : (names : List (List ℕ)) (es : List Entry) → AllByRecursion (IsPathEntry script) es
      → HasFew es → AllByRecursion IsTaken (taken true names es)
  taken-are [] es are few = tt
  taken-are (name ∷ names) es are few = (
    record {
      entries = all-filter (IsPathEntry script) (takes true name) es are;
      few = taken-few name es are few;
    },
    taken-are names (filter (λ e. not (takes true name e)) es)
        (all-filter (IsPathEntry script) (λ e. not (takes true name e)) es are)
        (less-few (λ e. not (takes true name e)) es few),
  )

  path-kept : (path : List Entry) → IsTaken path × (has_entries path ≡ true) → IsReadablePath path
  path-kept [] is = absurd (true≢false (sym is.1))
  path-kept (e ∷ es) is =
      let few = is.0.few in
      path-readable script runnable (e ∷ es) (λ none. omega (arith, ap length none))
      (omega (arith, few)) is.0.entries

  imms-taken : (names : List (List ℕ)) (es : List Entry) → AllByRecursion IsReadableEntry es
      → AllByRecursion IsReadableEntry (joined (taken false names es))
  imms-taken [] es are = tt
  imms-taken (name ∷ names) es are = all-append IsReadableEntry (filter (takes false name) es)
      (joined (taken false names (filter (λ e. not (takes false name e)) es)))
      (all-filter IsReadableEntry (takes false name) es are)
      (imms-taken names (filter (λ e. not (takes false name e)) es)
      (all-filter IsReadableEntry (λ e. not (takes false name e)) es are))

  joined-are : (r : Rec) → IsSnapshot script r
      → AllByRecursion (IsPathEntry script) (joined r.paths)
  joined-are r is = all-flat_map (IsSlotPath script) (IsPathEntry script) (λ path. path)
      (λ path slot. recursion_from_All (IsPathEntry script) path slot.entries) r.paths
      (recursion_from_All (IsSlotPath script) r.paths is.paths)

  -- So the group of a snapshot can be read again.
  pub group-readable : (keys : Option (List (List ℕ))) (r : Rec) → IsSnapshot script r
      → IsReadableRecord (group_of keys r)
  group-readable None r is = record {
    paths = (snapshot-readable script runnable r is).paths;
    imms = All-from_recursion IsReadableEntry [] tt;
  }
  group-readable (Some names) r is = record {
    paths = All-from_recursion IsReadablePath
        (filter has_entries (taken true names (joined r.paths)))
        (all_weaker (λ path. IsTaken path × (has_entries path ≡ true)) IsReadablePath path-kept
        (filter has_entries (taken true names (joined r.paths)))
        (all-kept IsTaken has_entries (taken true names (joined r.paths))
        (taken-are names (joined r.paths) (joined-are r is) is.few)));
    imms = All-from_recursion IsReadableEntry (joined (taken false names r.imms))
        (imms-taken names r.imms (all_weaker (IsImmediate script) IsReadableEntry
        (λ e shown. said-readable e shown.said) r.imms
        (recursion_from_All (IsImmediate script) r.imms is.imms)));
  }
