-- The entries of a script and of its snapshots can be read again.
use Rattle.std.proofs.Common.{◌≡◌, ◌≤◌, ◌∙◌, Bool, true, List, [], sym, ap, arith}
use Rattle.std.proofs.Common.{pos, negsuc, true≢false, length}
use Rattle.std.specs.List.{AllByRecursion}
use Rattle.std.proofs.lemmas.Bool.{leb-true}
use Rattle.std.proofs.lemmas.List.Elements.{All-contains, All-from_recursion, recursion_from_All}
use Rattle.std.proofs.lemmas.Option.{get_or_from_slice_get, slice_get_within}
use Rattle.cal_profile.proofs.Lists.{all_weaker}
use Rattle.cal_run.specs.Entries.{IsDeclared, IsImmediate, IsPathEntry, IsSlotPath, IsSnapshot}
use Rattle.cal_script.specs.Names.{is_attribute_name}
use Rattle.cal_script.specs.Parts.{is_allowed}
use Rattle.cal_script.specs.Valid.{IsGlobalOf, IsRunnable, IsSaid}
use Rattle.cal_script.specs.declared.script.Script.{Script}
use Rattle.cal_stream.specs.Readable.{IsPlain, IsReadableEntry, IsReadablePath, IsReadableRecord}
use Rattle.cal_value.specs.Reading.{IsSmall}
use Rattle.cal_value.specs.declared.attribute.Attribute.{Attribute}
use Rattle.cal_value.specs.declared.attribute.Entry.{Entry}
use Rattle.cal_value.specs.declared.record.Rec.{Rec}
use Rattle.cal_value.specs.declared.variant.Variant as variants
use Rattle.cal_value.specs.declared.variant.Variant.TheVariants as variant

-- a value that a script may have has 64 bits
allowed-small : (v : variants.Variant) → is_allowed v ≡ true → IsSmall v
allowed-small (variant.Int (pos n)) is =
    let small = leb-true n 9223372036854775807 is in omega arith
allowed-small (variant.Int (negsuc n)) is =
    let small = leb-true n 9223372036854775807 is in omega arith
allowed-small (variant.Fixed (pos n)) is =
    let small = leb-true n 9223372036854775807 is in omega arith
allowed-small (variant.Fixed (negsuc n)) is =
    let small = leb-true n 9223372036854775807 is in omega arith
allowed-small (variant.Uint n) is = tt
allowed-small (variant.Text t) is = tt
allowed-small (variant.Bool b) is = tt
allowed-small (variant.Addr a) is = tt
allowed-small (variant.Kind k) is = tt
allowed-small (variant.Real t) is = tt
allowed-small (variant.Usr t) is = tt
allowed-small (variant.Ptr t) is = tt

pub said-readable : (e : Entry) → IsSaid e.attr e.value → IsReadableEntry e
said-readable e said = record {
  entry = record { kind = said.kind; proper = said.proper };
  small = allowed-small e.value said.allowed;
}

-- a name that may be declared isn't one of Caliper's own
name-plain : (a : Attribute) → is_attribute_name a.name ≡ true → IsPlain a
name-plain a allowed = record {
  no_name = λ same. true≢false
      (sym allowed ∙ ap (λ (x : Attribute). is_attribute_name x.name) same);
  no_kind = λ same. true≢false
      (sym allowed ∙ ap (λ (x : Attribute). is_attribute_name x.name) same);
  no_props = λ same. true≢false
      (sym allowed ∙ ap (λ (x : Attribute). is_attribute_name x.name) same);
}

module _ (script : Script) (runnable : IsRunnable script) where
  pub declared-allowed : (a : Attribute) → IsDeclared script a → is_attribute_name a.name ≡ true
  declared-allowed a there = All-contains
      (λ (x : Attribute). is_attribute_name x.name ≡ true) script.attributes a
      runnable.declared.names there

  pub declared-plain : (a : Attribute) → IsDeclared script a → IsPlain a
  declared-plain a there = name-plain a (declared-allowed a there)

  pub global-plain : (e : Entry) → IsGlobalOf script.attributes e → IsPlain e.attr
  global-plain e is = declared-plain e.attr (
    is.place,
    slice_get_within script.attributes is.place e.attr is.declared,
    get_or_from_slice_get script.attributes is.place e.attr e.attr is.declared,
  )

  -- a path of such entries, if it isn't too long
  pub path-readable : (path : List Entry) → (path ≡ [] → ⊥) → length path ≤ 1024
      → AllByRecursion (IsPathEntry script) path → IsReadablePath path
  path-readable path some short entries = record {
    some = some;
    short = short;
    entries = All-from_recursion IsReadableEntry path (all_weaker (IsPathEntry script)
        IsReadableEntry (λ e is. said-readable e is.said) path entries);
    plain = All-from_recursion (λ e. IsPlain e.attr) path (all_weaker (IsPathEntry script)
        (λ e. IsPlain e.attr) (λ e is. declared-plain e.attr is.declared) path entries);
  }

  slot-path-readable : (path : List Entry) → IsSlotPath script path → IsReadablePath path
  slot-path-readable path is =
      let short = is.short in
      path-readable path is.some (omega (arith, short))
      (recursion_from_All (IsPathEntry script) path is.entries)

  -- so is each snapshot of a run
  pub snapshot-readable : (r : Rec) → IsSnapshot script r → IsReadableRecord r
  snapshot-readable r is = record {
    paths = All-from_recursion IsReadablePath r.paths (all_weaker (IsSlotPath script)
        IsReadablePath slot-path-readable r.paths
        (recursion_from_All (IsSlotPath script) r.paths is.paths));
    imms = All-from_recursion IsReadableEntry r.imms (all_weaker (IsImmediate script)
        IsReadableEntry (λ e shown. said-readable e shown.said) r.imms
        (recursion_from_All (IsImmediate script) r.imms is.imms));
  }
