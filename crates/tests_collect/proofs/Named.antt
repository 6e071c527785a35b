-- A snapshot by numbers of a list's attributes may be added by its meaning.
use Rattle.std.proofs.Common.{◌≡◌, ℕ, ◌<◌, List, length, map, get_or, arith}
use Rattle.std.specs.List.{All, Contains}
use Rattle.std.proofs.lemmas.List.Elements.{All-map}
use Rattle.cal_value.specs.declared.attribute.Attribute.{Attribute}
use Rattle.cal_value.specs.declared.attribute.Entry.{Entry}
use Rattle.cal_context.proofs.ListLemmas.{Contains-number}
use Rattle.std.proofs.lemmas.Option.{slice_get-get_or}
use Rattle.cal_snap.specs.Numbered.{IsKnown, entry_of, meaning, no_attribute}
use Rattle.cal_snap.specs.declared.numbered.NumberedSnap.{NumberedSnap}
use Rattle.cal_table.specs.Numbering.{MayAdd}
use Rattle.cal_table.specs.Snapshots.{HasNumberOf64, IsWithin64}

pub MayAdd-meaning : (attrs : List Attribute) (snap : NumberedSnap) → All (IsKnown attrs) snap.imms.items → All HasNumberOf64 snap.imms.items → MayAdd attrs (meaning attrs snap)
MayAdd-meaning attrs snap known numbers = record {
  known = All-map (λ (e : Entry). Contains attrs e.attr) (entry_of attrs) snap.imms.items
      (λ k d l. Contains-number attrs (get_or snap.imms.items k d).attribute (get_or attrs (get_or snap.imms.items k d).attribute no_attribute) (slice_get-get_or attrs (get_or snap.imms.items k d).attribute no_attribute (known k d l)));
  numbers = All-map (λ (e : Entry). IsWithin64 e.value) (entry_of attrs) snap.imms.items numbers;
}
