-- What a snapshot by numbers means, with attributes by their numbers in a list of them.
use Rattle.std.specs.Prelude.{◌<◌, List, [], ◌++◌, length, map, slice_index_or}
use Rattle.cal_value.specs.declared.attribute.Attribute.{Attribute}
use Rattle.cal_value.specs.declared.attribute.Entry.{Entry}
use Rattle.cal_value.specs.declared.kind.Kind.TheVariants as kind
use Rattle.cal_words.specs.declared.node.NodeId.{NodeId}
use Rattle.cal_snap.specs.declared.numbered.NumberedEntry.{NumberedEntry}
use Rattle.cal_snap.specs.declared.numbered.NumberedSnap.{NumberedSnap}
use Rattle.cal_snap.specs.declared.snap.Snap.{Snap}

-- stands for an attribute that isn't there; no clause reads it
abbrev pub no_attribute : Attribute
no_attribute = record { name = []; kind = kind.Bool; props = record { 0 = 0 } }

-- the number is a place in the list
abbrev pub IsKnown : List Attribute → NumberedEntry → Type 0
IsKnown attrs e = e.attribute < length attrs

-- the entry of a number
abbrev pub entry_of : List Attribute → NumberedEntry → Entry
entry_of attrs e = record { attr = slice_index_or attrs e.attribute no_attribute; value = e.value }

-- the snapshot of numbers: its nodes, and its entries with their attributes
abbrev pub meaning : List Attribute → NumberedSnap → Snap
meaning attrs snap = record {
  refs = snap.refs.items;
  imms = map (entry_of attrs) snap.imms.items;
}

-- the parts of a snapshot in their order
abbrev pub taken : List Entry → List NodeId → List NodeId → List Entry → Snap
taken head mine process tops = record { refs = mine ++ process; imms = head ++ tops }
