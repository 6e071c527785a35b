-- Boards of plain values: what they keep for an open value is the value.
use Rattle.std.specs.Prelude.{◌≡◌, ◌-◌, ◌<◌, List, length, map, flat_map, All, slice_get}
use Rattle.std.specs.Prelude.{slice_index_or}
use Rattle.std.specs.Prelude.{if◌then◌else◌, Option, Some, option_map, option_to_list}
use Rattle.cal_board.specs.Blackboard.{Blackboard, slot_number}
use Rattle.cal_board.specs.Slots.{last_value, opened_in}
use Rattle.cal_board.specs.declared.attr.AttrRef.{AttrRef}
use Rattle.cal_board.specs.declared.opened.Opened.{Opened}
use Rattle.cal_board.specs.declared.opened.Slot.{Slot}
use Rattle.cal_context.specs.Tree.{no_attribute}
use Rattle.cal_value.specs.declared.attribute.Attribute.{Attribute}
use Rattle.cal_value.specs.declared.attribute.Entry.{Entry}
use Rattle.cal_value.specs.declared.variant.Variant.{Variant}

-- a value stands for the open values that it ends
abbrev pub IsLastValue : Variant → List (Opened Variant) → Type 0
IsLastValue v path = last_value path ≡ Some v

-- the number of each open value's attribute is a place in the list of attributes
abbrev pub AreKnown : List Attribute → List (Opened Variant) → Type 0
AreKnown attrs os = All (λ (o : Opened Variant). o.attribute < length attrs) os

-- the entry of an open value
abbrev pub entry_in : List Attribute → Opened Variant → Entry
entry_in attrs o = record { attr = slice_index_or attrs o.attribute no_attribute; value = o.value }

-- the open values of each slot as a path
abbrev pub entries_of : List Attribute → List (Slot Variant) → List (List Entry)
entries_of attrs slots = map (λ (s : Slot Variant). map (entry_in attrs) s.opened) slots

-- the last value of some open values
abbrev pub last_opened : List (Opened Variant) → Option (Opened Variant)
last_opened os = slice_get os (length os - 1)

-- the last value of each slot
abbrev pub last_entries : List Attribute → List (Slot Variant) → List Entry
last_entries attrs slots = flat_map (λ (s : Slot Variant).
    option_to_list (option_map (entry_in attrs) (last_opened s.opened))) slots

-- the last value in an attribute's slot
abbrev pub last_at : Blackboard Variant → AttrRef → Option (Opened Variant)
last_at b a = if a.as_value then last_opened (opened_in (slot_number a) b.as_values)
    else last_opened (opened_in (slot_number a) b.references)
