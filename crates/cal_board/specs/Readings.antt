-- When the open values of a thread were put there. (Giltmoth's rule.)
use Rattle.std.specs.Prelude.{ℕ, List, Option, if◌then◌else◌, unwrap_or}
use Rattle.cal_board.specs.Blackboard.{is_top, opened_instead, opened_more, slot_number}
use Rattle.cal_board.specs.Slots.{front, last_attribute, last_value, opened_in, with_slot}
use Rattle.cal_board.specs.declared.attr.AttrRef.{AttrRef}
use Rattle.cal_board.specs.declared.opened.Opened.{Opened}
use Rattle.cal_board.specs.declared.opened.Slot.{Slot}
use Rattle.cal_words.specs.declared.op.OpCode as codes
use Rattle.cal_words.specs.declared.op.OpCode.TheVariants as code

-- the readings of a slot after an accepted operation with this reading
abbrev pub slot_after : codes.OpCode → AttrRef → ℕ → List (Opened ℕ) → List (Opened ℕ)
slot_after code.Begin a reading os = opened_more a.number reading os
slot_after code.End a reading os = front os
slot_after code.Set a reading os = if is_top (last_attribute os) a.number
    then opened_instead a.number reading os
    else opened_more a.number reading os

-- For each open value, slot by slot as the values, the reading of the line that put it there.
abbrev pub readings_after : List (Slot ℕ) → codes.OpCode → AttrRef → ℕ → List (Slot ℕ)
readings_after readings c a reading =
    with_slot (slot_number a) (slot_after c a reading (opened_in (slot_number a) readings)) readings

-- the reading of the line that put the last value of an attribute's slot there
abbrev pub last_reading : List (Slot ℕ) → AttrRef → ℕ
last_reading readings a = unwrap_or (last_value (opened_in (slot_number a) readings)) 0
