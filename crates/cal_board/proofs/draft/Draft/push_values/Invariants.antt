use Rattle.std.proofs.Common.{◌≡◌, ◌++◌, ◌-◌, length, take, flat_map, slice_get}
use Rattle.std.specs.Option.{option_map, option_to_list}
use Rattle.cal_board.specs.Standing.{immediate_of}
use Rattle.cal_board.specs.declared.opened.Slot.{Slot}
use Rattle.cal_value.specs.declared.variant.Variant.{Variant}
use Rattle.cal_board.proofs.draft.Draft.push_values.Given as goal

-- the last values of the slots so far have been added
abbrev pub invariant-loop-slot : goal.invariant-loop-slot
invariant-loop-slot g l = l.self ≡ l.fn.self
    ++ flat_map (λ (s : Slot Variant). option_to_list
    (option_map immediate_of (slice_get s.opened (length s.opened - 1))))
    (take l.slot-index l.slot-items)
