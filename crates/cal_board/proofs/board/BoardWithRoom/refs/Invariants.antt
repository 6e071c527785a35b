use Rattle.std.proofs.Common.{◌≡◌, ◌++◌, length, take, flat_map}
use Rattle.std.specs.Option.{option_to_list}
use Rattle.cal_board.specs.Slots.{last_value}
use Rattle.cal_board.specs.declared.opened.Slot.{Slot}
use Rattle.cal_board.proofs.board.BoardWithRoom.refs.Given as goal

-- the last nodes of the slots so far have been added
abbrev pub invariant-loop-slot : goal.invariant-loop-slot
invariant-loop-slot g l = record {
  count : l.count ≡ length l.fn.out.items;
  added : l.out.items ≡ l.fn.out.items
      ++ flat_map (λ (s : Slot g.row.N.Denot). option_to_list (last_value s.opened)) (take l.slot-index l.slot-items);
}
