use Rattle.std.proofs.Common.{◌≡◌, ◌≤◌, ◌++◌, length, take, flat_map}
use Rattle.std.specs.Option.{option_to_list}
use Rattle.cal_board.specs.Slots.{last_value}
use Rattle.cal_board.specs.declared.opened.Slot.{Slot}
use Rattle.cal_context.specs.declared.numbers.NodeNumber.{NodeNumber}
use Rattle.cal_board.proofs.draft.put_nodes.Given as goal

-- the last nodes of the slots so far have been put
abbrev pub invariant-loop-slot : goal.invariant-loop-slot
invariant-loop-slot l = record {
  within : l.place ≤ length l.nodes.items;
  put : take l.place l.nodes.items ≡ take l.fn.from l.fn.nodes.items
      ++ flat_map (λ (s : Slot NodeNumber). option_to_list (last_value s.opened))
      (take l.slot-index l.slot-items);
}
