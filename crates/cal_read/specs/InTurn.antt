-- Nodes that are held in few bytes (private).
use Rattle.std.specs.Prelude.{ℕ, Option, None, slice_index_or}
use Rattle.cal_read.specs.Shared.{held_if}
use Rattle.cal_read.specs.declared.in_turn.InTurn.{InTurn}
use Rattle.cal_read.specs.declared.nodes.Held.{Held}

-- what is held of the node of an id
abbrev pub in_turn_at : InTurn → ℕ → Option Held
in_turn_at nodes id = held_if nodes.shared.items (slice_index_or nodes.row.items id None)
