-- What nodes share, and what they have of their own (private).
use Rattle.std.specs.Prelude.{◌≡◌, ◌==◌, ◌++◌, List, Option, Some, None, slice_get}
use Rattle.std.specs.Prelude.{if◌then◌else◌}
use Rattle.std.specs.Option.{option_map}
use Rattle.cal_read.specs.declared.nodes.Held.{Held}
use Rattle.cal_read.specs.declared.shared.Own.{Own}
use Rattle.cal_read.specs.declared.shared.Shared.{Shared}

-- what a node has of its own and what it shares, together
abbrev pub held_of : Own → Shared → Held
held_of own shared = record {
  place = record {
    node = own.node;
    depth = own.depth;
    kind = shared.kind;
    props = shared.props;
  };
  attribute = shared.attribute;
  parent = if own.depth == 1 then None else Some own.parent;
  number = shared.number;
}

-- what a node shares with others
abbrev pub shared_of : Held → Shared
shared_of held = record {
  attribute = held.attribute;
  kind = held.place.kind;
  props = held.place.props;
  number = held.number;
}

-- what is held of a node, where there is one
abbrev pub held_if : List Shared → Option Own → Option Held
held_if all None = None
held_if all (Some own) = option_map (held_of own) (slice_get all own.shared)

-- some more are noted behind those of before
pub record Gains (old new : List Shared) : Type 0 where
  pub more : List Shared
  pub are : new ≡ old ++ more
