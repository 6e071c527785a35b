-- What is held of nodes in few bytes.
use Rattle.std.proofs.Common.{◌≡◌, Option, Some, None, refl}
use Rattle.std.specs.Prelude.{IsSomeAnd}
use Rattle.cal_context.specs.declared.numbers.AttributeNumber.{AttributeNumber}
use Rattle.cal_context.specs.declared.numbers.NodeNumber.{NodeNumber}
use Rattle.cal_read.specs.Held.{or_else}
use Rattle.cal_read.specs.declared.nodes.Held.{Held}

-- what is held in turn is held
pub node_there : (first other : Option Held) (node : NodeNumber) → IsSomeAnd first (λ held. held.place.node ≡ node) → (held : Held) × (or_else first other ≡ Some held) × (held.place.node ≡ node)
node_there None other node is = absurd is
node_there (Some held) other node is = (held, refl, is)

pub number_there : (first other : Option Held) (number : AttributeNumber) → IsSomeAnd first (λ held. held.number ≡ Some number) → (held : Held) × (or_else first other ≡ Some held) × (held.number ≡ Some number)
number_there None other number is = absurd is
number_there (Some held) other number is = (held, refl, is)
