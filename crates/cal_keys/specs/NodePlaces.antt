-- Where the nodes of a list stand in it.
use Rattle.std.specs.Prelude.{◌≡◌, ℕ, List, Some, slice_get}
use Rattle.cal_context.specs.declared.numbers.NodeNumber.{NodeNumber}

-- the place of each node stands at the node's number
abbrev pub ArePlaces : List NodeNumber → List ℕ → Type 0
ArePlaces nodes places = (k : ℕ) (n : NodeNumber)
    → slice_get nodes k ≡ Some n → slice_get places n.0 ≡ Some k
