-- Attributes that have their numbers in a list as their properties.
use Rattle.std.proofs.Common.{◌≡◌, ℕ, ◌<◌, List, length, get_or}
use Rattle.cal_value.specs.declared.attribute.Attribute.{Attribute}

-- each attribute has its place as its properties, so that no two are equal
abbrev pub HavePlaces : List Attribute → Type 0
HavePlaces attrs = (k : ℕ) (d : Attribute) → k < length attrs → (get_or attrs k d).props.0 ≡ k
