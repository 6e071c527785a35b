-- Columns of a row that are looked up as they are read from its line (private).
use Rattle.std.specs.Prelude.{◌≡◌, ℕ, List, Some, Ok}
use Rattle.cal_context.specs.Tree.{Tree}
use Rattle.cal_context.specs.declared.numbers.AttributeNumber.{AttributeNumber}
use Rattle.cal_context.specs.declared.numbers.NodeNumber.{NodeNumber}
use Rattle.cal_value.specs.declared.attribute.Attribute.{Attribute}
use Rattle.cal_read.specs.Columns.{AreEnds, AreNumbers}
use Rattle.cal_read.specs.Fields.{each}
use Rattle.cal_read.specs.Held.{AreHeld, held_at}
use Rattle.cal_read.specs.NodeLines.{known, as_attribute}
use Rattle.cal_read.specs.Nodes.{Named, Node}
use Rattle.cal_read.specs.Usual.{AreColumns, IsHead, ReadsIds}
use Rattle.cal_read.specs.declared.nodes.Held.{Held}
use Rattle.cal_read.specs.declared.nodes.Nodes.{Nodes}

-- what is held of the node of an id has this number
pub record HasNumber (nodes : Nodes) (id : ℕ) (number : AttributeNumber) : Type 0 where
  pub held : Held
  pub there : held_at nodes id ≡ Some held
  pub number_is : held.number ≡ Some number

-- what is held of the node of an id is at this node of the context
pub record HasNode (nodes : Nodes) (id : ℕ) (node : NodeNumber) : Type 0 where
  pub held : Held
  pub there : held_at nodes id ≡ Some held
  pub node_is : held.place.node ≡ node

-- ids name nodes, which are these of the context
pub record NameEnds (t : Tree) (named : List Named) (ids : List ℕ) (ends : List NodeNumber) : Type 0
  where
    pub found : List Node
    pub known : each (known named) ids ≡ Ok found
    pub are : AreEnds t ends found

-- ids name attributes, which have these numbers in the context
pub record NameNumbers (t : Tree) (named : List Named) (ids : List ℕ)
    (numbers : List AttributeNumber) : Type 0 where
  pub found : List Node
  pub known : each (known named) ids ≡ Ok found
  pub attributes : List Attribute
  pub have : each as_attribute found ≡ Ok attributes
  pub are : AreNumbers t numbers attributes

-- whatever the nodes that are held stand for, ids name these
abbrev pub EndsAre : Nodes → List ℕ → List NodeNumber → Type 0
EndsAre nodes ids ends =
    (t : Tree) (named : List Named) → AreHeld t nodes named → NameEnds t named ids ends

abbrev pub NumbersAre : Nodes → List ℕ → List AttributeNumber → Type 0
NumbersAre nodes ids numbers =
    (t : Tree) (named : List Named) → AreHeld t nodes named → NameNumbers t named ids numbers

-- the values between two places are ids of these nodes
pub record ReadsEnds (nodes : Nodes) (line : List ℕ) (start end : ℕ) (ends : List NodeNumber)
    : Type 0 where
  pub ids : List ℕ
  pub read : ReadsIds line start end ids
  pub are : EndsAre nodes ids ends

-- up to this place stands a head with ids of these nodes
pub record ReadsHead (nodes : Nodes) (line : List ℕ) (end : ℕ) (ends : List NodeNumber) : Type 0
  where
    pub refs : List ℕ
    pub head : IsHead line end refs
    pub are : EndsAre nodes refs ends

-- up to this place stand a head with ids of these nodes, ids of attributes with these numbers, and
-- the key `data`
pub record ReadsColumns (nodes : Nodes) (line : List ℕ) (end : ℕ) (ends : List NodeNumber)
    (numbers : List AttributeNumber) : Type 0 where
  pub refs : List ℕ
  pub ids : List ℕ
  pub columns : AreColumns line end refs ids
  pub ends_are : EndsAre nodes refs ends
  pub numbers_are : NumbersAre nodes ids numbers
