-- Where the paths of two nodes part (private).
use Rattle.std.specs.Prelude.{◌≡◌, ◌≢◌, ◌<◌, List, [], ◌∷◌, ◌++◌, ⊤, length, Option, Some, None}
use Rattle.std.specs.declared.cmp.Ordering.{Ordering}
use Rattle.std.specs.declared.cmp.Ordering.TheVariants.{Less, Equal, Greater}
use Rattle.cal_context.specs.Children.{IsLinked}
use Rattle.cal_context.specs.Tree.{Tree, attribute_at, path_at, value_at}
use Rattle.cal_context.specs.declared.numbers.Link.{Link}
use Rattle.cal_context.specs.declared.numbers.NodeNumber.{NodeNumber}
use Rattle.cal_records.specs.declared.comparing.Child.{Child}
use Rattle.cal_records.specs.declared.comparing.Fork.{Fork}
use Rattle.cal_value.specs.Order.{entry_cmp}
use Rattle.cal_value.specs.declared.attribute.Entry.{Entry}

-- the entry of a link
abbrev pub entry_by : Tree → Link → Entry
entry_by t l = record { attr = attribute_at t l.attribute; value = value_at t l.value }

-- a path goes on below a node by a child of that node
pub record GoesBy (t : Tree) (node : NodeNumber) (c : Child) (rest : List Entry) : Type 0 where
  pub more : List Entry
  pub rest_is : rest ≡ entry_by t c.link ∷ more
  pub linked : IsLinked t c.link c.node
  pub parent : c.link.parent ≡ node

-- a path goes on below a node by this child, if at all
abbrev pub GoesOn : Tree → NodeNumber → Option Child → List Entry → Type 0
GoesOn t node None rest = rest ≡ []
GoesOn t node (Some c) rest = GoesBy t node c rest

-- the path of one node leads through another, and goes on by this child
pub record LeadsThrough (t : Tree) (one through : NodeNumber) (child : Option Child) : Type 0 where
  pub within : through.0 < length t.paths
  pub rest : List Entry
  pub path : path_at t one ≡ path_at t through ++ rest
  pub goes : GoesOn t through child rest

-- a child, if any, comes after a node
abbrev pub IsAfter : NodeNumber → Option Child → Type 0
IsAfter node None = ⊤
IsAfter node (Some c) = node.0 < c.node.0

-- two children, if any, aren't the same node
abbrev pub AreTwo : Option Child → Option Child → Type 0
AreTwo (Some c) (Some d) = c.node.0 ≢ d.node.0
AreTwo _ _ = ⊤

-- the paths of two nodes share all up to a node, and go on by two children of it
pub record IsFork (t : Tree) (one other : NodeNumber) (fork : Fork) : Type 0 where
  pub shared : NodeNumber
  pub first : LeadsThrough t one shared fork.one
  pub second : LeadsThrough t other shared fork.other
  pub two : AreTwo fork.one fork.other

-- the order of two paths by the children by which they go on
abbrev pub fork_cmp : Tree → Option Child → Option Child → Ordering
fork_cmp t None None = Equal
fork_cmp t None (Some d) = Less
fork_cmp t (Some c) None = Greater
fork_cmp t (Some c) (Some d) = entry_cmp (entry_by t c.link) (entry_by t d.link)
