use Rattle.std.specs.Prelude.{◌≡◌, ℕ, ◌+◌, ◌<◌, ◌≤◌, false}
use Rattle.std.specs.Prelude.{List, [], ◌∷◌, ◌++◌, Option, length, slice_index_or}
use Rattle.std.specs.List.{Contains, list_any}
use Rattle.cal_value.specs.declared.attribute.Entry.{Entry}
use Rattle.cal_value.specs.declared.variant.Variant.{Variant}
use Rattle.cal_context.specs.Lists.{IsFront}
use Rattle.cal_write.specs.Nodes.{Node, same_node, node_of_attribute, built_in}
use Rattle.cal_write.specs.Lines.{node_line}
use Rattle.cal_write.specs.CanonicalText.{id_in, parent_id}
use Rattle.cal_write.specs.Places.{Has, IsAt, IsParent, KnowsAttribute, IsClosed}
use Rattle.cal_write.specs.Written.{Written, after}
use Rattle.cal_write.specs.declared.described.DescribedNode.{DescribedNode}
use Rattle.cal_write.specs.declared.stream.Lines.{Lines}
use Rattle.cal_write.specs.declared.stream.Stream.{Stream}

-- the line of a new node was written, and the node has the next id
pub record AddsLine (old new : Lines) (parent : Option ℕ) (attribute : ℕ) (v : Variant) (id : ℕ)
    : Type 0 where
  pub is : id ≡ old.next
  pub next : new.next ≡ old.next + 1
  pub text : new.text ≡ old.text ++ node_line id attribute v parent

-- a key stands for a node, which has this id
pub record IsNodeOf (ns : List Node) (key : DescribedNode) (id : ℕ) : Type 0 where
  pub up : Node
  pub parent : IsParent ns up key.parent
  pub at : IsAt ns (up ++ key.entry ∷ []) id

-- the attribute of an entry is a built-in one, as its id tells
abbrev pub IsOfBuiltIn : List Node → Entry → Type 0
IsOfBuiltIn ns e = id_in ns (node_of_attribute e.attr) ≤ 10

-- Keys and ids stand for nodes, and each node of a built-in attribute has its key.
pub record IsDescribed (keys : List DescribedNode) (ids : List ℕ) (ns : List Node) : Type 0 where
  pub counted : length ids ≡ length keys
  pub nodes : (k : ℕ) (d : DescribedNode) → k < length keys
      → IsNodeOf ns (slice_index_or keys k d) (slice_index_or ids k 0)
  pub all : (up : Node) (e : Entry) → Has ns (up ++ e ∷ []) → IsOfBuiltIn ns e
      → Contains keys (record { parent = parent_id ns up; entry = e })

-- a stream as it is kept stands for what is written
pub record IsStream (v : Stream) (s : Written) : Type 0 where
  pub text : v.lines.text ≡ s.text
  pub next : v.lines.next ≡ length s.nodes
  pub front : IsFront built_in s.nodes
  pub closed : IsClosed s.nodes
  pub described : IsDescribed v.described v.ids.items s.nodes

-- the built-in nodes alone, and no text
abbrev pub IsBegun : Stream → Type 0
IsBegun v = IsStream v (record { nodes = built_in; text = [] })

-- the nodes that were needed are there, and one of them has this id
pub record WritesTo (v : Stream) (s : Written) (n : Node) (id : ℕ) : Type 0 where
  pub stream : IsStream v s
  pub at : IsAt s.nodes n id

-- these nodes were needed, and a node has this id, whatever was written before
abbrev pub Describes : Stream → Stream → List Node → Node → ℕ → Type 0
Describes old new needed n id =
    (s : Written) → IsStream old s → WritesTo new (after s needed) n id

-- the node of an entry of a built-in attribute was needed, below a node of this id
abbrev pub AddsDescribed : Stream → Stream → Option ℕ → ℕ → Entry → ℕ → Type 0
AddsDescribed old new parent attribute e id =
    (s : Written) (up : Node) → IsStream old s → IsParent s.nodes up parent
    → KnowsAttribute s.nodes e.attr attribute → attribute ≤ 10
    → WritesTo new (after s ((up ++ e ∷ []) ∷ [])) (up ++ e ∷ []) id

-- The node of an entry was needed, below a node of this id. Where the attribute isn't a built-in
-- one, the node was new.
abbrev pub AddsEntry : Stream → Stream → Option ℕ → ℕ → Entry → ℕ → Type 0
AddsEntry old new parent attribute e id =
    (s : Written) (up : Node) → IsStream old s → IsParent s.nodes up parent
    → KnowsAttribute s.nodes e.attr attribute
    → (10 < attribute → list_any (same_node (up ++ e ∷ [])) s.nodes ≡ false)
    → WritesTo new (after s ((up ++ e ∷ []) ∷ [])) (up ++ e ∷ []) id
