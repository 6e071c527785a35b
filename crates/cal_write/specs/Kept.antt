use Rattle.std.specs.Prelude.{◌≡◌, ℕ, ◌<◌, List, [], ◌∷◌, ◌++◌, Option, Some, IsSome, map, length}
use Rattle.cal_value.specs.declared.attribute.Entry.{Entry}
use Rattle.cal_context.specs.Tree.{Tree, attribute_at, path_at}
use Rattle.cal_context.specs.declared.numbers.AttributeNumber.{AttributeNumber}
use Rattle.cal_context.specs.declared.numbers.Link.{Link}
use Rattle.cal_context.specs.declared.numbers.NodeNumber.{NodeNumber}
use Rattle.cal_write.specs.Nodes.{Node, node_of_attribute, needed_by_attribute, needed_below}
use Rattle.cal_write.specs.CanonicalText.{id_in}
use Rattle.cal_write.specs.Memo.{memo_at}
use Rattle.cal_write.specs.Places.{Has, HasAll, IsAt, IsParent, KnowsAttribute}
use Rattle.cal_write.specs.Stream.{IsStream}
use Rattle.cal_write.specs.Written.{Written, after}
use Rattle.cal_write.specs.declared.node_writer.NodeWriter.{NodeWriter}

-- a node of the context is in the stream with this id
pub record IsNoted (t : Tree) (ns : List Node) (n : NodeNumber) (id : ℕ) : Type 0 where
  pub within : n.0 < length t.paths
  pub at : IsParent ns (path_at t n) (Some id)

-- an attribute of the context is described in the stream, by a node with this id
pub record IsKnown (t : Tree) (ns : List Node) (a : AttributeNumber) (id : ℕ) : Type 0 where
  pub within : a.0 < length t.attributes
  pub knows : KnowsAttribute ns (attribute_at t a) id

-- a path is that of a node whose id is noted
pub record HasNote (t : Tree) (memo : List (Option ℕ)) (n : Node) : Type 0 where
  pub number : NodeNumber
  pub within : number.0 < length t.paths
  pub path : path_at t number ≡ n
  pub noted : IsSome (memo_at memo number.0)

-- What is kept beside the numbers of a context is right for what is written: each id that is noted
-- is its node's, and each node of another than a built-in attribute has its note.
pub record IsKept (t : Tree) (w : NodeWriter) (s : Written) : Type 0 where
  pub stream : IsStream w.stream s
  pub nodes : (n : NodeNumber) (id : ℕ) → memo_at w.nodes n.0 ≡ Some id → IsNoted t s.nodes n id
  pub all : (up : Node) (e : Entry) → Has s.nodes (up ++ e ∷ [])
      → 10 < id_in s.nodes (node_of_attribute e.attr) → HasNote t w.nodes (up ++ e ∷ [])
  pub attributes : (a : AttributeNumber) (id : ℕ) → memo_at w.attributes a.0 ≡ Some id
      → IsKnown t s.nodes a id

-- what an attribute needs is there, and its node has this id, whatever was written before
pub record NeedsAttribute (t : Tree) (old new : NodeWriter) (a : AttributeNumber) (id : ℕ)
    : Type 0 where
  pub kept : (s : Written) → IsKept t old s
      → IsKept t new (after s (needed_by_attribute (attribute_at t a)))
  pub at : (s : Written) → IsKept t old s
      → IsAt (after s (needed_by_attribute (attribute_at t a))).nodes
      (node_of_attribute (attribute_at t a)) id

-- what a node needs is there, and it has this id; the root needs nothing, and has none
pub record NeedsNode (t : Tree) (old new : NodeWriter) (n : NodeNumber) (id : Option ℕ) : Type 0
  where
    pub kept : (s : Written) → IsKept t old s
        → IsKept t new (after s (needed_below [] (path_at t n)))
    pub at : (s : Written) → IsKept t old s
        → IsParent (after s (needed_below [] (path_at t n))).nodes (path_at t n) id

-- below a parent with this id a node has this id, once it and its attribute were needed
pub record AddsNode (t : Tree) (old new : NodeWriter) (l : Link) (n : NodeNumber)
    (parent : Option ℕ) (id : ℕ) : Type 0 where
  pub kept : (s : Written) → IsKept t old s → IsParent s.nodes (path_at t l.parent) parent
      → IsKept t new
      (after s (needed_by_attribute (attribute_at t l.attribute) ++ path_at t n ∷ []))
  pub at : (s : Written) → IsKept t old s → IsParent s.nodes (path_at t l.parent) parent
      → IsAt (after s (needed_by_attribute (attribute_at t l.attribute) ++ path_at t n ∷ [])).nodes
      (path_at t n) id

-- these nodes are there, with these ids
pub record AreAt (ns nodes : List Node) (ids : List ℕ) : Type 0 where
  pub has : HasAll ns nodes
  pub are : ids ≡ map (id_in ns) nodes
