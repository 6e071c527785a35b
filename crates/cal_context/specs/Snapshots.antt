use Rattle.std.specs.Prelude.{◌≡◌, ◌<◌, length, map}
use Rattle.std.specs.List.{All}
use Rattle.cal_value.specs.declared.attribute.Entry.{Entry}
use Rattle.cal_value.specs.declared.record.Rec.{Rec}
use Rattle.cal_value.specs.declared.variant.Variant.{Variant}
use Rattle.cal_context.specs.Tree.{Tree, attribute_at, value_at, path_at}
use Rattle.cal_context.specs.Children.{IsChild}
use Rattle.cal_context.specs.declared.numbers.AttributeNumber.{AttributeNumber}
use Rattle.cal_context.specs.declared.numbers.NodeNumber.{NodeNumber}
use Rattle.cal_context.specs.declared.numbers.ValueNumber.{ValueNumber}
use Rattle.cal_context.specs.declared.snapshot.Immediate.{Immediate}
use Rattle.cal_context.specs.declared.snapshot.Snapshot.{Snapshot}

-- the entry that an immediate means
abbrev pub entry_of : Tree → Immediate → Entry
entry_of t i = record { attr = attribute_at t i.attribute; value = i.value }

-- the record that a snapshot means: the paths of its nodes, and its immediates
abbrev pub meaning : Tree → Snapshot → Rec
meaning t s = record {
  paths = map (path_at t) s.nodes.items;
  imms = map (entry_of t) s.imms.items;
}

-- a node of the context below the root
pub record IsBelowRoot (t : Tree) (n : NodeNumber) : Type 0 where
  pub below : 0 < n.0
  pub within : n.0 < length t.paths

-- A snapshot is about this context: each of its nodes is one below the root, and each immediate
-- has one of the attributes.
pub record IsIn (t : Tree) (s : Snapshot) : Type 0 where
  pub nodes : All (IsBelowRoot t) s.nodes.items
  pub imms : All (λ i. i.attribute.0 < length t.attributes) s.imms.items

-- What numbers mean stays: attributes, values, paths, children, and what lies in the context and
-- what it means there.
pub record KeepsMeanings (old new : Tree) : Type 0 where
  pub attributes : (n : AttributeNumber) → n.0 < length old.attributes
      → attribute_at new n ≡ attribute_at old n
  pub values : (n : ValueNumber) → n.0 < length old.values → value_at new n ≡ value_at old n
  pub paths : (n : NodeNumber) → n.0 < length old.paths → path_at new n ≡ path_at old n
  pub children : (parent : NodeNumber) (attribute : AttributeNumber) (value : Variant)
      (node : NodeNumber) → IsChild old parent attribute value node
      → IsChild new parent attribute value node
  pub snapshots : (s : Snapshot) → IsIn old s → IsIn new s
  pub meanings : (s : Snapshot) → IsIn old s → meaning new s ≡ meaning old s
