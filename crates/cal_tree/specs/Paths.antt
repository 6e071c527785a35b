-- What a seat knows of nodes and of their paths. A node is a number: 0 is the root, and p + 1 the
-- node at place p of the rows.
use Rattle.std.specs.Prelude.{◌≡◌, ◌⊎◌, ℕ, ◌+◌, ◌<◌, List, [], ◌∷◌, length, map, slice_index_or}
use Rattle.std.specs.Prelude.{false}
use Rattle.cal_value.specs.WellFormed.{IsEntry}
use Rattle.cal_value.specs.declared.attribute.Attribute.{Attribute}
use Rattle.cal_value.specs.declared.attribute.Entry.{Entry}
use Rattle.cal_value.specs.declared.kind.Kind.TheVariants as kind
use Rattle.cal_value.specs.declared.variant.Variant.{Variant}
use Rattle.cal_words.specs.declared.sort.NodeSort.{NodeSort}
use Rattle.cal_words.specs.Records.{IsValue}
use Rattle.cal_words.specs.Words.{node_words}
use Rattle.cal_once.specs.declared.view.View.{View}
use Rattle.cal_once.specs.Views.{Knows, Holds, IsWordOf}

-- an entry of a path, with its attribute's number
pub record NodeEntry : Type 0 where
  pub attr : ℕ
  pub value : Variant

module _ (slots : ℕ) (v : View NodeSort) where
  -- the seat knows the node: it is the root, or its slot was met
  abbrev pub KnowsNode : ℕ → Type 0
  KnowsNode node = (node ≡ 0) ⊎ ((place : ℕ) × (node ≡ place + 1) × (place < slots) × Knows v place)

  -- the depth of a node, as the seat has read it: 0 of the root
  abbrev pub IsDepthOf : ℕ → ℕ → Type 0
  IsDepthOf node depth = ((node ≡ 0) × (depth ≡ 0))
      ⊎ ((place : ℕ) × (node ≡ place + 1) × (place < slots) × IsWordOf v place 1 depth)

  -- the node is a child of this parent, by this entry and at this depth
  pub record IsChild (parent depth : ℕ) (entry : NodeEntry) (node : ℕ) : Type 0 where
    pub place : ℕ
    pub node_is : node ≡ place + 1
    pub within : place < slots
    pub is_value : IsValue entry.value
    pub holds : Holds v place (node_words parent depth entry.attr entry.value)

  -- one comes from a node, at this depth, by these entries to another one
  abbrev pub Leads : ℕ → ℕ → List NodeEntry → ℕ → Type 0
  Leads start depth [] node = node ≡ start
  Leads start depth (e ∷ es) node =
      (next : ℕ) × IsChild start (depth + 1) e next × Leads next (depth + 1) es node

  -- the node's path, from the root down
  abbrev pub HasPath : List NodeEntry → ℕ → Type 0
  HasPath path node = Leads 0 0 path node

-- what is read past the end of the attributes
abbrev pub no_attribute : Attribute
no_attribute = record { name = []; kind = kind.Bool; props = record { 0 = 0 } }

-- the entry that is meant, where attributes are known by their places in a list
abbrev pub entry_of : List Attribute → NodeEntry → Entry
entry_of attrs e = record { attr = slice_index_or attrs e.attr no_attribute; value = e.value }

-- the path of entries that is meant
abbrev pub entries_of : List Attribute → List NodeEntry → List Entry
entries_of attrs path = map (entry_of attrs) path

-- the attribute's number is in the list, and the value is of its kind
pub record Fits (attrs : List Attribute) (e : NodeEntry) : Type 0 where
  pub listed : e.attr < length attrs
  pub is_entry : IsEntry (entry_of attrs e)
