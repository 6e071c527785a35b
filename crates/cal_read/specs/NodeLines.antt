-- What a `node` line makes of the nodes before it.
use Rattle.std.specs.Prelude.{ℕ, Bool, ◌==◌, ◌&&◌, not, nat_lt, nat_eq}
use Rattle.std.specs.Prelude.{List, [], ◌∷◌, Option, Some, None, Result, Ok, Err, codes, length}
use Rattle.std.specs.Prelude.{is_some, if◌then◌else◌}
use Rattle.std.specs.Option.{option_eq}
use Rattle.std.specs.Ordering.{eq_by_cmp}
use Rattle.cal_line.specs.FirstFault.{◌>>=◌}
use Rattle.cal_line.specs.declared.field.Field.{Field}
use Rattle.cal_value.specs.Order.{value_cmp}
use Rattle.cal_value.specs.Reading.{value_of}
use Rattle.cal_value.specs.declared.attribute.Attribute.{Attribute}
use Rattle.cal_value.specs.declared.variant.Variant as variants
use Rattle.cal_read.specs.Fields.{or_fault, if_there, values_of, only, id_of}
use Rattle.cal_read.specs.Nodes.{Step, Node, Named, steps_to, kind_below, props_in}
use Rattle.cal_read.specs.Nodes.{attribute_of, node_at}
use Rattle.cal_read.specs.declared.kind.StreamKind.{StreamKind}
use Rattle.cal_read.specs.declared.kind.StreamKind.TheVariants as kind
use Rattle.cal_read.specs.declared.node_texts.NodeIds.{NodeIds}
use Rattle.cal_read.specs.declared.node_texts.NodeTexts.{NodeTexts}

-- a field that may be absent, and else has one value
abbrev pub at_most_one : List (List ℕ) → Result (Option (List ℕ)) StreamKind
at_most_one [] = Ok None
at_most_one (text ∷ []) = Ok (Some text)
at_most_one _ = Err kind.MissingField

-- a `node` line has `id`, `attr` and `data`, and may have `parent`, each with one value
abbrev pub texts_of : List Field → Result NodeTexts StreamKind
texts_of fields = do
  id ← only kind.MissingField (values_of (codes "id") fields)
  attribute ← only kind.MissingField (values_of (codes "attr") fields)
  text ← only kind.MissingField (values_of (codes "data") fields)
  parent ← at_most_one (values_of (codes "parent") fields)
  Ok (record { id = id; attribute = attribute; value = text; parent = parent })

-- the three ids of a `node` line
abbrev pub ids_of : NodeTexts → Result NodeIds StreamKind
ids_of texts = do
  id ← id_of texts.id
  attribute ← id_of texts.attribute
  parent ← if_there id_of texts.parent
  Ok (record { id = id; attribute = attribute; parent = parent })

-- an id that a line names was given to a node before
abbrev pub known : List Named → ℕ → Result Node StreamKind
known nodes id = or_fault kind.UnknownNode (node_at nodes id)

-- the attribute that a node is
abbrev pub as_attribute : Node → Result Attribute StreamKind
as_attribute n = or_fault kind.NotAttribute (attribute_of n)

-- the value that a text has, of the attribute's kind; one of attribute 10 is properties
abbrev pub node_value : ℕ → Attribute → List ℕ → Result variants.Variant StreamKind
node_value id attribute text = do
  value ← or_fault kind.BadValue (value_of attribute.kind text)
  if id == 10 && not (is_some (props_in value)) then Err kind.BadValue else Ok value

-- the steps down to a node; none where there is none
abbrev pub steps_down : Option Node → List Step
steps_down None = []
steps_down (Some n) = steps_to n

-- where a node is to stand: its attribute, and the steps above it
pub record Site : Type 0 where
  pub attribute : Attribute
  pub above : List Step

-- the attribute and the parent were given by earlier lines, or are built in
abbrev pub site_of : List Named → NodeIds → Result Site StreamKind
site_of nodes ids = do
  named ← known nodes ids.attribute
  parent ← if_there (known nodes) ids.parent
  attribute ← as_attribute named
  Ok (record { attribute = attribute; above = steps_down parent })

-- An attribute has a kind above it, and a path at most 1,024 entries (Giltmoth's limit).
abbrev pub misfit : ℕ → List Step → Option StreamKind
misfit id above =
    if id == 8 && not (is_some (kind_below above)) then Some kind.NoKind
    else (if nat_lt (length above) 1024 then None else Some kind.TooDeep)

-- the node with these ids, at a site, with a value
abbrev pub node_there : NodeIds → Site → variants.Variant → Node
node_there ids site value = record {
  own = record {
    attribute = ids.attribute;
    entry = record { attr = site.attribute; value = value };
  };
  parent = ids.parent;
  above = site.above;
}

-- the same content: the attribute's id, the parent's id and the value
abbrev pub same_content : Node → Node → Bool
same_content n m =
    (n.own.attribute == m.own.attribute) && option_eq nat_eq n.parent m.parent
    && eq_by_cmp value_cmp n.own.entry.value m.own.entry.value

-- A node gets its id; one that has the id already must have the same content.
abbrev pub with_node : List Named → ℕ → Node → Option Node → Result (List Named) StreamKind
with_node nodes id n None = Ok (record { id = id; node = n } ∷ nodes)
with_node nodes id n (Some old) = if same_content n old then Ok nodes else Err kind.Redefined

-- the nodes with one more, where it fits
abbrev pub with_fitting : List Named → ℕ → Node → Option StreamKind → Result (List Named) StreamKind
with_fitting nodes id n (Some kind) = Err kind
with_fitting nodes id n None = with_node nodes id n (node_at nodes id)

-- the nodes with that of these ids and this text
abbrev pub with_ids : List Named → NodeIds → List ℕ → Result (List Named) StreamKind
with_ids nodes ids text = do
  site ← site_of nodes ids
  value ← node_value ids.attribute site.attribute text
  with_fitting nodes ids.id (node_there ids site value) (misfit ids.attribute site.above)

-- what a `node` line makes of the nodes before it
abbrev pub node_step : List Named → List Field → Result (List Named) StreamKind
node_step nodes fields = do
  texts ← texts_of fields
  ids ← ids_of texts
  with_ids nodes ids texts.value
