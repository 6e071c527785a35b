-- What is asked of records so that their text reads back as them.
use Rattle.std.specs.Prelude.{◌≢◌, ◌<◌, ◌≤◌, ◌^◌, ⊤, List, [], length}
use Rattle.std.specs.List.{All}
use Rattle.std.specs.Str.{IsUtf8}
use Rattle.cal_value.specs.Reading.{IsInRange, IsSmall}
use Rattle.cal_value.specs.WellFormed.{IsEntry}
use Rattle.cal_value.specs.declared.attribute.Attribute.{Attribute}
use Rattle.cal_value.specs.declared.attribute.Entry.{Entry}
use Rattle.cal_value.specs.declared.record.Rec.{Rec}
use Rattle.cal_value.specs.declared.record.Records.{Records}
use Rattle.cal_value.specs.declared.variant.Variant as variants
use Rattle.cal_value.specs.declared.variant.Variant.TheVariants as variant
use Rattle.cal_write.specs.Nodes.{name_attribute, type_attribute, prop_attribute, nodes}
use Rattle.cal_write.specs.Nodes.{with_record}

-- ---- what the types of the program say of every record

-- a value that is a text is UTF-8
abbrev pub IsHeldText : variants.Variant → Type 0
IsHeldText (variant.Text t) = IsUtf8 t
IsHeldText (variant.Real t) = IsUtf8 t
IsHeldText (variant.Usr t) = IsUtf8 t
IsHeldText (variant.Ptr t) = IsUtf8 t
IsHeldText _ = ⊤

-- An entry as the program holds it: texts are UTF-8, numbers have 64 bits, and properties 32.
pub record IsHeldEntry (e : Entry) : Type 0 where
  pub name : IsUtf8 e.attr.name
  pub props : e.attr.props.0 < 2 ^ 32
  pub range : IsInRange e.value
  pub text : IsHeldText e.value

pub record IsHeldRecord (r : Rec) : Type 0 where
  pub paths : All (λ path. All IsHeldEntry path) r.paths
  pub imms : All IsHeldEntry r.imms

-- 64 bits hold the ids of the nodes
pub record AreHeld (rs : Records) : Type 0 where
  pub rows : All IsHeldRecord rs.rows
  pub globals : IsHeldRecord rs.globals
  pub ids : length (with_record (nodes rs.rows) rs.globals) ≤ 2 ^ 64

-- ---- and what is asked beyond that

-- An entry reads back where its value is of its attribute's kind, and an Int or a Fixed isn't too
-- large.
pub record IsReadableEntry (e : Entry) : Type 0 where
  pub entry : IsEntry e
  pub small : IsSmall e.value

-- an attribute other than those that say what attributes are
pub record IsPlain (a : Attribute) : Type 0 where
  pub no_name : a ≢ name_attribute
  pub no_kind : a ≢ type_attribute
  pub no_props : a ≢ prop_attribute

-- A path reads back that has 1 to 1,024 entries, none of a built-in attribute.
pub record IsReadablePath (path : List Entry) : Type 0 where
  pub some : path ≢ []
  pub short : length path ≤ 1024
  pub entries : All IsReadableEntry path
  pub plain : All (λ e. IsPlain e.attr) path

pub record IsReadableRecord (r : Rec) : Type 0 where
  pub paths : All IsReadablePath r.paths
  pub imms : All IsReadableEntry r.imms

pub record AreReadable (rs : Records) : Type 0 where
  pub rows : All IsReadableRecord rs.rows
  pub globals : IsReadableRecord rs.globals
