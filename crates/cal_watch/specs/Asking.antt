-- What is asked of entries by one condition, and kept beside numbers (private).
use Rattle.std.specs.Prelude.{◌≡◌, ◌≤◌, Bool, List, [], ◌∷◌, length, map, take}
use Rattle.std.specs.List.{list_any}
use Rattle.std.specs.Ordering.{eq_by_cmp}
use Rattle.cal_context.specs.Tree.{Tree}
use Rattle.cal_ql.specs.declared.query.Cond.{Cond}
use Rattle.cal_trigger.specs.Deciding.{speaks_of}
use Rattle.cal_value.specs.Texts.{text_cmp}
use Rattle.cal_value.specs.declared.attribute.Attribute.{Attribute}
use Rattle.cal_value.specs.declared.attribute.Entry.{Entry}
use Rattle.cal_value.specs.declared.record.Rec.{Rec}

-- the record of one entry
abbrev pub of_entry : Entry → Rec
of_entry entry = record { paths = []; imms = entry ∷ [] }

-- whether an attribute has a condition's name
abbrev pub has_name : Cond → Attribute → Bool
has_name c attribute = eq_by_cmp text_cmp attribute.name c.name

-- of each attribute of a context: whether it has the name
abbrev pub all_named : Cond → Tree → List Bool
all_named c t = map (has_name c) t.attributes

-- whether some of these entries has a condition's name and passes its test
abbrev pub holds_on : Cond → List Entry → Bool
holds_on c entries = list_any (speaks_of c) entries

-- what is kept is what is so of the first items
pub record Keeps {A : Type 0} (test : A → Bool) (kept : List Bool) (items : List A) : Type 0 where
  pub few : length kept ≤ length items
  pub are : kept ≡ map test (take (length kept) items)
