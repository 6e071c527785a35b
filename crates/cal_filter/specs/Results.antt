-- The attributes of results by number.
use Rattle.std.specs.Prelude.{◌≡◌, ℕ, ◌<◌, List, length, slice_index_or}
use Rattle.cal_context.specs.Tree.{Tree, attribute_at}
use Rattle.cal_context.specs.declared.numbers.AttributeNumber.{AttributeNumber}
use Rattle.cal_value.specs.declared.attribute.Attribute.{Attribute}
use Rattle.cal_value.specs.declared.kind.Kind.{Kind}
use Rattle.cal_filter.specs.Kept.{result_attribute}
use Rattle.cal_filter.specs.Sought.{kind_place}

-- a number is that of an attribute
pub record IsNumbered (t : Tree) (a : Attribute) (n : AttributeNumber) : Type 0 where
  pub within : n.0 < length t.attributes
  pub is : attribute_at t n ≡ a

-- the number that is kept for a kind
abbrev pub number_for : List AttributeNumber → Kind → AttributeNumber
number_for numbers k = slice_index_or numbers (kind_place k) (record { 0 = 0 })

-- for each kind the number is kept of a result's attribute
abbrev pub AreNumbered : Tree → List ℕ → List AttributeNumber → Type 0
AreNumbered t name numbers =
    (k : Kind) → IsNumbered t (result_attribute name k) (number_for numbers k)
