-- What a table looks at, by the names of keys and of value attributes.
use Rattle.std.specs.Prelude.{ℕ, Bool, List, [], ◌∷◌, map}
use Rattle.std.specs.List.{list_any}
use Rattle.std.specs.Ordering.{eq_by_cmp}
use Rattle.std.specs.declared.random_state.RandomState.{RandomState}
use Rattle.cal_value.specs.Texts.{text_cmp}
use Rattle.cal_value.specs.declared.attribute.Attribute.{Attribute}
use Rattle.cal_table.specs.declared.shape.TableShape.{TableShape}

-- whether a name is one of some
abbrev pub is_among : List (List ℕ) → List ℕ → Bool
is_among names name = list_any (eq_by_cmp text_cmp name) names

-- of each attribute whether it has one of the names
abbrev pub flags_of : List (List ℕ) → List Attribute → List Bool
flags_of names attrs = map (λ a. is_among names a.name) attrs

-- the shape of these keys and value attributes, with attributes by their numbers in a list
abbrev pub shape_of : RandomState → List (List ℕ) → List (List ℕ) → List Attribute → TableShape
shape_of hashers keys values attrs = record {
  keys = flags_of keys attrs;
  values = map (λ name. flags_of (name ∷ []) attrs) values;
  hashers = hashers;
}
