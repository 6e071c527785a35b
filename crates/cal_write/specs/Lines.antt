use Rattle.std.specs.Prelude.{ℕ, List, [], ◌∷◌, ◌++◌, Option, codes, decimal, map, option_to_list}
use Rattle.std.specs.List.{flat_map}
use Rattle.cal_value.specs.declared.variant.Variant.{Variant}
use Rattle.cal_value.specs.Values.{value_text}
use Rattle.cal_line.specs.Escapes.{escaped}

-- a value as it is written
abbrev pub written_value : Variant → List ℕ
written_value v = escaped (value_text v)

-- a field of a line: its key, and `=` before each value; a list without values has no field
abbrev pub field : List ℕ → List (List ℕ) → List ℕ
field key [] = []
field key (v ∷ vs) = codes "," ++ key ++ flat_map (λ w. codes "=" ++ w) (v ∷ vs)

-- The line of a node (the `.cali` format): its id, that of its attribute, its value, and the id of
-- its parent, if that isn't the root.
abbrev pub node_line : ℕ → ℕ → Variant → Option ℕ → List ℕ
node_line id attribute value parent =
    codes "__rec=node" ++ field (codes "id") (decimal id ∷ [])
    ++ field (codes "attr") (decimal attribute ∷ [])
    ++ field (codes "data") (written_value value ∷ [])
    ++ field (codes "parent") (map decimal (option_to_list parent)) ++ codes "\n"

-- The line of a record (the `.cali` format): its sort, the ids of its nodes, and the ids of the
-- attributes and the values of its immediates.
abbrev pub record_line : List ℕ → List ℕ → List ℕ → List Variant → List ℕ
record_line sort nodes attributes values =
    codes "__rec=" ++ sort ++ field (codes "ref") (map decimal nodes)
    ++ field (codes "attr") (map decimal attributes)
    ++ field (codes "data") (map written_value values) ++ codes "\n"
