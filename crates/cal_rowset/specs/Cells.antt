use Rattle.std.specs.Prelude.{ℕ, pos, List, [], ◌∷◌, Option, None, Some, codes, Bool}
use Rattle.std.specs.Prelude.{filter, map, if◌then◌else◌}
use Rattle.std.specs.List.{join_with_byte}
use Rattle.cal_value.specs.Flat.{flat}
use Rattle.cal_value.specs.Values.{value_text}
use Rattle.cal_value.specs.declared.attribute.Entry.{Entry}
use Rattle.cal_value.specs.declared.record.Rec.{Rec}
use Rattle.cal_value.specs.declared.variant.Variant as variants
use Rattle.cal_value.specs.declared.variant.Variant.TheVariants as variant
use Rattle.cal_rowset.specs.Hierarchy.{hierarchy}
use Rattle.cal_rowset.specs.Texts.{is_same}
use Rattle.cal_rowset.specs.declared.cell.Content.{Content}
use Rattle.cal_rowset.specs.declared.cell.Content.TheVariants.{Nothing, Whole, Decimal, Words}

-- The name `path` is the hierarchy's, also where an attribute has it.
abbrev pub is_path : List ℕ → Bool
is_path name = is_same name (codes "path")

-- the values of entries
abbrev pub values : List Entry → List variants.Variant
values entries = map (λ e. e.value) entries

-- the values of those entries that have a name
abbrev pub values_with : List ℕ → List Entry → List variants.Variant
values_with name entries = values (filter (λ e. is_same e.attr.name name) entries)

-- the values that a name shows of a row
abbrev pub shown_values : Rec → List ℕ → List variants.Variant
shown_values row name =
    if is_path name then values (hierarchy row) else values_with name (flat row)

-- the texts of values, with `/` between them
abbrev pub joined_texts : List variants.Variant → List ℕ
joined_texts vs = join_with_byte 47 (map value_text vs)

-- the cell that values make; absent where there is none
abbrev pub cell_of : List variants.Variant → Option (List ℕ)
cell_of [] = None
cell_of (v ∷ vs) = Some (joined_texts (v ∷ vs))

-- the cell of a row under a name
abbrev pub cell : Rec → List ℕ → Option (List ℕ)
cell row name = cell_of (shown_values row name)

-- what a cell of one value holds: a number, or words
abbrev pub content_of_value : variants.Variant → Content
content_of_value (variant.Int n) = Whole n
content_of_value (variant.Uint n) = Whole (pos n)
content_of_value (variant.Fixed n) = Decimal
content_of_value _ = Words

-- what a cell holds: several values are words
abbrev pub content_of : List variants.Variant → Content
content_of [] = Nothing
content_of (v ∷ []) = content_of_value v
content_of (v ∷ w ∷ vs) = Words

-- what the cell of a row under a name holds
abbrev pub content : Rec → List ℕ → Content
content row name = content_of (shown_values row name)
