-- Parts one behind another, in either form, and what is added to them where they stand.
use Rattle.std.specs.Prelude.{ℕ, zero, suc, List, [], ◌∷◌}
use Rattle.cal_parts.specs.Parts.{Gathered, merged_part, merged_parts}
use Rattle.cal_parts.specs.declared.part_list.Form as forms
use Rattle.cal_parts.specs.declared.part_list.Form.TheVariants as form

abbrev pub parts_in : forms.Form → List Gathered
parts_in (form.Narrow parts) = parts.items
parts_in (form.Wide parts) = parts.items

-- the part at a place gets another one behind it
abbrev pub merged_at : List Gathered → ℕ → Gathered → List Gathered
merged_at [] place fresh = []
merged_at (part ∷ rest) zero fresh = merged_part part fresh ∷ rest
merged_at (part ∷ rest) (suc place) fresh = part ∷ merged_at rest place fresh

-- the first parts get others behind them, place by place
abbrev pub merged_first : List Gathered → List Gathered → List Gathered
merged_first parts [] = parts
merged_first [] (first ∷ fresh) = []
merged_first (part ∷ rest) (first ∷ fresh) = merged_part part first ∷ merged_first rest fresh

-- and so do those from a place on
abbrev pub merged_from : List Gathered → ℕ → List Gathered → List Gathered
merged_from parts zero fresh = merged_first parts fresh
merged_from [] (suc from) fresh = []
merged_from (part ∷ rest) (suc from) fresh = part ∷ merged_from rest from fresh

-- what is kept of a group gets more behind it; a new group's stands at the end
abbrev pub put_parts : List (List Gathered) → ℕ → List Gathered → List (List Gathered)
put_parts [] number fresh = fresh ∷ []
put_parts (parts ∷ rest) zero fresh = merged_parts parts fresh ∷ rest
put_parts (parts ∷ rest) (suc number) fresh = parts ∷ put_parts rest number fresh
