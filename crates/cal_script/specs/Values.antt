-- Values of which one may be kept for several (private).
use Rattle.std.specs.Prelude.{ℕ, List, false, slice_index_or}
use Rattle.cal_value.specs.declared.variant.Variant.{Variant}
use Rattle.cal_value.specs.declared.variant.Variant.TheVariants as variant
use Rattle.cal_script.specs.declared.said.SaidForm as forms
use Rattle.cal_script.specs.declared.said.SaidForm.TheVariants as form

-- the value at a place of those kept
abbrev pub value_in : List Variant → ℕ → Variant
value_in kept place = slice_index_or kept place (variant.Bool false)

-- the value that a line says
abbrev pub value_of_form : forms.SaidForm → Variant
value_of_form (form.Text text hash) = variant.Text text.now
value_of_form (form.Value value hash) = value
