-- Names that are apart are so in front.
use Rattle.std.proofs.Common.{◌≡◌, ℕ, false, List, [], ◌∷◌, ◌++◌, subst}
use Rattle.std.specs.List.{AllByRecursion, IsDistinct}
use Rattle.cal_context.specs.Lists.{IsFront}
use Rattle.cal_rowset.specs.Texts.{is_same}
use Rattle.cal_script.specs.Parts.{attribute_names}
use Rattle.cal_script.specs.declared.script.Script.{Script}
use Rattle.cal_table_rows.specs.Meanings.{NamesAreApart}
use Rattle.cal_value.specs.declared.attribute.Attribute.{Attribute}

front_from : (name : List ℕ) (xs ys : List Attribute)
    → AllByRecursion (λ other. is_same name other ≡ false) (attribute_names (xs ++ ys))
    → AllByRecursion (λ other. is_same name other ≡ false) (attribute_names xs)
front_from name [] ys all = tt
front_from name (x ∷ xs) ys all = (all.0, front_from name xs ys all.1)

front_apart : (xs ys : List Attribute) → IsDistinct is_same (attribute_names (xs ++ ys))
    → IsDistinct is_same (attribute_names xs)
unfolding IsDistinct
front_apart [] ys once = tt
front_apart (x ∷ xs) ys once = (front_from x.name xs ys once.0, front_apart xs ys once.1)

-- where all names of a run are apart, so are those of its script
pub run_names : (attributes : List Attribute) (script : Script)
    → IsFront script.attributes attributes → IsDistinct is_same (attribute_names attributes)
    → NamesAreApart attributes script
run_names attributes script front once = record {
  declared = front_apart script.attributes front.0
      (subst (λ all. IsDistinct is_same (attribute_names all)) front.1 once);
  all = once;
}
