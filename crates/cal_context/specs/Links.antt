use Rattle.std.specs.Prelude.{◌≡◌, ℕ, suc, List, [], ◌∷◌, ◌++◌, Some}
use Rattle.std.specs.Prelude.{fold, length, slice_get, slice_index_or}
use Rattle.cal_value.specs.declared.attribute.Attribute.{Attribute}
use Rattle.cal_value.specs.declared.attribute.Entry.{Entry}
use Rattle.cal_value.specs.declared.variant.Variant.{Variant}
use Rattle.cal_context.specs.Lists.{AreApart}
use Rattle.cal_context.specs.Tree.{Tree, no_attribute, no_value}
use Rattle.cal_context.specs.Children.{IsLinked}
use Rattle.cal_context.specs.declared.numbers.Link.{Link}

module _ (attributes : List Attribute) (values : List Variant) where
  -- the path of a link, over the paths before it: its parent's, with its entry at the end
  abbrev pub linked_path : List (List Entry) → Link → List Entry
  linked_path paths l = slice_index_or paths l.parent.0 [] ++ record {
    attr = slice_index_or attributes l.attribute.0 no_attribute;
    value = slice_index_or values l.value.0 no_value;
  } ∷ []

  -- the paths of links: the root's, and then each link's
  abbrev pub linked_paths : List Link → List (List Entry)
  linked_paths ls = fold (λ paths l. paths ++ linked_path paths l ∷ []) ([] ∷ []) ls

-- what the interned lists stand for
abbrev pub tree_of : List Attribute → List Variant → List Link → Tree
tree_of attributes values links = record {
  attributes = attributes;
  values = values;
  paths = linked_paths attributes values links;
}

-- each node below the root hangs by its link, and no list has an item twice
pub record IsWhole (t : Tree) (links : List Link) : Type 0 where
  pub counted : length t.paths ≡ suc (length links)
  pub root : slice_get t.paths 0 ≡ Some []
  pub linked : (i : ℕ) (l : Link) → slice_get links i ≡ Some l → IsLinked t l (record { 0 = suc i })
  pub attributes : AreApart t.attributes
  pub values : AreApart t.values
  pub links_apart : AreApart links
