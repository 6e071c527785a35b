-- Names learned one after another, each once.
use Rattle.std.specs.Prelude.{ℕ, Bool, ◌&&◌, not, List, filter, fold, map}
use Rattle.std.specs.Ordering.{eq_by_cmp}
use Rattle.cal_rowset.specs.Hierarchy.{is_of_hierarchy}
use Rattle.cal_value.specs.Texts.{text_cmp}
use Rattle.cal_value.specs.declared.attribute.Attribute.{Attribute}
use Rattle.cal_value.specs.declared.attribute.Entry.{Entry}
use Rattle.indexmap.specs.IndexSet.{insert_key}

-- a name that is new goes last
abbrev pub learned_one : List (List ℕ) → List ℕ → List (List ℕ)
learned_one names name = insert_key (eq_by_cmp text_cmp) names name

abbrev pub learned : List (List ℕ) → List (List ℕ) → List (List ℕ)
learned names more = fold learned_one names more

-- the names of attributes that aren't of the hierarchy
abbrev pub plain_names : List Attribute → List (List ℕ)
plain_names attributes = map (λ a. a.name) (filter (λ a. not (is_of_hierarchy a)) attributes)

-- the names of entries, in paths of those that aren't of the hierarchy
abbrev pub names_beside : Bool → List Entry → List (List ℕ)
names_beside in_path entries =
    map (λ e. e.attr.name) (filter (λ e. not (in_path && is_of_hierarchy e.attr)) entries)
