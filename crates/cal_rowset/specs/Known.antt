use Rattle.std.specs.Prelude.{ℕ, Bool, List, filter}
use Rattle.std.specs.List.{list_any}
use Rattle.cal_value.specs.declared.attribute.Entry.{Entry}
use Rattle.cal_rowset.specs.Texts.{is_same}

-- whether a name is among these
abbrev pub is_known : List (List ℕ) → List ℕ → Bool
is_known names name = list_any (is_same name) names

-- the entries whose names are among these
abbrev pub known_entries : List (List ℕ) → List Entry → List Entry
known_entries names entries = filter (λ e. is_known names e.attr.name) entries
