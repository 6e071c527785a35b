use Rattle.std.specs.Prelude.{ℕ, List, map}
use Rattle.cal_value.specs.Flat.{flat}
use Rattle.cal_value.specs.declared.record.Rec.{Rec}
use Rattle.cal_rowset.specs.Texts.{first_seen}

-- the names of a row's entries, each where it is first seen
abbrev pub names_of : Rec → List (List ℕ)
names_of row = first_seen (map (λ e. e.attr.name) (flat row))
