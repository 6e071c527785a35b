use Rattle.std.specs.Prelude.{List, ◌++◌}
use Rattle.std.specs.List.{flat_map}
use Rattle.cal_value.specs.declared.attribute.Entry.{Entry}
use Rattle.cal_value.specs.declared.record.Rec.{Rec}

-- the entries of paths, path by path
abbrev pub joined : List (List Entry) → List Entry
joined paths = flat_map (λ path. path) paths

-- the entries of a record: those of its paths in order, and then its immediates
abbrev pub flat : Rec → List Entry
flat r = joined r.paths ++ r.imms
