use Rattle.std.specs.Prelude.{Bool, List, ◌++◌, ◌==◌, filter, not}
use Rattle.std.specs.Int.RustNames.{bit_and}
use Rattle.cal_value.specs.Flat.{joined}
use Rattle.cal_value.specs.declared.attribute.Attribute.{Attribute}
use Rattle.cal_value.specs.declared.attribute.Entry.{Entry}
use Rattle.cal_value.specs.declared.record.Rec.{Rec}

-- Bit 256 of an attribute's properties says that its entries in paths are of the hierarchy,
-- whatever the other bits are (Caliper's data model, with Giltmoth's number).
abbrev pub is_of_hierarchy : Attribute → Bool
is_of_hierarchy a = bit_and a.props.0 256 == 256

-- The hierarchy of a record: those entries of its paths, in order. An immediate is never of it.
abbrev pub hierarchy : Rec → List Entry
hierarchy r = filter (λ e. is_of_hierarchy e.attr) (joined r.paths)

-- the other entries of a record, those of its paths first
abbrev pub other_entries : Rec → List Entry
other_entries r = filter (λ e. not (is_of_hierarchy e.attr)) (joined r.paths) ++ r.imms
