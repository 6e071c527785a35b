-- The ways to groups in a tree: groups below one are reached through it.
use Rattle.std.specs.Prelude.{ℕ, Bool, true, false, not, List, [], ◌∷◌, ◌++◌, length, filter}
use Rattle.std.specs.List.{starts_with}
use Rattle.std.specs.Ordering.{eq_by_cmp}
use Rattle.cal_rowset.specs.Hierarchy.{hierarchy, is_of_hierarchy}
use Rattle.cal_value.specs.Order.{entry_cmp}
use Rattle.cal_value.specs.declared.attribute.Entry.{Entry}
use Rattle.cal_value.specs.declared.kind.Kind.TheVariants as kind
use Rattle.cal_value.specs.declared.record.Rec.{Rec}
use Rattle.cal_value.specs.declared.variant.Variant.TheVariants as variant
use Rattle.cal_value.specs.Flat.{joined}

-- the entries of a record's paths that aren't of the hierarchy, as one list
abbrev pub beside : Rec → List Entry
beside r = filter (λ e. not (is_of_hierarchy e.attr)) (joined r.paths)

-- an entry that says how many entries of one kind there are
abbrev pub mark : ℕ → Entry
mark count = record {
  attr = record { name = []; kind = kind.Uint; props = record { 0 = 0 } };
  value = variant.Uint count;
}

-- The way to a group: how many other entries it has in paths and as immediates, these entries, and
-- then its hierarchy.
abbrev pub trail : Rec → List Entry
trail key =
    mark (length (beside key)) ∷ mark (length key.imms)
    ∷ (beside key ++ (key.imms ++ hierarchy key))

-- the marks of a way on which there are no other entries
abbrev pub no_marks : List Entry
no_marks = mark 0 ∷ mark 0 ∷ []

-- whether an entry of a path is of the hierarchy, or one of the others
abbrev pub is_chosen : Bool → Entry → Bool
is_chosen true e = is_of_hierarchy e.attr
is_chosen false e = not (is_of_hierarchy e.attr)

-- whether a path begins with another
abbrev pub begins : List Entry → List Entry → Bool
begins front path = starts_with (eq_by_cmp entry_cmp) path front
