use Rattle.std.specs.Prelude.{ℕ, Bool, true, false, ◌&&◌, not, List, [], ◌∷◌}
use Rattle.std.specs.Prelude.{Option, None, Some, filter, map, if◌then◌else◌}
use Rattle.std.specs.Ordering.{eq_by_cmp}
use Rattle.cal_value.specs.Flat.{joined}
use Rattle.cal_value.specs.Order.{group_cmp}
use Rattle.cal_value.specs.declared.attribute.Attribute.{Attribute}
use Rattle.cal_value.specs.declared.attribute.Entry.{Entry}
use Rattle.cal_value.specs.declared.record.Rec.{Rec}
use Rattle.cal_rowset.specs.Cells.{is_path}
use Rattle.cal_rowset.specs.Hierarchy.{is_of_hierarchy}
use Rattle.cal_rowset.specs.Texts.{is_same}
use Rattle.cal_keys.specs.FirstSeen.{firsts}

-- Whether a name of GROUP BY takes the entries of an attribute: `path` takes the hierarchy's, which
-- stand in paths; another name takes the entries of that name.
abbrev pub takes_attribute : Bool → List ℕ → Attribute → Bool
takes_attribute in_path name a =
    if is_path name then in_path && is_of_hierarchy a else is_same a.name name

abbrev pub takes : Bool → List ℕ → Entry → Bool
takes in_path name e = takes_attribute in_path name e.attr

-- what each name takes, in order: of the entries that no earlier name took
abbrev pub taken : Bool → List (List ℕ) → List Entry → List (List Entry)
taken in_path [] entries = []
taken in_path (name ∷ names) entries =
    filter (takes in_path name) entries
    ∷ taken in_path names (filter (λ e. not (takes in_path name e)) entries)

abbrev pub has_entries : List Entry → Bool
has_entries [] = false
has_entries (e ∷ es) = true

-- The group of a record (CalQL): a list of paths and a list of immediates. Without GROUP BY the
-- record's paths and no immediate; else what the names take of the entries of paths, each name one
-- path, and of the immediates.
abbrev pub group_of : Option (List (List ℕ)) → Rec → Rec
group_of None r = record { paths = r.paths; imms = [] }
group_of (Some names) r = record {
  paths = filter has_entries (taken true names (joined r.paths));
  imms = joined (taken false names r.imms);
}

abbrev pub is_group : Rec → Rec → Bool
is_group = eq_by_cmp group_cmp

-- the groups of records, in first-seen order
abbrev pub groups_of : Option (List (List ℕ)) → List Rec → List Rec
groups_of names rs = firsts is_group (map (group_of names) rs)

-- the records of a group
abbrev pub records_of : Option (List (List ℕ)) → Rec → List Rec → List Rec
records_of names group rs = filter (λ r. is_group (group_of names r) group) rs
