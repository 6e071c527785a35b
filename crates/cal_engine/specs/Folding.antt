-- What a fold holds of the records that were added to it.
use Rattle.std.specs.Prelude.{◌≡◌, ℕ, List, [], map, if◌then◌else◌}
use Rattle.std.specs.List.{filter_map}
use Rattle.cal_context.specs.Lists.{AreApart, Interns}
use Rattle.cal_filter.specs.Kept.{kept}
use Rattle.cal_ql.specs.declared.query.Query.{Query}
use Rattle.cal_value.specs.declared.record.Rec.{Rec}
use Rattle.cal_keys.specs.Groups.{groups_of, records_of}
use Rattle.cal_parts.specs.Parts.{Gathered, parts_over}
use Rattle.cal_engine.specs.Rows.{is_aggregated}
use Rattle.cal_parts.specs.PartLists.{put_parts}

-- groups by their numbers, and what is kept of each one's records
pub record Grouped : Type 0 where
  pub keys : List Rec
  pub parts : List (List Gathered)

abbrev pub no_groups : Grouped
no_groups = record { keys = []; parts = [] }

-- the groups of records
abbrev pub groups_over : Query → List Rec → Grouped
groups_over q rs = record {
  keys = groups_of q.group rs;
  parts = map (λ group. parts_over q.aggs (records_of q.group group rs)) (groups_of q.group rs);
}

-- Something goes to its group, which is added where it is new.
pub record Gathers (old : Grouped) (key : Rec) (fresh : List Gathered) (new : Grouped)
    : Type 0 where
  pub number : ℕ
  pub keys : Interns old.keys key new.keys number
  pub apart : AreApart old.keys
  pub parts : new.parts ≡ put_parts old.parts number fresh

-- a fold's query, its groups where that is aggregated, and else its kept records
pub record Folded : Type 0 where
  pub query : Query
  pub groups : Grouped
  pub rows : List Rec

-- the fold of kept records
abbrev pub folded : Query → List Rec → Folded
folded q rs = record {
  query = q;
  groups = if is_aggregated q then groups_over q rs else no_groups;
  rows = if is_aggregated q then [] else rs;
}

-- a query, groups and rows are those of the fold of kept records
abbrev pub IsFolded : Query → Grouped → List Rec → List Rec → Type 0
IsFolded q groups rows rs =
    record { query = q; groups = groups; rows = rows } ≡ folded q rs

-- The fold stands for these records: it holds what LET and WHERE keep of them.
abbrev pub StandsFor : Query → List Rec → Folded → Type 0
StandsFor q rs fold = fold ≡ folded q (filter_map (kept q) rs)
