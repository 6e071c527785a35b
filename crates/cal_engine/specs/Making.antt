-- The rows of groups, as they are made one by one.
use Rattle.std.specs.Prelude.{◌≡◌, ℕ, List, [], Option, None, Some, length, map, ⊤}
use Rattle.std.specs.Prelude.{if◌then◌else◌, slice_index_or}
use Rattle.std.specs.List.{All, AllZip}
use Rattle.cal_context.specs.Tree.{Tree}
use Rattle.cal_ql.specs.declared.query.Agg.{Agg}
use Rattle.cal_ql.specs.declared.query.Query.{Query}
use Rattle.cal_value.specs.declared.record.Rec.{Rec}
use Rattle.cal_engine.specs.Finishing.{AreGroupParts, GroupLists, rows_by}
use Rattle.cal_keys.specs.Groups.{groups_of}
use Rattle.cal_keys.specs.Keys.{IsKeyIn, key_in}
use Rattle.cal_engine.specs.Numbered.{Numbered}
use Rattle.cal_parts.specs.Parts.{Gathered}
use Rattle.cal_engine.specs.Results.{IsResultOf}
use Rattle.cal_engine.specs.Rows.{row_of}
use Rattle.cal_engine.specs.declared.grouped_rows.GroupedRows.{GroupedRows}
use Rattle.cal_keys.specs.declared.key.GroupKey.{GroupKey}
use Rattle.cal_keys.specs.declared.moving.Moved.{Moved}
use Rattle.cal_engine.specs.declared.other_parts.OtherParts.{OtherParts}
use Rattle.cal_keys.specs.Moves.{IsMoved}

-- the parts below each group; their own where no kernel looks below
abbrev pub below_of : OtherParts → List (List Gathered) → List (List Gathered)
below_of others own = if others.inclusive then others.below.items else own

-- What is kept of other records than a group's is right, so that its row comes out.
pub record AreOthers (room : Tree) (q : Query) (rs : List Rec) (g : Numbered) (all : List Gathered)
    (below : List (List Gathered)) : Type 0 where
  pub lists : GroupLists
  pub parts : AreGroupParts q.aggs lists (map (key_in room) g.keys) g.parts all below
  pub rows : rows_by q.aggs lists (map (key_in room) g.keys)
      ≡ map (row_of q rs) (groups_of q.group rs)

abbrev pub AreMoved : Tree → Option Moved → Type 0
AreMoved t None = ⊤
AreMoved t (Some m) = IsMoved t m

-- the context in which keys lie: one of their own, or that of the rows
abbrev pub room_by : Option Moved → Tree → Tree
room_by None t = t
room_by (Some m) t = m.from

abbrev pub room_in : Tree → GroupedRows → Tree
room_in t g = room_by g.moved t

-- the key of a number
abbrev pub key_at : GroupedRows → ℕ → GroupKey
key_at g n = slice_index_or g.groups.keys n (record { paths = []; imms = record { 0 = 0 } })

-- how many groups there are
abbrev pub group_count : GroupedRows → ℕ
group_count g = length g.groups.keys

abbrev pub below_in : GroupedRows → List (List Gathered)
below_in g = below_of g.others g.groups.parts

-- Groups give these rows in a context.
pub record MakesRows (t : Tree) (aggs : List Agg) (g : GroupedRows) (rows : List Rec) : Type 0
  where
    pub lists : GroupLists
    pub within : All (IsKeyIn (room_in t g)) g.groups.keys
    pub moved : AreMoved t g.moved
    pub results : AllZip (IsResultOf t) aggs g.results.items
    pub parts : AreGroupParts aggs lists (map (key_in (room_in t g)) g.groups.keys)
        g.groups.parts g.others.all (below_in g)
    pub are : rows ≡ rows_by aggs lists (map (key_in (room_in t g)) g.groups.keys)
