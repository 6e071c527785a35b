-- Groups whose keys are numbers.
use Rattle.std.specs.Prelude.{◌≡◌, ℕ, List, map}
use Rattle.std.specs.List.{All}
use Rattle.cal_context.specs.Lists.{AreApart, Interns}
use Rattle.cal_context.specs.Tree.{Tree}
use Rattle.cal_ql.specs.declared.query.Query.{Query}
use Rattle.cal_value.specs.declared.record.Rec.{Rec}
use Rattle.cal_engine.specs.Folding.{Grouped, groups_over}
use Rattle.cal_parts.specs.PartLists.{put_parts}
use Rattle.cal_keys.specs.Keys.{IsKeyIn, key_in}
use Rattle.cal_parts.specs.Parts.{Gathered}
use Rattle.cal_keys.specs.declared.key.GroupKey.{GroupKey}

pub record Numbered : Type 0 where
  pub keys : List GroupKey
  pub parts : List (List Gathered)

-- the groups that they mean in a tree
abbrev pub grouped_in : Tree → Numbered → Grouped
grouped_in t g = record { keys = map (key_in t) g.keys; parts = g.parts }

-- Something goes to its group, which is added where it is new.
pub record GathersKey (old : Numbered) (key : GroupKey) (fresh : List Gathered) (new : Numbered)
    : Type 0 where
  pub number : ℕ
  pub keys : Interns old.keys key new.keys number
  pub apart : AreApart old.keys
  pub parts : new.parts ≡ put_parts old.parts number fresh

-- The groups are those of records, and their keys lie in the tree.
pub record AreGroups (t : Tree) (q : Query) (rs : List Rec) (g : Numbered) : Type 0 where
  pub keys : All (IsKeyIn t) g.keys
  pub groups : grouped_in t g ≡ groups_over q rs
