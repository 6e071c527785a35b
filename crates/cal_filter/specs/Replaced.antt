-- What catching up makes of what a filter keeps.
use Rattle.std.specs.Prelude.{◌≡◌, ℕ, List}
use Rattle.cal_context.specs.Tree.{Tree}
use Rattle.cal_ql.specs.declared.query.Cond.{Cond}
use Rattle.cal_ql.specs.declared.query.Let.{Let}
use Rattle.cal_filter.specs.Known.{Knows, KnowsAll, sought}
use Rattle.cal_filter.specs.Latest.{AreNamed, KnowsAllNames}
use Rattle.cal_filter.specs.Ready.{IsCondition, IsDefinition, IsReadyCondition, IsReadyDefinition}
use Rattle.cal_filter.specs.declared.condition.Condition.{Condition}
use Rattle.cal_filter.specs.declared.definition.Definition.{Definition}
use Rattle.cal_filter.specs.declared.latest.Latest.{Latest}
use Rattle.cal_filter.specs.declared.seeker.Seeker.{Seeker}

-- a seeker seeks what it sought, and knows the whole context where what it knew was right
pub record CatchesUp (t : Tree) (old new : Seeker) : Type 0 where
  pub same : sought new ≡ sought old
  pub knows : Knows t old → KnowsAll t new

-- whatever a definition was one of, it is ready, and its names have their numbers
pub record DefinitionCatchesUp (t : Tree) (old new : Definition) : Type 0 where
  pub ready : (l : Let) → IsDefinition t l old → IsReadyDefinition t l new
  pub named : (names : List (List ℕ)) → AreNamed names old → AreNamed names new

-- so is a condition
pub record ConditionCatchesUp (t : Tree) (old new : Condition) : Type 0 where
  pub ready : (c : Cond) → IsCondition t c old → IsReadyCondition t c new

-- a definition catches up where its names have their numbers in a table that knows the whole
-- context
abbrev pub CatchesUpByNumbers : Tree → Latest → Definition → Definition → Type 0
CatchesUpByNumbers t l old new =
    KnowsAllNames t l → AreNamed l.names.keys old → DefinitionCatchesUp t old new
