-- What a filter keeps of a query, and when it is ready for a context.
use Rattle.std.specs.Prelude.{◌≡◌, map}
use Rattle.std.specs.List.{All, AllZip}
use Rattle.cal_context.specs.Tree.{Tree}
use Rattle.cal_ql.specs.declared.query.Cond.{Cond}
use Rattle.cal_ql.specs.declared.query.Let.{Let}
use Rattle.cal_ql.specs.declared.query.Query.{Query}
use Rattle.cal_value.specs.declared.attribute.Entry.{Entry}
use Rattle.cal_filter.specs.Conditions.{test_holds}
use Rattle.cal_filter.specs.Known.{Knows, KnowsAll, KnowsSoMany, sought}
use Rattle.cal_filter.specs.Latest.{AreNamed, KnowsNames}
use Rattle.cal_filter.specs.Results.{AreNumbered}
use Rattle.cal_filter.specs.Sought.{passes, sought_by}
use Rattle.cal_filter.specs.declared.condition.Condition.{Condition}
use Rattle.cal_filter.specs.declared.counts.Counts.{Counts}
use Rattle.cal_filter.specs.declared.definition.Definition.{Definition}
use Rattle.cal_filter.specs.declared.filter.Filter.{Filter}

-- a definition as a query has it, with the attributes that its results may have
pub record IsDefined (t : Tree) (l : Let) (d : Definition) : Type 0 where
  pub op : d.operator.op ≡ l.op
  pub n : d.operator.n ≡ l.n
  pub names : map sought d.seekers.items ≡ map (sought_by l.op) l.args
  pub attributes : AreNumbered t l.name d.attributes

-- what its seekers keep is right
pub record IsDefinition (t : Tree) (l : Let) (d : Definition) : Type 0 where
  pub defined : IsDefined t l d
  pub knows : All (Knows t) d.seekers.items

-- and they know the whole context
pub record IsReadyDefinition (t : Tree) (l : Let) (d : Definition) : Type 0 where
  pub defined : IsDefined t l d
  pub knows : All (KnowsAll t) d.seekers.items

-- a condition as a query has it
pub record IsAsked (c : Cond) (d : Condition) : Type 0 where
  pub not : d.negated ≡ c.not
  pub name : d.seeker.name ≡ c.name
  pub test : (e : Entry) → passes d.seeker.wanted e.attr.kind e.value ≡ test_holds c.test e

-- what its seeker keeps is right
pub record IsCondition (t : Tree) (c : Cond) (d : Condition) : Type 0 where
  pub asked : IsAsked c d
  pub knows : Knows t d.seeker

-- and it knows the whole context
pub record IsReadyCondition (t : Tree) (c : Cond) (d : Condition) : Type 0 where
  pub asked : IsAsked c d
  pub knows : KnowsAll t d.seeker

-- all seekers of a filter know at least so many attributes and nodes
pub record AllKnowSoMany (n : Counts) (f : Filter) : Type 0 where
  pub lets : All (λ (d : Definition). All (KnowsSoMany n) d.seekers.items) f.definitions.items
  pub conds : All (λ (d : Condition). KnowsSoMany n d.seeker) f.conditions.items

-- a filter is one for this query over this context
pub record IsFilter (t : Tree) (q : Query) (f : Filter) : Type 0 where
  pub lets : AllZip (IsDefinition t) q.lets f.definitions.items
  pub named : All (AreNamed f.latest.names.keys) f.definitions.items
  pub latest : KnowsNames t f.latest
  pub conds : AllZip (IsCondition t) q.conds f.conditions.items
  pub known : AllKnowSoMany f.known f

-- a filter that knows the whole context
pub record IsReadyFilter (t : Tree) (q : Query) (f : Filter) : Type 0 where
  pub lets : AllZip (IsReadyDefinition t) q.lets f.definitions.items
  pub named : All (AreNamed f.latest.names.keys) f.definitions.items
  pub latest : KnowsNames t f.latest
  pub conds : AllZip (IsReadyCondition t) q.conds f.conditions.items
  pub known : AllKnowSoMany f.known f
