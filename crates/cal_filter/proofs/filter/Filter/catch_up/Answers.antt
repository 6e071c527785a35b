use Rattle.std.proofs.Common.{subst, sym}
use Rattle.std.specs.List.{All}
use Rattle.std.specs.Vec.{with_items}
use Rattle.cal_filter.specs.Latest.{AreNamed}
use Rattle.cal_filter.specs.Replaced.{ConditionCatchesUp, DefinitionCatchesUp}
use Rattle.cal_filter.specs.declared.filter.Filter.{Filter}
use Rattle.cal_filter.proofs.ReadyLemmas.{filter_catches_up, filter_covered, written}
use Rattle.cal_filter.proofs.filter.Filter.catch_up.Goals as goal

pub returns : goal.returns
returns c =
    let t = c.args.context.now in
    let old = c.args.self.now in
    let definitions = c.know_definitions.new.definitions in
    let latest = c.know_definitions.new.latest in
    let conditions = c.know_conditions.new.conditions in
    let new : Filter = record {
      alloc = old.alloc;
      definitions = with_items old.definitions definitions;
      latest = latest;
      conditions = with_items old.conditions conditions;
      known = c.of-self.result;
      numbers = old.numbers;
    } in
    λ q h. filter_catches_up t q old new
    (written (DefinitionCatchesUp t) old.definitions c.deref_mut.result.now definitions
    c.deref_mut.ensures.value c.deref_mut.ensures.len
    (c.in_ok-know_definitions.ensures.ready h.latest
    (subst (All (AreNamed old.latest.names.keys)) (sym c.deref_mut.ensures.value) h.named)))
    (written (ConditionCatchesUp t) old.conditions c.deref_mut-2.result.now conditions
    c.deref_mut-2.ensures.value c.deref_mut-2.ensures.len c.in_ok-know_conditions.ensures)
    c.of-self.ensures.attributes c.of-self.ensures.nodes c.in_ok-know_definitions.ensures.names
    (c.in_ok-know_definitions.ensures.knows h.latest) h

pub returns-then-covers : goal.returns-then-covers
returns-then-covers c = λ q h. filter_covered c.args.context.now q c.args.self.now (c.covers.ensures.covers c.if-covers.true) h
