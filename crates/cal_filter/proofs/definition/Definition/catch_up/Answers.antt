use Rattle.std.proofs.Common.{refl, subst₂, sym}
use Rattle.std.specs.List.{AllZip}
use Rattle.std.specs.Vec.{with_items}
use Rattle.cal_filter.specs.Latest.{IsNamed, KnowsAllNames}
use Rattle.cal_filter.specs.Replaced.{CatchesUp, CatchesUpByNumbers}
use Rattle.cal_filter.specs.declared.definition.Definition.{Definition}
use Rattle.cal_filter.proofs.ReadyLemmas.{definition_catches_up, on_ok, written}
use Rattle.cal_filter.proofs.definition.Definition.catch_up.Goals as goal

pub returns : goal.returns
returns c =
    let t = c.args.context.now in
    let l = c.args.latest.now in
    let old = c.args.self.now in
    let names = c.deref.result.now in
    let seekers = c.catch_up_by_numbers.new.seekers in
    let new : Definition = record {
      operator = old.operator;
      seekers = with_items old.seekers seekers;
      names = old.names;
      attributes = old.attributes;
    } in
    on_ok
    (KnowsAllNames t l → AllZip (IsNamed l.names.keys) c.deref_mut.result.now names
    → AllZip (CatchesUp t) c.deref_mut.result.now seekers)
    (CatchesUpByNumbers t l old new) c.catch_up_by_numbers.result
    (λ up knows named. definition_catches_up t old new refl refl refl
    (written (CatchesUp t) old.seekers c.deref_mut.result.now seekers c.deref_mut.ensures.value
    c.deref_mut.ensures.len
    (up knows (subst₂ (AllZip (IsNamed l.names.keys)) (sym c.deref_mut.ensures.value)
    (sym c.deref.ensures.value) named))))
    c.catch_up_by_numbers.ensures
