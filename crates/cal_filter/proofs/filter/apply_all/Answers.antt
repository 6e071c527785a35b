use Rattle.std.proofs.Common.{◌≡◌, ◌+◌, suc, sym, ◌∙◌, ap, subst, arith, take, refl}
use Rattle.std.proofs.lemmas.List.{take_all}
use Rattle.cal_context.specs.Snapshots.{meaning}
use Rattle.cal_filter.specs.Kept.{with_let, with_lets}
use Rattle.cal_filter.specs.Latest.{AreNamed, IsLatest}
use Rattle.cal_filter.specs.Named.{HasSmallNumbers}
use Rattle.cal_filter.specs.Ready.{IsReadyDefinition}
use Rattle.cal_filter.proofs.Applying.{no_lets, with_lets_next}
use Rattle.cal_filter.proofs.SmallNumbers.{with_lets_small}
use Rattle.cal_filter.proofs.Zips.{partner, zip_length}
use Rattle.cal_filter.proofs.filter.apply_all.Goals as goal

pub loop-definition-init : goal.loop-definition-init
loop-definition-init c = record {
  within = c.requires;
  nodes = refl;
  names = c.in_ok-begin.ensures.names;
  latest = λ knows.
      subst (IsLatest c.args.context.now c.begin.new.self) c.deref.ensures.value
      (c.in_ok-begin.ensures.latest knows);
  adds = λ lets zip named knows small. refl;
}

pub loop-definition-preserved : goal.loop-definition-preserved
loop-definition-preserved c = record {
  within = c.in_ok-apply.ensures.within;
  nodes = c.in_ok-apply.ensures.nodes ∙ c.loop-definition.invariant.nodes;
  names = c.in_ok-apply.ensures.follows.names ∙ c.loop-definition.invariant.names;
  latest = λ knows. c.in_ok-apply.ensures.follows.latest (c.loop-definition.invariant.latest knows);
  adds = λ lets zip named knows small.
      let t = c.args.context.now in
      let r = meaning t c.args.snapshot.now in
      let i = c.loop-definition.definition-index in
      let before = c.loop-definition.invariant.adds lets zip named knows small in
      let p = partner (IsReadyDefinition t) lets c.args.definitions.now i c.definition-item.result
      zip (omega arith) c.definition-item.is in
      let now_small = subst HasSmallNumbers (sym before) (with_lets_small (take i lets) r small) in
      let now_named = subst (AreNamed c.loop-definition.latest.names.keys) (sym c.definition-item.is)
      (rw c.loop-definition.invariant.names
      (named i c.definition-item.result (omega arith))) in
      let next : i + 1 ≡ suc i = omega arith in
      c.in_ok-apply.ensures.adds p.item p.together now_named
      (c.loop-definition.invariant.latest knows) now_small
      ∙ ap (λ s. with_let s p.item) before
      ∙ sym (ap (λ n. with_lets (take n lets) r) next
      ∙ with_lets_next lets i p.item r p.front);
}

pub returns-clause-adds : goal.returns-clause-adds
returns-clause-adds c = λ lets zip named knows small.
    let t = c.args.context.now in
    let counted = zip_length (IsReadyDefinition t) lets c.args.definitions.now zip in
    c.loop-definition.invariant.adds lets zip named knows small
    ∙ ap (λ ls. with_lets ls (meaning t c.args.snapshot.now))
    (take_all c.loop-definition.definition-index lets (omega arith))

pub returns-clause-knows : goal.returns-clause-knows
returns-clause-knows c = λ knows. (c.loop-definition.invariant.latest knows).names.knows

pub returns-then-definitions-eq0-clause-adds : goal.returns-then-definitions-eq0-clause-adds
returns-then-definitions-eq0-clause-adds c = λ lets zip named knows small.
    let t = c.args.context.now in
    let counted = zip_length (IsReadyDefinition t) lets c.args.definitions.now zip in
    no_lets lets (meaning t c.args.snapshot.now) (omega arith)
