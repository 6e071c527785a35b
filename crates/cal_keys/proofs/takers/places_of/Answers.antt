use Rattle.std.proofs.Common.{arith, sym, subst, take}
use Rattle.std.proofs.lemmas.List.{length-take-le, take_all}
use Rattle.cal_keys.specs.Takers.{IsPlaced}
use Rattle.cal_keys.proofs.TakerLemmas.{none_placed, placed_more}
use Rattle.cal_keys.proofs.takers.places_of.Goals as goal

pub loop-place-init : goal.loop-place-init
loop-place-init c = record { placed = none_placed c.with_hasher-places.result c.with_hasher-places.ensures.empty }

pub loop-place-preserved : goal.loop-place-preserved
loop-place-preserved c = record {
  placed = placed_more c.args.names.now c.loop-place.place c.index-names-place.result c.put_place.new.places (omega arith) c.index-names-place.is
      (c.in_ok-put_place.ensures (take c.loop-place.place c.args.names.now) (sym (length-take-le c.loop-place.place c.args.names.now (omega arith)))
      c.loop-place.invariant.placed);
}

pub returns : goal.returns
returns c =
    subst (λ ns. IsPlaced ns c.loop-place.places) (take_all c.loop-place.place c.args.names.now c.loop-place-test.false) c.loop-place.invariant.placed
