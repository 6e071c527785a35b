use Rattle.std.proofs.Common.{◌≡◌, [], ap, arith, map, slice_get}
use Rattle.std.proofs.lemmas.Grind.{common_steps}
use Rattle.cal_filter.specs.Known.{sought}
use Rattle.cal_parts.proofs.Seekers.{more_same, more_then, places_next}
use Rattle.cal_parts.proofs.counter.number_places.Goals as goal

pub loop-name-init : goal.loop-name-init
loop-name-init c =
    let none : c.new-places.result.items ≡ [] = grind (arith, common_steps) in
    record {
      places = ap (map (slice_get (map sought c.args.seekers.now.items))) none;
      more = more_same c.args.seekers.now.items;
    }

pub loop-name-preserved : goal.loop-name-preserved
loop-name-preserved c = record {
  places = places_next c.loop-name.seekers.items c.place_of.new.seekers.items c.args.names.now c.loop-name.name-index c.name-item.result
      c.loop-name.places.items c.push.new.self.items c.in_ok-place.place c.in_ok-place.ensures.more (omega arith) c.name-item.is
      c.in_ok-push.ensures.items c.in_ok-place.ensures.place c.loop-name.invariant.places;
  more = more_then c.args.seekers.now.items c.loop-name.seekers.items c.place_of.new.seekers.items c.loop-name.invariant.more
      c.in_ok-place.ensures.more;
}
