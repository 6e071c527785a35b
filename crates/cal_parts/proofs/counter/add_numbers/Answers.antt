use Rattle.std.proofs.Common.{◌<◌, get_or, length, take, refl, sym, ap, ◌∙◌, arith}
use Rattle.std.specs.List.{filter_map}
use Rattle.std.specs.Option.{option_to_list}
use Rattle.cal_filter.proofs.Zips.{get_or-inside}
use Rattle.cal_value.specs.Flat.{flat}
use Rattle.cal_parts.specs.Counters.{number_at, record_of, sought_in}
use Rattle.cal_parts.specs.PartLists.{merged_at}
use Rattle.cal_parts.specs.Parts.{part_over}
use Rattle.cal_parts.proofs.Drops.{filter_map_more}
use Rattle.cal_parts.proofs.PartLists.{at_more, at_none}
use Rattle.cal_parts.proofs.counter.add_numbers.Goals as goal

pub loop-asked-preserved : goal.loop-asked-preserved
loop-asked-preserved c = record {
  long = c.add_some.ensures.long ∙ c.loop-asked.invariant.long;
  merged = λ ready.
      let k = c.args.kernel in
      let old = c.args.parts.now in
      let n = c.args.place in
      let places = c.args.places.now in
      let i = c.loop-asked.asked-index in
      let place = get_or places i 0 in
      let short : i < length places = omega arith in
      let found = number_at (sought_in c.args.found.now) (flat (record_of c.args.found.now)) in
      let before = filter_map found (take i places) in
      c.in_ok-add_some.ensures.added
      ∙ (λ j. merged_at (c.loop-asked.invariant.merged ready j) n (part_over k (option_to_list (c.at-number.ensures ready j))))
      ∙ at_more k old n before (option_to_list (found place))
      ∙ ap (λ ns. merged_at old n (part_over k ns)) (sym (filter_map_more found places i place short (get_or-inside places i 0 place short)));
}

pub loop-asked-init : goal.loop-asked-init
loop-asked-init c = record {
  long = refl;
  merged = λ ready. sym (at_none c.args.kernel c.args.parts.now c.args.place);
}
