use Rattle.std.proofs.Common.{◌≡◌, ◌+◌, ◌<◌, length, take, refl, ap, ◌∙◌, sym, arith}
use Rattle.std.proofs.lemmas.List.{take_all}
use Rattle.cal_filter.proofs.Zips.{zip_length}
use Rattle.cal_parts.specs.Counters.{CountsFor, record_of, sought_in}
use Rattle.cal_parts.specs.PartLists.{merged_at, merged_from}
use Rattle.cal_parts.specs.Readings.{part_of, parts_of}
use Rattle.cal_parts.proofs.Adding.{partner_part, parts_long}
use Rattle.cal_parts.proofs.PartLists.{from_more, from_none}
use Rattle.cal_parts.proofs.counters.add_all.Goals as goal

pub loop-place-preserved : goal.loop-place-preserved
loop-place-preserved c = record {
  long = c.add_to.ensures.long ∙ c.loop-place.invariant.long;
  merged = λ rs zip ready.
      let r = record_of c.args.found.now in
      let n = c.loop-place.place in
      let within : n < length c.args.counters.now = omega arith in
      let p = partner_part (sought_in c.args.found.now) r rs c.args.counters.now n c.index-counters-place.result zip within c.index-counters-place.is in
      let fresh : n < length (parts_of rs r) = omega (arith, p.long, within) in
      c.in_ok-add_to.ensures.added p.reading p.counts ready
      ∙ ap (λ ps. merged_at ps (c.args.from + n) (part_of p.reading r)) (c.loop-place.invariant.merged rs zip ready)
      ∙ from_more c.args.parts.now (parts_of rs r) c.args.from n (part_of p.reading r) fresh p.read;
}

pub loop-place-init : goal.loop-place-init
loop-place-init c = record {
  long = refl;
  merged = λ rs zip ready. sym (from_none c.args.parts.now c.args.from);
}

pub overflow_add-from : goal.overflow_add-from
overflow_add-from c = omega (arith, c.len.ensures, c.requires.places)

pub returns-clause-added : goal.returns-clause-added
returns-clause-added c = λ rs zip ready.
    let r = record_of c.args.found.now in
    let fresh = parts_of rs r in
    let counted : length fresh ≡ length c.args.counters.now = parts_long rs r ∙ zip_length (CountsFor (sought_in c.args.found.now)) rs c.args.counters.now zip in
    let all : take c.loop-place.place fresh ≡ fresh = take_all c.loop-place.place fresh (omega (arith, counted)) in
    c.loop-place.invariant.merged rs zip ready ∙ ap (merged_from c.args.parts.now c.args.from) all
