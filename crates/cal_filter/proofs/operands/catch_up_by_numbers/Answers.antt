use Rattle.std.proofs.Common.{◌≡◌, ◌<◌, arith, get_or, length, refl, slice_get, slice_set, Some, ap, sym, ◌∙◌}
use Rattle.cal_filter.specs.Latest.{IsNamed}
use Rattle.cal_filter.specs.Replaced.{CatchesUp}
use Rattle.cal_filter.specs.declared.seeker.Seeker.{Seeker}
use Rattle.std.proofs.lemmas.List.{length-set}
use Rattle.cal_filter.proofs.Zips.{get_or-inside, replace_all, replace_next, replace_none, zip_at, zip_length}
use Rattle.cal_filter.proofs.operands.catch_up_by_numbers.Goals as goal

pub loop-place-init : goal.loop-place-init
loop-place-init c = record {
  counted = refl;
  replacing = λ knows named. replace_none (CatchesUp c.args.context.now) c.args.seekers.now;
}

pub loop-place-preserved : goal.loop-place-preserved
loop-place-preserved c =
    let t = c.args.context.now in
    let l = c.args.latest.now in
    let names = c.args.names.now in
    let old = c.args.seekers.now in
    let seekers = c.loop-place.seekers in
    let i = c.loop-place.place in
    let item = c.index-seekers-place.result in
    let s = get_or seekers i item in
    let new = c.catch_up_by_number.new.self in
    let counted = c.loop-place.invariant.counted in
    let short : i < length old = omega arith in
    record {
      counted = length-set seekers i new ∙ counted;
      replacing = λ knows named.
          let before = c.loop-place.invariant.replacing knows named in
          let long = zip_length (IsNamed l.names.keys) old names named in
          let number = zip_at (IsNamed l.names.keys) old names i item 0 named
          (omega (arith, short, long)) in
          let same : get_or old i item ≡ s = sym (before.rest i item (omega arith)) in
          let at : slice_get l.names.keys c.name_at-name.result ≡ Some s.name =
          ap (slice_get l.names.keys) c.name_at-name.ensures ∙ number.name
          ∙ ap (λ (x : Seeker). Some x.name) same in
          let up : CatchesUp t s new = record {
            same = c.in_ok-catch_up_by_number.ensures.same;
            knows = c.in_ok-catch_up_by_number.ensures.knows knows at;
          } in
          let inside : i < length seekers = omega (arith, short, counted) in
          replace_next (CatchesUp t) old seekers (slice_set seekers i new) i s new before inside
          (get_or-inside seekers i item s inside) refl up;
    }

pub returns : goal.returns
returns c = λ knows named.
    let counted = c.loop-place.invariant.counted in
    replace_all (CatchesUp c.args.context.now) c.args.seekers.now c.loop-place.seekers
    c.loop-place.place (c.loop-place.invariant.replacing knows named) (omega (arith, counted))
