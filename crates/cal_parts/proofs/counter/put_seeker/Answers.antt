use Rattle.std.proofs.Common.{◌≡◌, ◌∙◌, length, map, slice_get, arith}
use Rattle.cal_filter.specs.Known.{sought}
use Rattle.cal_parts.proofs.Seekers.{more_pushed, put_at}
use Rattle.cal_parts.proofs.counter.put_seeker.Goals as goal

pub returns : goal.returns
returns c =
    let old = c.args.seekers.now.items in
    let last : c.len-place.result ≡ length old = omega (arith, c.len-place.ensures) in
    record {
      place = (λ i. slice_get (map sought (c.in_ok-push.ensures.items i)) (last i)) ∙ put_at old c.args.seeker;
      more = more_pushed old c.push.new.self.items c.args.seeker c.in_ok-push.ensures.items c.requires;
    }
