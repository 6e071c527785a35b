use Rattle.std.proofs.Common.{◌≡◌, [], map, take, arith, subst, sym}
use Rattle.std.specs.List.{AllZip}
use Rattle.std.proofs.lemmas.Grind.{common_steps}
use Rattle.cal_filter.specs.Known.{sought}
use Rattle.cal_filter.proofs.Zips.{zip_more}
use Rattle.cal_parts.specs.Counters.{CountsFor}
use Rattle.cal_parts.proofs.Seekers.{counts_stay, more_same, more_then}
use Rattle.cal_parts.proofs.counters.counters_of.Goals as goal

pub loop-reading-init : goal.loop-reading-init
loop-reading-init c =
    let none : c.new-counters.result.items ≡ [] = grind (arith, common_steps) in
    record {
      counts = subst (AllZip (CountsFor (map sought c.args.seekers.now.items)) []) (sym none) tt;
      more = more_same c.args.seekers.now.items;
    }

pub loop-reading-preserved : goal.loop-reading-preserved
loop-reading-preserved c =
    let before = c.loop-reading.seekers.items in
    let now = c.of.new.seekers.items in
    let i = c.loop-reading.reading-index in
    record {
      counts = zip_more (CountsFor (map sought now)) c.args.readings.now c.loop-reading.counters.items c.push.new.self.items i
          c.reading-item.result c.in_ok-counter.counter
          (counts_stay before now c.in_ok-counter.ensures.more (take i c.args.readings.now) c.loop-reading.counters.items c.loop-reading.invariant.counts)
          (omega arith) c.reading-item.is c.in_ok-push.ensures.items c.in_ok-counter.ensures.counts;
      more = more_then c.args.seekers.now.items before now c.loop-reading.invariant.more c.in_ok-counter.ensures.more;
    }
