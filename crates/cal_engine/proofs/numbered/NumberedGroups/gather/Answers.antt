use Rattle.std.proofs.Common.{map, sym, subst, ◌∙◌}
use Rattle.std.proofs.lemmas.Result.{on_ok_weaker}
use Rattle.cal_context.specs.Snapshots.{meaning}
use Rattle.cal_filter.specs.Known.{sought}
use Rattle.cal_engine.specs.Numbered.{GathersKey, Numbered}
use Rattle.cal_parts.specs.Readings.{parts_of}
use Rattle.cal_parts.proofs.Adding.{first_merged}
use Rattle.cal_engine.proofs.Gathering.{when_ok}
use Rattle.cal_engine.proofs.numbered.NumberedGroups.gather.Goals as goal

pub returns : goal.returns
returns c =
    let t = c.args.context.now in
    let r = meaning t c.args.snapshot.now in
    let new : Numbered = record { keys = c.intern.new.self; parts = c.add_at.new.self } in
    on_ok_weaker c.add_at.result
    (λ added rs ready. subst (λ old. GathersKey old c.args.key.now (parts_of rs r) new) c.self.view_is (record {
      number = c.in_ok-number.number;
      keys = c.in_ok-number.ensures.interned;
      apart = c.count-count.ensures.apart;
      parts = added rs ready
          ∙ when_ok _ c.make_room-made.result (sym c.is_err.ensures.value ∙ c.if-is_err.false)
          c.make_room-made.ensures.put (parts_of rs r) (first_merged (map sought c.args.counters.now.seekers.items) r rs c.args.counters.now.counters.items ready.counts);
    }))
    c.add_at.ensures.ok
