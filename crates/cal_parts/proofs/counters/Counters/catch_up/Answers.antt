use Rattle.std.proofs.Common.{refl}
use Rattle.std.specs.Vec.{with_items}
use Rattle.std.proofs.lemmas.Result.{on_ok_weaker}
use Rattle.cal_filter.specs.Replaced.{CatchesUp}
use Rattle.cal_filter.proofs.ReadyLemmas.{written}
use Rattle.cal_parts.specs.declared.counters.Counters.{Counters}
use Rattle.cal_parts.proofs.Seekers.{counters_catch_up}
use Rattle.cal_parts.proofs.counters.Counters.catch_up.Goals as goal

pub returns : goal.returns
returns c =
    let t = c.args.context.now in
    let old = c.args.self.now in
    let seekers = c.catch_up_all.new.seekers in
    let new : Counters = record old { seekers = with_items old.seekers seekers } in
    on_ok_weaker c.catch_up_all.result
    (λ zip rs h. counters_catch_up t rs old new refl
    (written (CatchesUp t) old.seekers c.deref_mut.result.now seekers c.deref_mut.ensures.value c.deref_mut.ensures.len zip) h)
    c.catch_up_all.ensures
