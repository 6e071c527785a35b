use Rattle.std.proofs.Common.{sym, subst}
use Rattle.std.proofs.lemmas.Result.{on_ok_weaker}
use Rattle.cal_keys.specs.Moves.{AreMovedNodes}
use Rattle.cal_engine.proofs.MergedGroups.{groups-Grows}
use Rattle.cal_engine.proofs.joining.merge_groups.Goals as goal

pub gather_groups-requires : goal.gather_groups-requires
gather_groups-requires c =
    subst (AreMovedNodes c.args.its.now c.moved_key_nodes.new.to) (sym c.deref.ensures.value) c.in_ok-nodes.ensures.moved

pub returns-clause-merged : goal.returns-clause-merged
returns-clause-merged c = on_ok_weaker c.gather_groups.result
    (λ gathered q rs ss h k. gathered q rs ss (groups-Grows c.in_ok-nodes.ensures.grows q rs c.args.groups.now h) k)
    c.gather_groups.ensures
