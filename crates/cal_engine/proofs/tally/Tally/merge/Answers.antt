use Rattle.std.proofs.Common.{sym, ◌∙◌}
use Rattle.std.proofs.lemmas.Result.{on_ok_weaker}
use Rattle.cal_context.proofs.CallerLemmas.{Grows-refl}
use Rattle.cal_engine.proofs.MergedGroups.{merged_by_name, merged_by_nodes}
use Rattle.cal_engine.proofs.tally.Tally.merge.Goals as goal

pub returns-then-by_name-clause-merged : goal.returns-then-by_name-clause-merged
returns-then-by_name-clause-merged c = on_ok_weaker c.merge_groups.result
    (λ merges q rs ss by_name h k.
    merged_by_name c.args.context.now c.args.its.now q rs ss c.args.self.now c.args.other.now c.merge_groups.new.room c.merge_groups.new.groups
    (sym by_name ∙ c.if-by_name.true) c.merge_groups.ensures.grows merges h k)
    c.merge_groups.ensures.merged

pub returns-then-by_name-clause-grows : goal.returns-then-by_name-clause-grows
returns-then-by_name-clause-grows c = Grows-refl c.args.context.now

pub returns-clause-merged : goal.returns-clause-merged
returns-clause-merged c = on_ok_weaker c.merge_groups-2.result
    (λ merges q rs ss by_name h k.
    merged_by_nodes c.args.context.now c.merge_groups-2.new.room c.args.its.now q rs ss c.args.self.now c.args.other.now c.merge_groups-2.new.groups
    (sym by_name ∙ c.if-by_name.false) c.merge_groups-2.ensures.grows merges h k)
    c.merge_groups-2.ensures.merged
