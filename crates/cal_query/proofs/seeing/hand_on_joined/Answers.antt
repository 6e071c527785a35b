use Rattle.std.proofs.Common.{List, ◌++◌, map, subst}
use Rattle.std.proofs.lemmas.Result.{on_ok_weaker}
use Rattle.cal_context.specs.Snapshots.{meaning}
use Rattle.cal_value.specs.declared.attribute.Entry.{Entry}
use Rattle.cal_query.specs.Joining.{with_entries}
use Rattle.cal_query.proofs.seeing.hand_on_joined.Goals as goal

pub returns-clause-taken : goal.returns-clause-taken
returns-clause-taken g c =
    let t = c.args.context.now in
    let rows = map (meaning t) c.args.kept.items in
    on_ok_weaker c.hand_on.result
    (λ takes rs had. subst
    (λ (entries : List Entry). g.T.Taker.has_taken c.hand_on.new.taker t
    (rs ++ map (with_entries entries) rows))
    c.in_ok-joined.ensures.entries (takes rs had))
    c.hand_on.ensures.taken

pub returns-clause-about : goal.returns-clause-about
returns-clause-about g c = c.hand_on.ensures.about
