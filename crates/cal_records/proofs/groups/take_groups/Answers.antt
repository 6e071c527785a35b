use Rattle.std.proofs.Common.{◌≡◌, true, List, [], ◌++◌, sym, ap, subst, ◌∙◌}
use Rattle.std.specs.Prelude.{option_copied}
use Rattle.std.proofs.lemmas.Bool.{cond-true}
use Rattle.std.proofs.lemmas.Result.{on_ok_weaker}
use Rattle.cal_profile.specs.Groups.{channel_query, group_records}
use Rattle.cal_ql.specs.declared.query.Query.{Query}
use Rattle.cal_records.specs.Records.{grouped}
use Rattle.cal_records.specs.Told.{told}
use Rattle.cal_run.specs.Runs.{snapshots}
use Rattle.cal_value.specs.declared.record.Rec.{Rec}
use Rattle.cal_records.proofs.groups.take_groups.Goals as goal

pub returns-clause-taken : goal.returns-clause-taken
returns-clause-taken g c =
    let script = c.args.script.now in
    let journal = told script (option_copied c.args.journal) in
    let channel = c.args.channel.now in
    let taken = snapshots script journal channel in
    let on : channel.aggregate ≡ true = cc in
    let groups : group_records c.in_ok-query.query taken ≡ grouped script journal channel =
    ap (λ (k : Query). group_records k taken) c.in_ok-query.ensures.query
    ∙ sym (cond-true channel.aggregate (group_records (channel_query channel.query) taken) [] on) in
    on_ok_weaker c.take_query.result
    (λ takes before had. subst (λ (l : List Rec). g.T.Taker.has_taken c.take_query.new.taker c.take_query.new.context (before ++ l)) groups (takes before had))
    c.take_query.ensures.taken
