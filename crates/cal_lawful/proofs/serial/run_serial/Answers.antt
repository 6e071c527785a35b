use Rattle.std.proofs.Common.{◌≡◌, List, [], sym, ap, subst}
use Rattle.std.specs.Prelude.{if◌then◌else◌}
use Rattle.cal_lawful.proofs.serial.run_serial.Goals as goal
use Rattle.cal_profile.specs.Answers.{AnswersFor}
use Rattle.cal_profile.specs.Groups.{channel_query, group_records}
use Rattle.cal_run.specs.Runs.{snapshots}
use Rattle.cal_traces.proofs.Traces.{profiles_answer}
use Rattle.cal_value.specs.declared.record.Rec.{Rec}

pub run_records-requires-clause-read : goal.run_records-requires-clause-read
run_records-requires-clause-read c =
    c.lawful_journal_law.ensures c.args.script.now c.args.text.now.journal
    c.in_ok-check_journal.ensures.lawful.lawful

pub returns-clause-profiles : goal.returns-clause-profiles
returns-clause-profiles c valid channel q there aggregates coarser =
    let script = c.args.script.now in
    let journal = c.args.text.now.journal in
    let trace = snapshots script journal channel in
    subst (λ groups. AnswersFor q groups trace)
    (sym (ap (λ b. if b then group_records (channel_query channel.query) trace else [])
    aggregates))
    (profiles_answer script valid journal channel q there coarser)
